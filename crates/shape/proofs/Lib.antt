pub mod Tests
pub mod Shape
pub mod Marks
pub mod Between
