pub mod Steps
pub mod Ducts
pub mod Marks
pub mod Sums
pub mod Losses
