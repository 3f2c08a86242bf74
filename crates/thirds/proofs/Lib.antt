pub mod Tree3
pub mod Chaining
pub mod Following
