pub mod Answers
pub mod Stores
pub mod Queries
