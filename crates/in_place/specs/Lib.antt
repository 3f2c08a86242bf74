pub mod Session
pub mod Queries
pub mod InPlace
