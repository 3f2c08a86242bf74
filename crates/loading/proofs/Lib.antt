pub mod Loads
pub mod Stores
