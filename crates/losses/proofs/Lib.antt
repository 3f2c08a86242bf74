pub mod Losses
pub mod Cards
pub mod Calls
