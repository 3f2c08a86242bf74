pub mod Losses
pub mod Statements
