pub mod Returns
pub mod Calls
