pub mod Cuts
pub mod Written
