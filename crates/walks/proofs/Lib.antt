pub mod Lengths
pub mod Visits
pub mod Written
