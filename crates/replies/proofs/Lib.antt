pub mod Slices
pub mod Digits
pub mod Output
