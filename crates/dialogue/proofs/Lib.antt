pub mod Slices
pub mod Blocks
pub mod Inputs
