pub mod Writing
pub mod Insertion
pub mod Room
