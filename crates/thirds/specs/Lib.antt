pub mod Tree3
pub mod Chains
pub mod Nearing
