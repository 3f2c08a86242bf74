pub mod Memory
pub mod Program
pub mod Calls
