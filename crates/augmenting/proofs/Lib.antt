pub mod Searching
pub mod Leading
