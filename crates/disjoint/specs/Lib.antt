pub mod Paths
pub mod Matching
pub mod Replies
pub mod Statements
