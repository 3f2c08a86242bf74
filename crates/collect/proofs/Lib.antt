pub mod Threeways
pub mod Collecting
pub mod Keeping
pub mod LineEnds
