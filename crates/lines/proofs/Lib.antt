pub mod Decimals
pub mod Parts
pub mod EarNumbers
pub mod ReadExactly
pub mod Steps
pub mod Examples
