pub mod Births
pub mod Tally
pub mod Zoning
pub mod Zones
pub mod Sizing
pub mod Calls
