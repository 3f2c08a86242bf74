pub mod Cards
pub mod Zones
