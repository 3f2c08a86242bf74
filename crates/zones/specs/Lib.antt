pub mod Zoning
pub mod Cut
pub mod Sizing
pub mod Statements
