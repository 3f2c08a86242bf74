pub mod Zoning
