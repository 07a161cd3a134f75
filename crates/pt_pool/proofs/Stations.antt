pub mod Collects
pub mod Places
pub mod Stations
