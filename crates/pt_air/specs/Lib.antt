pub mod AirOf
pub mod Bounds
pub mod Lines
pub mod Rows
