pub mod Rows
pub mod Sensors
pub mod Due
