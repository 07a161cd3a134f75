pub mod Answering
pub mod Keeping
pub mod Lanes
pub mod Puts
pub mod Stations
pub mod Takes
pub mod Visits
