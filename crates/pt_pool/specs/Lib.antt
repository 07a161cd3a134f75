pub mod Answers
pub mod Ends
pub mod Lanes
pub mod Stations
pub mod LinkedPlatform
