pub mod LinkEnds
pub mod Opened
pub mod Reported
pub mod Working
