pub mod Checker
pub mod Offsets
pub mod SmallestRun
pub mod SmallestRounds
