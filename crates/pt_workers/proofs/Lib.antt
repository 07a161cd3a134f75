mod Ending
mod Links
mod Naming
mod LinkedPlatforms
pub mod LinkEnds
pub mod Working
