pub mod InTime
pub mod Misses
pub mod Platforms
