pub mod Programs
pub mod Worked
pub mod Readings
pub mod Smallest
pub mod SmallestPaced
