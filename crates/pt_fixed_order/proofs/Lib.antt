pub mod Counting
pub mod Growing
pub mod OneVisit
pub mod Starting
pub mod Steps
