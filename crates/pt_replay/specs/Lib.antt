pub mod Visits
pub mod Outcome
pub mod Shown
pub mod Passing
