pub mod Visits
pub mod Moments
