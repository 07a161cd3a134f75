mod Moments
mod Opening
mod Passes
mod Runs
mod Showing
mod Steps
pub mod Visits
