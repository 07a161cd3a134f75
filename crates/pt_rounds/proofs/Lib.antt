pub mod Agreeing
pub mod Leasts
pub mod Passes
pub mod Runs
pub mod Showing
pub mod Steps
