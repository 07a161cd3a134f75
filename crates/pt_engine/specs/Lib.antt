pub mod Asked
pub mod Shown
pub mod Showing
pub mod MoreShown
pub mod Outcome
pub mod Idle
