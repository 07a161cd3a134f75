pub mod Gathered
pub mod Joined
pub mod Moments
pub mod Making
