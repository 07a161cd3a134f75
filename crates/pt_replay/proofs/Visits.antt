pub mod Arrived
pub mod Awaited
pub mod Visited
pub mod Leasts
pub mod Moving
pub mod Replacing
pub mod Resting
