pub mod AsPaced
pub mod Visits
pub mod Replays
pub mod Rounds
pub mod Ways
