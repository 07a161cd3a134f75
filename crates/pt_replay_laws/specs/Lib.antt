pub mod Between
pub mod Ending
pub mod ReplayRounds
pub mod InBounds
pub mod OneReplay
pub mod ReplayState
pub mod Times
