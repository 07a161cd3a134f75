pub mod Rule
pub mod Plays
pub mod Seats
pub mod Keepers
pub mod Hands
