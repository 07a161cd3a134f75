pub mod Sent
pub mod Pushed
pub mod Emptied
pub mod Visits
pub mod Lawful
