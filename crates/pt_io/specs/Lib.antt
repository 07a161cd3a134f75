pub mod Causes
pub mod Contents
pub mod Rooms
pub mod Calls
pub mod Clocks
