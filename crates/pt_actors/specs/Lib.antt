pub mod Means
pub mod Room
pub mod Fired
