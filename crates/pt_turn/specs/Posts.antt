pub mod Sent
pub mod Room
pub mod Posted
