pub mod Touch
pub mod Moves
pub mod Opening
