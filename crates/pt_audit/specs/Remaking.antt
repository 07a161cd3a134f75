pub mod Following
pub mod Lasts
pub mod Remade
pub mod Steps
