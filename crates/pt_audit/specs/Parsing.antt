pub mod Lines
pub mod Hints
pub mod Places
pub mod Fields
pub mod Items
pub mod Heads
pub mod Numbered
