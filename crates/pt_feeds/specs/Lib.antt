pub mod Arrivals
pub mod AsInFiles
pub mod Coming
pub mod Fields
pub mod Given
pub mod Kept
pub mod Lines
