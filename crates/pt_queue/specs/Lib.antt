pub mod Groups
pub mod Events
pub mod Lines
pub mod Scans
pub mod Tagged
pub mod Marks
