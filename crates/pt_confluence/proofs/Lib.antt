pub mod Lines
pub mod All
pub mod Tables
pub mod Neighbours
pub mod Claims
pub mod Meant
pub mod Ordering
pub mod Sorting
