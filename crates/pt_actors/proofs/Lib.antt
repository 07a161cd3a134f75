pub mod Means
pub mod Totals
pub mod Cells
pub mod Guards
pub mod Onto
