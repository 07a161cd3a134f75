pub mod Entries
pub mod Shape
pub mod Fitting
pub mod Steady
pub mod Timely
pub mod Actuations
