pub mod Adding
pub mod Fetching
pub mod Fitting
pub mod Lines
pub mod Option
