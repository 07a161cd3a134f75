pub mod Asked
pub mod Between
pub mod Growing
pub mod Outcome
