pub mod Agreeing
pub mod Asked
pub mod Outcome
pub mod Passing
