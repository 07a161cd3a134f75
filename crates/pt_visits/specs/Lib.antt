pub mod Pipes
pub mod Visited
pub mod Pushing
pub mod Least
