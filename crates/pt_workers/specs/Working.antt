pub mod WorkerHands
pub mod Orders
pub mod Surveys
