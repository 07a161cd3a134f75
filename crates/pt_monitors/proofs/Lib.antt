pub mod InTime
pub mod Latest
pub mod Levels
pub mod Members
pub mod Missing
pub mod Sent
