pub mod Between
pub mod Growth
pub mod Joining
pub mod Meant
pub mod Written
