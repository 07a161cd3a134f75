pub mod Safe
pub mod Ahead
pub mod Fronts
pub mod Early
pub mod Claimed
pub mod Least
pub mod Next
