pub mod Blocks
pub mod Shipped
