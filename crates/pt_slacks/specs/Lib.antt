pub mod Hops
pub mod Listed
pub mod Needs
pub mod Rings
pub mod Rows
pub mod Slacks
pub mod Text
pub mod Trails
