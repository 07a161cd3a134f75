pub mod Each
pub mod Turns
pub mod Listed
pub mod Hollow
pub mod Members
pub mod Tops
pub mod Wholes
pub mod Inners
