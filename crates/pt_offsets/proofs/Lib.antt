pub mod Admitted
pub mod ByWord
pub mod Listed
pub mod Maxima
pub mod Small
pub mod Sources
pub mod Times
