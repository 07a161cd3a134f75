pub mod SoFar
pub mod Linking
pub mod Sound
pub mod Whole
pub mod Fronts
