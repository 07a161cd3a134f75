pub mod SoFar
pub mod Linking
pub mod Whole
pub mod Fronts
pub mod Sound
