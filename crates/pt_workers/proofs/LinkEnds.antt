pub mod Lists
pub mod Laying
pub mod Matching
pub mod Returning
pub mod Apart
pub mod Whole
pub mod Numbered
