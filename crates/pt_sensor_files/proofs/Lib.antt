pub mod Asking
pub mod Counting
pub mod FewRows
pub mod Fetched
pub mod Fitting
pub mod Lateness
pub mod Recording
