pub mod Going
pub mod Opens
pub mod Counted
pub mod Posting
pub mod Fitting
pub mod Skipping
