pub mod Errors
pub mod Given
pub mod Keeping
pub mod Loop
pub mod Senders
pub mod Sizes
