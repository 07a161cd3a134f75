pub mod Numbers
pub mod Powers
pub mod Tables
