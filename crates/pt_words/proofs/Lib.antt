pub mod Agreeing
pub mod Parsing
pub mod Rows
pub mod Shapes
pub mod Steps
pub mod Numbers
pub mod PresentAnswers
