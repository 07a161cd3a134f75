pub mod App
pub mod Before
pub mod Claims
pub mod Grammar
pub mod PresentAnswers
pub mod Said
pub mod Short
pub mod Views
