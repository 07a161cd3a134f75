pub mod Growing
pub mod RowsNext
