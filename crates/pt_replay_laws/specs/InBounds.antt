pub mod AsPaced
pub mod InBounds
