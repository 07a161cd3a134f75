pub mod MoreRows
