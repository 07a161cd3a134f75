pub mod Ending
pub mod Existence
pub mod FixedOrderTheorems
pub mod Schedule
pub mod WholeRuns
pub mod PacedTheorems
pub mod NearClocks
