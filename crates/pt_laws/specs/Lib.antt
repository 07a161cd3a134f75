pub mod MeaningTheorems
pub mod HistoryTheorems
pub mod TurnTheorems
pub mod PacedReadings
pub mod NearClocks
