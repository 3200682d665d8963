pub mod Outside
pub mod HeldTexts
pub mod FailPlan
pub mod SinkMemory
pub mod ShelfMemory
pub mod ShelfReal
