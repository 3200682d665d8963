pub mod Written
pub mod HeldTexts
pub mod Counts
