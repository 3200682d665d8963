pub mod Ends
pub mod Quotes
pub mod Readings
pub mod Rests
pub mod Runs
