pub mod Readers
pub mod Rounds
pub mod Small
pub mod ByFlips
pub mod Walked
