-- what a reader must believe
pub mod Codes
pub mod Standing
pub mod Scripts
pub mod Places
-- what the bodies keep, and what proofs need
pub mod Lists
pub mod Asked
pub mod Spreads
pub mod Turns
