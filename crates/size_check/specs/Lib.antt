-- what a reader must believe
pub mod Faults
pub mod Measures
pub mod Weights
pub mod Typings
pub mod Owns
pub mod Standings
pub mod Limits
-- what the bodies keep, and what proofs need
pub mod Ranks
pub mod Caps
pub mod Rounds
pub mod Kept
pub mod Reaching
