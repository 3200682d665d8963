-- what a reader must believe
pub mod Cuts
pub mod Splits
pub mod Examples
-- what the bodies keep, and what proofs need
pub mod Rows
pub mod Walks
pub mod Loads
pub mod Marks
pub mod Tallies
