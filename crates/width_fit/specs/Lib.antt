-- what a reader must believe
pub mod Judging
pub mod Faults
pub mod Fitting
pub mod Written
-- what the bodies keep, and what proofs need
pub mod Surveys
pub mod Marks
pub mod Memories
pub mod Walks
pub mod Held
pub mod Looks
pub mod Ranks
