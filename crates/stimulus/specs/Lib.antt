-- what a reader must believe
pub mod Words
pub mod Forms
pub mod Faults
pub mod Stimuli
pub mod Rows
-- what the bodies keep, and what proofs need
pub mod Ranks
pub mod Reading
pub mod Naming
pub mod Judging
pub mod RowSteps
