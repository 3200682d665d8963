-- what a reader must believe
pub mod Flows
-- what the bodies keep, and what proofs need
pub mod Counting
pub mod Declarations
pub mod Reached
