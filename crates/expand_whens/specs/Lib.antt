-- what a reader must believe
pub mod Expanding
-- what the bodies keep, and what proofs need
pub mod Ways
pub mod Walking
