-- what a reader must believe
pub mod Parts
pub mod Texts
pub mod Expressions
pub mod Memories
pub mod Statements
pub mod Faults
-- what the bodies keep, and what proofs need
pub mod Noted
pub mod Walks
pub mod Judging
pub mod Ranks
