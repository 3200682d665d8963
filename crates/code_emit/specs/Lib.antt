-- what a reader must believe
pub mod Ways
pub mod Emits
pub mod Counts
pub mod Spans
pub mod Nested
-- what the bodies keep, and what proofs need
pub mod Working
pub mod Rows
