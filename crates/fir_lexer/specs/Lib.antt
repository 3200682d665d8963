-- what a reader must believe
pub mod Bytes
pub mod Pieces
pub mod Tokens
pub mod Faults
-- what the bodies keep, and what proofs need
pub mod Scan
pub mod Ranks
