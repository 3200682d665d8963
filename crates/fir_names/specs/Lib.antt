-- what a reader must believe
pub mod Extents
pub mod Scopes
pub mod Faults
-- what the bodies keep, and what proofs need
pub mod Finds
pub mod Graphs
pub mod Parts
pub mod Walks
pub mod Namespaces
pub mod Ranks
