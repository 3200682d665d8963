-- what a reader must believe
pub mod Graph
pub mod Faults
pub mod Spreads
-- what the bodies keep, and what proofs need
pub mod Search
pub mod Reach
pub mod Parts
pub mod Graphs
pub mod Ranks
pub mod Spreading
