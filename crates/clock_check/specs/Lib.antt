-- what a reader must believe
pub mod Faults
pub mod Clocked
-- what the bodies keep, and what proofs need
pub mod Ranks
pub mod Driving
pub mod Edges
pub mod Gets
pub mod Rooted
pub mod Hung
pub mod HangsOther
pub mod Flats
pub mod Searched
pub mod Makes
pub mod Enters
pub mod Joins
