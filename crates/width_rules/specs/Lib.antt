-- what a reader must believe
pub mod Places
pub mod Formulas
pub mod Sources
pub mod Circuits
pub mod Solutions
-- what the bodies keep, and what proofs need
pub mod Layers
pub mod Lists
pub mod Pieces
pub mod Parts
pub mod Targets
pub mod Walks
