-- what a reader must believe
pub mod Passing
pub mod OrderedNets
pub mod Stages
pub mod Faults
pub mod Building
pub mod Only
-- what the bodies keep, and what proofs need
pub mod Unfit
