-- what a reader must believe
pub mod Instances
pub mod FlatOrder
pub mod Numbers
pub mod Flat
pub mod Examples
-- what the bodies keep, and what proofs need
pub mod Plans
