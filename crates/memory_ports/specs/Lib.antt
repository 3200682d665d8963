-- what a reader must believe
pub mod Placing
pub mod Sound
pub mod Examples
-- what the bodies keep, and what proofs need
pub mod Keeping
