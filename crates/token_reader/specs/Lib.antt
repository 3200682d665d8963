-- what a reader must believe
pub mod Standing
-- what the bodies keep, and what proofs need
pub mod Parts
pub mod LineStarts
