-- what a reader must believe
pub mod Epochs
pub mod Runs
pub mod Feeding
pub mod RunTexts
pub mod Lengths
pub mod TraceTexts
pub mod WatchedTexts
pub mod Summaries
-- what the bodies keep, and what proofs need
pub mod Crews
pub mod Progress
