-- what a reader must believe
pub mod Cells
pub mod Texts
pub mod Faults
pub mod Ranks
pub mod Snapshots
-- what the bodies keep
pub mod Steps
pub mod Going
-- small states
pub mod Examples
