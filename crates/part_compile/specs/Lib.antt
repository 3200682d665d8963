-- what a reader must believe
pub mod Rooms
pub mod SlotBounds
pub mod Examples
pub mod FirstWords
pub mod Complete
pub mod Knowing
pub mod Parts
-- what is known of a code
pub mod Pieces
pub mod Frames
-- what the bodies keep, and what proofs need
pub mod Counts
pub mod Rows
pub mod Telling
pub mod KeptRows
pub mod PartRows
pub mod Groups
