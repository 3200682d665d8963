-- what a dump says, and its text
pub mod Changes
pub mod Texts
-- reading a dump
pub mod Reading
-- its pieces
pub mod Pieces
-- small dumps
pub mod Examples
