pub mod Memories
pub mod Writes
pub mod WriteGroups
pub mod Captures
pub mod Groups
-- what the bodies give
pub mod Nexts
pub mod Telling
pub mod SinkGroups
pub mod NextReads
