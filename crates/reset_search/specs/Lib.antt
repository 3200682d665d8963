pub mod Rows
pub mod Layers
-- what a reader must believe
pub mod Grounds
pub mod Feeds
pub mod Resolved
-- what the search finds, and where none is needed
pub mod Searched
pub mod Sources
