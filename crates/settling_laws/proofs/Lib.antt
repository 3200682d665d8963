-- what leaves read, and what the edge takes
pub mod Typing
pub mod Mentioning
pub mod Reading
-- all leaves
pub mod Listing
pub mod Traces
-- what is left in driven leaves
pub mod Inside
pub mod Driven
pub mod Places
pub mod Sound
pub mod Following
pub mod Steady
pub mod Fixed
pub mod Existence
mod Examples
pub mod Sames
pub mod Nexts
pub mod Stills
