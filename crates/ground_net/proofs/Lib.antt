mod Numbering
mod Names
pub mod Layers
pub mod Stretches
pub mod Following
pub mod Listing
pub mod Loops
pub mod Settling
pub mod Shaping
pub mod Mentioning
pub mod Examples
mod ExamplesOfCones
pub mod Placing
pub mod StateWords
pub mod Ranges
