pub mod Reaching
pub mod Leading
pub mod Blind
pub mod Once
pub mod Stays
pub mod Counts
pub mod Placed
pub mod Sourceless
pub mod Bundled
pub mod Clean
pub mod Itself
mod Samples
mod Examples
mod ExamplesOfCircuits
pub mod Numbering
pub mod Holding
pub mod Rowing
pub mod Searching
pub mod Resolving
pub mod Masking
