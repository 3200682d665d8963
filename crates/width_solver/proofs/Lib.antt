pub mod Examples
pub mod Greatest
pub mod Noting
pub mod Replacing
pub mod Standing
pub mod Variables
pub mod Waking
mod Flips
mod Targets
mod Walking
mod Whole
