mod Existing
mod Parts
mod Slots
mod Filled
mod Numbers
mod Resets
mod Statements
pub mod Modules
mod Reached
