mod Filling
mod Signs
mod Literals
mod Asyncs
mod Steps
mod Once
mod Expressions
mod Held
mod Shapes
mod ItemShapes
pub mod Spelled
mod Known
mod Walking
mod Ruling
mod Stored
mod Declared
mod Flips
mod Matching
mod OneBit
mod Choices
mod Statements
mod Modules
mod Bundles
mod Memories
mod Showing
mod Circuits
pub mod WellFormed
pub mod Apart
