-- what a reader must believe
pub mod Sites
pub mod Finding
pub mod Applying
pub mod Registers
pub mod Contents
-- what the bodies keep, and what proofs need
pub mod Choosing
pub mod Writing
