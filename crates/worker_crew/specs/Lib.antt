-- what the bodies keep, and what proofs need
pub mod Crew
pub mod Numbers
pub mod Threads
pub mod Frames
pub mod Joins
