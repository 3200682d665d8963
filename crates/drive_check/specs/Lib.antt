-- what a reader must believe
pub mod Sites
pub mod Faults
pub mod Initialized
-- what the bodies keep, and what proofs need
pub mod Ranks
pub mod Keys
pub mod Noted
pub mod Typing
pub mod HeldTypes
pub mod Spots
pub mod Follows
pub mod Walks
pub mod Modules
