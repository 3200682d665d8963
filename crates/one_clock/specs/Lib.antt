-- what the bodies keep, and what proofs need
pub mod Modules
pub mod Tables
pub mod Stands
pub mod Chains
pub mod Judged
