pub mod Leaves
pub mod Passivity
pub mod Equivalence
pub mod Bundles
pub mod Memories
pub mod Runs
pub mod Indexes
pub mod Spots
