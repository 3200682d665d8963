pub mod Codes
pub mod Examples
pub mod Effects
pub mod FromNets
pub mod Sequences
pub mod Segmented
