pub mod Indexed
pub mod Places
pub mod Grounds
pub mod Made
pub mod Pairs
pub mod Leading
pub mod Nowhere
pub mod TwoModules
pub mod OneMemory
mod Delayed
mod Chained
