pub mod Heads
pub mod Reading
pub mod Branching
pub mod Expected
pub mod Keys
pub mod Taking
