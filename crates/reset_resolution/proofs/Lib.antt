pub mod Types
pub mod Expressions
pub mod Stepping
pub mod Ranging
pub mod Walking
pub mod Ported
pub mod Resolution
pub mod Whole
