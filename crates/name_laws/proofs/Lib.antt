pub mod Tokens
pub mod Spelled
pub mod Marks
pub mod Flat
pub mod Items
mod Examples
