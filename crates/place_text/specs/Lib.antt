pub mod Places
pub mod Order
pub mod First
pub mod Verdicts
