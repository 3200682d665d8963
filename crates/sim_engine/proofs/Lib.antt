mod Verdicts
pub mod Solving
pub mod Settling
pub mod Accepting
pub mod Alike
pub mod Once
pub mod Given
