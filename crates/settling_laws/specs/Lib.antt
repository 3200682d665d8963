pub mod Typed
pub mod Sweeps
pub mod Runs
