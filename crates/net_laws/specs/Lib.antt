pub mod Typed
pub mod Serves
pub mod Runs
pub mod FirstLoops
