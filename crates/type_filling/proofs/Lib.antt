mod Behind
mod Examples
pub mod Runs
