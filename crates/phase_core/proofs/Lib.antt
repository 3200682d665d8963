pub mod Lists
pub mod Shapes
pub mod Totals
pub mod Values
pub mod Facts
pub mod Keeps
pub mod Runs
