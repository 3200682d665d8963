pub mod Trace
pub mod Components
pub mod Listing
