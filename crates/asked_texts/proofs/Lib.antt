pub mod Searching
pub mod Splitting
pub mod Asking
pub mod Examples
