pub mod Matching
pub mod Numbers
pub mod Ranges
pub mod Given
pub mod Asking
