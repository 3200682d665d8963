pub mod Lists
pub mod Asked
pub mod Spreads
pub mod Scripts
pub mod Rows
