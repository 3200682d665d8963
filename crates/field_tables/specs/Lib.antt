pub mod Before
pub mod Fits
