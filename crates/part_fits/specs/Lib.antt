-- what a reader must believe
pub mod Widths
-- what the bodies keep
pub mod Fits
pub mod Seen
