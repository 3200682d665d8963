-- what a reader must believe
pub mod Formats
pub mod FormatReading
pub mod Items
pub mod Lines
pub mod Naming
