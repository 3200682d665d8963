-- what a reader must believe
pub mod Commands
pub mod Texts
