-- what a reader must believe
pub mod Settling
pub mod Leaves
pub mod Watching
