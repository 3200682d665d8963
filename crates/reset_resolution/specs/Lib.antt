-- what a reader must believe
pub mod Itself
-- what the bodies keep
pub mod Layers
pub mod Walked
