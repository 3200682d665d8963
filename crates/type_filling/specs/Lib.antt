-- what a reader must believe
pub mod Filling
-- what the bodies keep
pub mod Layers
