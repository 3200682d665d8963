-- what a reader must believe
pub mod Pools
pub mod Regions
-- what the bodies keep
pub mod Holding
