pub mod Connects
pub mod Targets
pub mod Sides
pub mod Nodes
pub mod Declares
pub mod Bodies
pub mod Arms
