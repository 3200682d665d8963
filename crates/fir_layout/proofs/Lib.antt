pub mod Layouts
pub mod Parts
pub mod Turning
pub mod Walks
