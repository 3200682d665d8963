pub mod Operations
pub mod Kinds
pub mod Widths
pub mod Results
pub mod Integers
pub mod Values
pub mod Ports
pub mod Shapes
