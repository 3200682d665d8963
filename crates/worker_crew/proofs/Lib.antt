pub mod Crews
pub mod Numbers
pub mod Joining
