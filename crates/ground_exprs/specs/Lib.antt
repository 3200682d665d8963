pub mod Parts
pub mod Numbers
pub mod Sources
pub mod Choices
pub mod Views
