pub mod Script
pub mod Sound
pub mod Steps
pub mod Laws
