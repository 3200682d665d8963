pub mod Complement
pub mod Congruence
pub mod Digits
pub mod Readings
