mod Joining
mod Ranges
mod Lengths
