mod Stepping
mod Ports
mod Declaring
mod Passing
mod Sentences
mod Examples
