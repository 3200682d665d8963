-- what a reader must believe
pub mod Printed
pub mod Logging
pub mod Printing
pub mod Wires
pub mod Wired
pub mod RunItems
pub mod Logs
-- what laws ask of items
pub mod Sound
