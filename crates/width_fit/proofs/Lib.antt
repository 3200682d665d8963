mod Declaring
pub mod Filled
mod Formulas
mod Marking
pub mod Measured
mod FaultsTold
mod Surveys
mod Walking
mod Looking
mod Choosing
mod MemoryTypes
mod Whole
