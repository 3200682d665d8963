pub mod Members
mod Memories
mod Circuits
pub mod Typing
mod Driving
pub mod Faults
pub mod Nodes
pub mod Sound
pub mod Typed
pub mod Layers
mod Conditions
mod Tables
mod Once
mod Standing
mod Known
pub mod Faultless
mod NodeExamples
mod Shaping
mod Sorts
mod Apart
mod Ports
mod TypeExamples
mod References
mod Meaning
mod Agreeing
mod NameExamples
mod Steps
mod Components
mod Expressions
mod Statements
mod CircuitFlows
mod FlowExamples
