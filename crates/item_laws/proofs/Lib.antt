mod Numbers
mod Picking
mod Below
mod Growing
mod Driving
mod Modules
mod Shown
mod Nodes
mod Making
mod Holding
mod Heading
mod Typing
mod Filled
mod Resolving
pub mod Sound
mod Examples
mod ExamplesOfItems
