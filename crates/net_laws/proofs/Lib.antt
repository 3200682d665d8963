pub mod Numbers
pub mod Integers
pub mod Seen
pub mod Nexts
pub mod Rows
pub mod Traces
pub mod Lists
pub mod Standing
pub mod Once
pub mod Declared
pub mod Accepted
pub mod FlatOrders
pub mod Loops
pub mod Verdicts
pub mod Searching
mod ExampleOfALoop
