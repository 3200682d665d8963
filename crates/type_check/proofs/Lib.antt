mod FaultsOfStatements
pub mod Equivalence
mod Examples
mod Lines
mod Seconds
mod Forms
mod Judgements
mod Ways
mod Walking
mod Kept
mod Telling
mod Reaching
