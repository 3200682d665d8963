-- what a reader must believe
pub mod Ports
pub mod Traces
pub mod Ranges
-- a run of a net, for the contracts of the functions here
pub mod NetRuns
