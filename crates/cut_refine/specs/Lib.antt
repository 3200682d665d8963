-- what a reader must believe
pub mod Refining
-- the cost of parts by counts, and what a move of one sink makes of it
pub mod Costs
-- four registers
pub mod Examples
-- what the functions keep between them
pub mod Standing
