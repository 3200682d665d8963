pub mod Formulas
pub mod Residues
pub mod Rows
pub mod Moves
pub mod Divisions
pub mod Examples
pub mod Fittings
