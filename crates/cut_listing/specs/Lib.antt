pub mod Listing
pub mod CircuitCuts
-- what a reader must believe
pub mod RefinedTexts
