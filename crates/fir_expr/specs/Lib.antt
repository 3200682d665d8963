-- what a reader must believe
pub use Rattle.token_reader.specs.Standing
-- what the bodies keep, and what proofs need
pub mod Operands
pub mod Parts
pub mod TypeParts
pub mod LiteralParts
pub mod LiteralHeads
pub mod LiteralIntegers
