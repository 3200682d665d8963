pub mod OperandsChosen
pub mod OperandsRead
pub mod Passing
pub mod Choices
pub mod TypeCases
pub mod Bracketed
pub mod TypeFields
pub mod TypeNames
pub mod TypeLengths
pub mod TypeFlips
pub mod LiteralCases
pub mod LiteralHeads
pub mod LiteralIntegers
pub mod LiteralBrackets
mod Underway
