-- what a reader must believe
pub mod Finding
-- what the bodies keep, and what proofs need
pub mod Tables
pub mod Walking
pub mod PieceRows
