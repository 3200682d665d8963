-- what a reader must believe, and at the end of Endings what the bodies keep
pub mod Needing
pub mod Answers
pub mod Endings
