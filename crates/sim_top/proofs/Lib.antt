pub mod AnswersOnce
pub mod Judging
pub mod Naming
pub mod Replying
pub mod Carrying
pub mod EmptyText
pub mod Apart
mod Small
