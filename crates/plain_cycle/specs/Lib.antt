-- what a reader must believe
-- declarations as they are held, with their types
pub mod Held
pub mod Parts
-- lists in which nothing stands twice
pub mod Apart
-- the places of modules, and the components there
pub mod Places
pub mod Layouts
-- what stands beside the items of a list
pub mod Firsts
pub mod Runs
pub mod Given
-- what the bodies keep, and what proofs need
pub mod Edges
