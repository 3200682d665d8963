-- what a reader must believe
pub mod StimulusParts
pub mod Held
pub mod StateTexts
pub mod Apart
pub mod Variables
pub mod VcdTexts
pub mod Going
-- what the body keeps
pub mod Steps
-- the same of a net, for the contracts of the functions here
pub mod NetNames
-- what a run of items is watched by
pub mod Watched
-- what a run goes by, for the contracts of the functions here
pub mod LogPlans
