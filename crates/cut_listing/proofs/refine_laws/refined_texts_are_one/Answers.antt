use Rattle.cut_listing.proofs.RefinedOnce.{one_text}
use Rattle.cut_listing.proofs.refine_laws.refined_texts_are_one.Goals as goal

pub returns : goal.returns
returns c = one_text
