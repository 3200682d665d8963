use Rattle.cut_listing.proofs.RefinedOnce.{one_refined_text}
use Rattle.cut_listing.proofs.refine_laws.refined_texts_of_a_well_formed_circuit_are_one.Goals as goal

pub returns : goal.returns
returns c = one_refined_text
