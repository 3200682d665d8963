use Rattle.cut_listing.proofs.OneListing.{one_refined_listing}
use Rattle.cut_listing.proofs.refine_laws.same_cones_have_one_refined_listing.Goals as goal

pub returns : goal.returns
returns c = one_refined_listing
