use Rattle.cut_listing.proofs.OneCut.{one_listing}
use Rattle.cut_listing.proofs.cut_laws.same_cones_have_one_listing.Goals as goal

pub returns : goal.returns
returns c = λ a b seen other workers cut same count to from g h. one_listing a b seen other workers cut same count to from g h
