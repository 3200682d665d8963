use Rattle.cut_listing.proofs.Accepted.{one_cut}
use Rattle.cut_listing.proofs.cut_laws.cuts_of_a_well_formed_circuit_are_one.Goals as goal

pub returns : goal.returns
returns c = λ texts fitted well workers bytes other a b. one_cut texts fitted well workers bytes other a b
