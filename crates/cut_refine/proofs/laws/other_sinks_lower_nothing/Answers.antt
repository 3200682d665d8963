use Rattle.cone_cutter.specs.Cuts.{InConeOf}
use Rattle.cut_refine.proofs.Looking.{others_lower_nothing, two_lower_nothing}
use Rattle.cut_refine.proofs.Starting.{cut_sized}
use Rattle.cut_refine.proofs.laws.other_sinks_lower_nothing.Goals as goal

pub returns : goal.returns
returns c = record {
  kept = λ ordered watch workers start is owners long. λ part greatest. others_lower_nothing (InConeOf ordered.net watch) workers owners part greatest (cut_sized ordered watch workers start is owners long);
  two = λ ordered watch workers start is owners long. λ part other greatest. two_lower_nothing (InConeOf ordered.net watch) workers owners part other greatest (cut_sized ordered watch workers start is owners long);
}
