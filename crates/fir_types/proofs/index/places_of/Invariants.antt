use Rattle.std.proofs.Common.{◌≡◌, take}
use Rattle.std.specs.Prelude.{sum}
use Rattle.fir_types.specs.Indexes.{ArePlaces}
use Rattle.fir_types.proofs.index.places_of.Given as goal

abbrev pub invariant-loop-position : goal.invariant-loop-position
invariant-loop-position l = record {
  places : ArePlaces l.places.entries (take l.position l.fields) l.weights;
  before : l.before ≡ sum (take l.position l.weights);
}
