use Rattle.std.proofs.Common.{◌≡◌, take}
use Rattle.std.specs.List.{list_any}
use Rattle.fir_meaning.specs.Components.{FlatLeaf}
use Rattle.clock_check.specs.Flats.{is_within}
use Rattle.clock_check.specs.Searched.{sinks_at}
use Rattle.one_clock.specs.Chains.{joins_at}
use Rattle.one_clock.proofs.chains.chains_of.Given as goal

abbrev pub invariant-loop-place : goal.invariant-loop-place
invariant-loop-place l = (x y : FlatLeaf) → is_within (sinks_at l.sinks.sinks.entries y) x ≡ list_any (joins_at l.table.entries x y) (take l.place-index l.places)
