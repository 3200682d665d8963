use Rattle.std.proofs.Common.{◌≡◌, ◌||◌, take}
use Rattle.std.specs.List.{list_any}
use Rattle.fir_meaning.specs.Components.{FlatLeaf}
use Rattle.clock_check.specs.Flats.{is_within}
use Rattle.clock_check.specs.Searched.{sinks_at}
use Rattle.clock_check.specs.Joins.{joins}
use Rattle.clock_check.proofs.joining.add_links.Given as goal

abbrev pub invariant-loop-link : goal.invariant-loop-link
invariant-loop-link l = (x y : FlatLeaf) → is_within (sinks_at l.sinks.sinks.entries y) x ≡ (is_within (sinks_at l.fn.sinks.sinks.entries y) x || list_any (joins l.targets.entries l.path x y) (take l.link-index l.links))
