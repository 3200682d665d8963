use Rattle.std.proofs.Common.{[], ◌≤◌, length}
use Rattle.fir_meaning.specs.Components.{design_of}
use Rattle.plain_cycle.specs.Places.{stands_of}
use Rattle.plain_cycle.proofs.Placing.{Listed}
use Rattle.plain_cycle.proofs.places.places_of.Given as goal

-- so many of the places that are listed have been left behind
abbrev pub invariant-loop-at : goal.invariant-loop-at
invariant-loop-at l = Listed (design_of l.fitted) ([], l.fitted.checked.resolved.main.id) (stands_of l.places.items) l.at × (l.at ≤ length l.places.items)
