use Rattle.std.proofs.Common.{[], ◌≤◌, length}
use Rattle.one_clock.specs.Stands.{stands_of}
use Rattle.one_clock.proofs.Standing.{Listed}
use Rattle.one_clock.proofs.places.places_of.Given as goal

-- so many of the places that are listed have been left behind
abbrev pub invariant-loop-at : goal.invariant-loop-at
invariant-loop-at l = Listed l.table.entries ([], l.fn.main) (stands_of l.places.items) l.at × (l.at ≤ length l.places.items)
