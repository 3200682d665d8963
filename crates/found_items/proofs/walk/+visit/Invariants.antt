use Rattle.std.proofs.Common.{◌≡◌, ℕ, ◌+◌, ◌*◌, List, take}
use Rattle.std.specs.Prelude.{slice_get, Some}
use Rattle.fir_meaning.specs.Components.{TypedModule, design_of, modules_of, module_at}
use Rattle.net_of_circuit.specs.FlatOrder.{Placed, InFlatOrder, Standing}
use Rattle.found_items.specs.Walking.{StandsBehind, Going, HasNames}
use Rattle.found_items.proofs.walk.+visit.Given as goal

abbrev pub decreases-visit : goal.decreases-visit
decreases-visit l = 2 * l.left + 1

abbrev pub decreases-pass : goal.decreases-pass
decreases-pass l = 2 * l.left

abbrev pub invariant-visit-loop-row : goal.invariant-visit-loop-row
invariant-visit-loop-row l = record {
  names : (m : TypedModule) → slice_get (modules_of l.table.fitted.now) l.number ≡ Some m → HasNames (take l.row-index m.components) l.walk.firsts.entries;
  going : (path : List ℕ) (m : TypedModule) (placed : List Placed) (all : List Standing) → module_at (design_of l.table.fitted.now) path ≡ Some m → slice_get (modules_of l.table.fitted.now) l.number ≡ Some m
      → InFlatOrder (design_of l.table.fitted.now) path m m.components placed → StandsBehind all l.fn.next placed → Going l.table.fitted.now all path m placed l.fn.next l.row-index l.walk;
}
