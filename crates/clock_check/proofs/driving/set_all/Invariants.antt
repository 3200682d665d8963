use Rattle.std.proofs.Common.{◌≡◌, take, option_map, if◌then◌else◌}
use Rattle.std.specs.List.{list_any}
use Rattle.fir_meaning.specs.Components.{Leaf}
use Rattle.drive_check.specs.Keys.{leaf_of_key}
use Rattle.clock_check.specs.Driving.{driver_by, driver_of, is_behind}
use Rattle.clock_check.proofs.driving.set_all.Given as goal

abbrev pub invariant-loop-way : goal.invariant-loop-way
invariant-loop-way l = (leaf : Leaf) → driver_of l.drivers.known.entries leaf
    ≡ (if list_any (is_behind l.reach.component l.part.path leaf) (take l.way-index l.way-items) then driver_by (option_map (λ key. leaf_of_key key.now) l.source) else driver_of l.fn.drivers.known.entries leaf)
