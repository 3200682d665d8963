use Rattle.std.proofs.Common.{◌≡◌, ◌||◌, take}
use Rattle.std.specs.List.{list_any}
use Rattle.fir_meaning.specs.Components.{Leaf}
use Rattle.fir_meaning.specs.Certain.{may_be}
use Rattle.drive_check.specs.Keys.{is_among}
use Rattle.drive_check.specs.Spots.{region_at}
use Rattle.drive_check.proofs.undriven.drive_spot.Given as goal

abbrev pub invariant-loop-leaf : goal.invariant-loop-leaf
invariant-loop-leaf l = (leaf : Leaf) → is_among l.certain.keys.keys leaf ≡ (list_any (may_be l.flip (region_at l.spot) leaf) (take l.leaf-index l.leaf-items) || is_among l.fn.certain.keys.keys leaf)
