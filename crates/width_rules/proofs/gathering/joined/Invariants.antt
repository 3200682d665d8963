use Rattle.std.proofs.Common.{◌≡◌, take, List}
use Rattle.std.specs.List.{flat_map}
use Rattle.width_rules.specs.declared.slot.Slot.{Slot}
use Rattle.width_rules.proofs.gathering.joined.Given as goal

abbrev pub invariant-loop-own : goal.invariant-loop-own
invariant-loop-own l = l.slots ≡ flat_map (λ (slots : List Slot). slots) (take l.own-index l.ports)
