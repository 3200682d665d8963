use Rattle.std.proofs.Common.{◌≡◌, drop}
use Rattle.std.specs.List.{list_any}
use Rattle.width_fit.specs.Judging.{is_unknown}
use Rattle.width_fit.proofs.walk.any_unknown.Given as goal

abbrev pub invariant-loop-slot : goal.invariant-loop-slot
invariant-loop-slot l = list_any (is_unknown l.given.rules.now) l.slots ≡ list_any (is_unknown l.given.rules.now) (drop l.slot-index l.slots)
