use Rattle.std.proofs.Common.{◌+◌, ◌-◌, slice_index}
use Rattle.cone_cutter.specs.Loads.{IsCheapest}
use Rattle.cone_cutter.proofs.loads.cheapest.Given as goal

abbrev pub invariant-loop-part : goal.invariant-loop-part
invariant-loop-part l = IsCheapest (λ p. slice_index l.costs p + (l.size - slice_index l.shared p)) l.part l.best
