use Rattle.std.proofs.Common.{◌≡◌, ◌+◌, ◌-◌, suc}
use Rattle.fir_types.specs.Bundles.{least_reaching}
use Rattle.plain_values.proofs.literals.least_bits.Given as goal

abbrev pub invariant-loop-more : goal.invariant-loop-more
invariant-loop-more l = least_reaching (suc l.number) l.from 127 ≡ least_reaching (suc l.number) (l.from + l.more) (127 - l.more)
