use Rattle.std.proofs.Common.{◌≡◌, length}
use Rattle.lower_aggregates.specs.Circuits.{StandsFrom, AreMade}
use Rattle.lower_aggregates.proofs.lowering.lower_modules.Given as goal

abbrev pub invariant-loop-number : goal.invariant-loop-number
invariant-loop-number l = StandsFrom l.fn.fitted l.number l.rest × (length l.modules ≡ l.number) × AreMade l.fn.fitted l.modules
