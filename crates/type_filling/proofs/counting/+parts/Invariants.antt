use Rattle.std.proofs.Common.{◌≤◌}
use Rattle.fir_types.specs.declared.fir_type.FirType.{size-FirType}
use Rattle.type_filling.proofs.counting.+parts.Given as goal

abbrev pub invariant-parts_of-loop-inside : goal.invariant-parts_of-loop-inside
invariant-parts_of-loop-inside l = size-FirType l.inside ≤ size-FirType l.typ
