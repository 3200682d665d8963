use Rattle.fir_types.specs.declared.fir_type.FirType.{FirType}
use Rattle.type_check.specs.Expressions.{found_of}
use Rattle.type_check.specs.Judging.{Agrees}
use Rattle.type_check.specs.Parts.{Known}
use Rattle.type_check.proofs.whole.first_chosen.Given as goal

abbrev pub invariant-loop-inside : goal.invariant-loop-inside
invariant-loop-inside l = (known : Known) (typ : FirType) → Agrees typ (found_of known l.inside).part → Agrees typ (found_of known l.expr).part
