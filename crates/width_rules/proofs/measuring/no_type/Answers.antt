use Rattle.std.proofs.Common.{[], ap}
use Rattle.fir_tree.specs.declared.part.Part.{Part}
use Rattle.type_index.proofs.Built.{weaker}
use Rattle.width_rules.proofs.measuring.no_type.Goals as goal

pub invariant_of-result : goal.invariant_of-result
invariant_of-result c = record { knows = ∣ weaker (λ t x r. r.0) (c.in_ok-index.ensures [] _ (ap (λ (p : Part). p.typ.shape) c.in_ok-nothing.ensures)) ∣₁ }
