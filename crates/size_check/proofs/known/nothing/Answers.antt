use Rattle.std.proofs.Common.{◌≡◌, [], ap, rules}
use Rattle.fir_types.specs.declared.fir_type.Shape.TheVariants as shape
use Rattle.type_index.proofs.Built.{weaker}
use Rattle.size_check.proofs.known.nothing.Goals as goal

pub invariant_of-result : goal.invariant_of-result
invariant_of-result c =
    let is : c.in_ok-fields.fields ≡ [] = search rules in
    record { knows = ∣ weaker (λ t x r. r.0) (c.in_ok-index.ensures [] _ (ap shape.Bundle is)) ∣₁ }

pub returns-clause-ways : goal.returns-clause-ways
returns-clause-ways c =
    let is : c.in_ok-fields.fields ≡ [] = search rules in
    λ texts. ∣ weaker (λ t x r. r.1) (c.in_ok-index.ensures texts _ (ap shape.Bundle is)) ∣₁
