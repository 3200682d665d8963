use Rattle.std.proofs.Common.{[], refl}
use Rattle.type_index.proofs.Built.{weaker}
use Rattle.size_check.proofs.known.bit.Goals as goal

pub invariant_of-result : goal.invariant_of-result
invariant_of-result c = record { knows = ∣ weaker (λ t x r. r.0) (c.of_reset.ensures [] _ refl) ∣₁ }

pub returns-clause-ways : goal.returns-clause-ways
returns-clause-ways c = λ texts. ∣ weaker (λ t x r. r.1) (c.of_reset.ensures texts _ refl) ∣₁
