-- A circuit has one resolved circuit at most.
use Rattle.std.proofs.Common.{◌≡◌, ℕ, Bool, true, false, refl, sym, ap, ◌∙◌}
use Rattle.fir_tree.specs.declared.circuit.Circuit.{Circuit}
use Rattle.reset_search.specs.Resolved.{IsResolved, resolved_circuit}

same_answer : (a b : Bool) → (a ≡ true → b ≡ true) → (b ≡ true → a ≡ true) → a ≡ b
same_answer true b to from = sym (to refl)
same_answer false true to from = from refl
same_answer false false to from = refl

pub resolved_once : (circuit one other : Circuit) → IsResolved circuit one → IsResolved circuit other → one ≡ other
resolved_once circuit one other p q =
    let same : (n : ℕ) → p.reached n ≡ q.reached n
    = λ n. same_answer (p.reached n) (q.reached n) (λ e. (q.exact n).1 ((p.exact n).0 e)) (λ e. (p.exact n).1 ((q.exact n).0 e)) in
    p.is ∙ (λ j. resolved_circuit (λ n. same n j) circuit) ∙ sym q.is
