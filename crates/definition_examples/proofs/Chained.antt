-- The cone of a memory.
use Rattle.std.proofs.Common.{◌≡◌, ℕ, zero, suc, [], ◌∷◌, refl, sym, subst, arith, ◌⊎◌, inl, inr, ⊎_elim}
use Rattle.std.specs.Prelude.{Contains}
use Rattle.std.proofs.lemmas.Grind.{common_steps}
use Rattle.ground_net.specs.declared.ground.Ground.{the_lemmas}
use Rattle.ground_net.specs.declared.net.Role.TheVariants as role
use Rattle.ground_net.specs.Reads.{IsAssigned, Reads, direct_reads}
use Rattle.ground_net.specs.Cones.{A_memory, needs, InCone, needed, behind}
use Rattle.definition_examples.specs.Circuits.{leaf}
use Rattle.definition_examples.specs.Needing.{chained}

its_needs : needs chained (A_memory 0) ≡ 2 ∷ 0 ∷ 0 ∷ 0 ∷ 0 ∷ 0 ∷ []
its_needs = refl

reads_of_2 : direct_reads chained 2 ≡ 1 ∷ []
reads_of_2 = grind (arith, common_steps, the_lemmas)

reads_of_1 : direct_reads chained 1 ≡ 0 ∷ []
reads_of_1 = grind (arith, common_steps, the_lemmas)

only_one : (x y : ℕ) → Contains (x ∷ []) y → x ≡ y
only_one x y (k, below, is) = let e : k ≡ 0 = omega arith in rw e at is

two_or_none : (x : ℕ) → Contains (2 ∷ 0 ∷ 0 ∷ 0 ∷ 0 ∷ 0 ∷ []) x → (x ≡ 2) ⊎ (x ≡ 0)
two_or_none x (zero, below, is) = inl (sym is)
two_or_none x (suc zero, below, is) = inr (sym is)
two_or_none x (suc (suc zero), below, is) = inr (sym is)
two_or_none x (suc (suc (suc zero)), below, is) = inr (sym is)
two_or_none x (suc (suc (suc (suc zero))), below, is) = inr (sym is)
two_or_none x (suc (suc (suc (suc (suc zero)))), below, is) = inr (sym is)
two_or_none x (suc (suc (suc (suc (suc (suc k))))), below, is) = absurd (omega arith)

input_is_none : IsAssigned chained.leaves 0 → ⊥
input_is_none a = let there = a.there in let is = a.is in cc

none_at_0 : (x : ℕ) → x ≡ 0 → IsAssigned chained.leaves x → ⊥
none_at_0 x e a = input_is_none (subst (IsAssigned chained.leaves) e a)

pub address_in : InCone chained (A_memory 0) 2
address_in = needed (zero, omega arith, refl) (record { leaf = leaf 2 role.Assigned; there = refl; is = refl })

pub behind_in : InCone chained (A_memory 0) 1
behind_in = behind address_in (subst (λ ys. Contains ys 1) (sym reads_of_2) (zero, omega arith, refl)) (record { leaf = leaf 2 role.Assigned; there = refl; is = refl })

pub only_in : (x : ℕ) → InCone chained (A_memory 0) x → (x ≡ 2) ⊎ (x ≡ 1)
only_in x (needed c a) = ⊎_elim (λ e. inl e) (λ e. absurd (none_at_0 x e a)) (two_or_none x c)
only_in y (behind {x = x} i r a) = ⊎_elim
    (λ e. inr (sym (only_one 1 y (subst (λ ys. Contains ys y) reads_of_2 (subst (λ z. Reads chained z y) e r)))))
    (λ e. absurd (none_at_0 y (sym (only_one 0 y (subst (λ ys. Contains ys y) reads_of_1 (subst (λ z. Reads chained z y) e r)))) a))
    (only_in x i)
