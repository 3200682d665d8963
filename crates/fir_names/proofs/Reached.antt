-- All scopes of a circuit say the same of which modules are reached: the main module is one, and a flag is told by whether there
-- is a way.
use Rattle.std.proofs.Common.{◌≡◌, ℕ, ◌<◌, Bool, true, false, List, length, get_or, Some, refl, sym, ap, ◌∙◌, subst, arith}
use Rattle.std.specs.Prelude.{slice_get, nat_lt}
use Rattle.std.proofs.lemmas.Bool.{ltb-true, ltb-false}
use Rattle.std.proofs.lemmas.List.{ext_get_or}
use Rattle.std.proofs.lemmas.Option.{slice_get-get_or, get_or_from_slice_get}
use Rattle.fir_tree.specs.declared.circuit.Circuit.{Circuit}
use Rattle.fir_tree.specs.declared.scope.Scope.{Scope}
use Rattle.fir_names.specs.Scopes.{FirstOf, Reaches, IsScope}

first_once : {xs : List ℕ} {t i j : ℕ} → FirstOf xs t i → FirstOf xs t j → i ≡ j
first_once {xs} {t} {i} {j} f g = by (nat_lt i j) refl (nat_lt j i) refl
  where
    by : (b : Bool) → nat_lt i j ≡ b → (c : Bool) → nat_lt j i ≡ c → i ≡ j
    by true e c h = absurd (g.first i (ltb-true i j e) f.has)
    by false e true h = absurd (f.first j (ltb-true j i h) g.has)
    by false e false h = omega (arith, ltb-false i j e, ltb-false j i h)

same_flag : (a b : Bool) → (a ≡ true → b ≡ true) → (b ≡ true → a ≡ true) → a ≡ b
same_flag true b f g = sym (f refl)
same_flag false true f g = g refl
same_flag false false f g = refl

flag_is : (flags : List Bool) (k : ℕ) → k < length flags → get_or flags k false ≡ true → slice_get flags k ≡ Some true
flag_is flags k lt e = slice_get-get_or flags k false lt ∙ ap Some e

pub reached_once : (circuit : Circuit) (first second : Scope) → IsScope circuit first → IsScope circuit second → first.reached ≡ second.reached
reached_once circuit first second f s = ext_get_or false first.reached second.reached (f.counted ∙ sym s.counted)
    (λ k lt. same_flag (get_or first.reached k false) (get_or second.reached k false) (forth k lt) (back k lt))
  where
    same : f.main ≡ s.main
    same = first_once f.is_main s.is_main

    forth : (k : ℕ) → k < length first.reached → get_or first.reached k false ≡ true → get_or second.reached k false ≡ true
    forth k lt e =
        let there' = (f.reached k (omega (arith, lt, f.counted))).0 (flag_is first.reached k lt e) in
        get_or_from_slice_get second.reached k true false ((s.reached k (omega (arith, lt, f.counted))).1 (subst (λ m. Reaches circuit m k) same there'))

    back : (k : ℕ) → k < length first.reached → get_or second.reached k false ≡ true → get_or first.reached k false ≡ true
    back k lt e =
        let there' = (s.reached k (omega (arith, lt, f.counted))).0 (flag_is second.reached k (omega (arith, lt, f.counted, s.counted)) e) in
        get_or_from_slice_get first.reached k true false ((f.reached k (omega (arith, lt, f.counted))).1 (subst (λ m. Reaches circuit m k) (sym same) there'))
