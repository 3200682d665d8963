-- A key more is held.
use Rattle.std.proofs.Common.{◌≡◌, ℕ, Bool, true, false, List, [], ◌∷◌, ◌++◌, refl, ap, ◌∙◌, ◌||◌, if◌then◌else◌}
use Rattle.std.specs.Prelude.{nat_eq}
use Rattle.std.specs.List.{list_any}
use Rattle.std.proofs.lemmas.List.Folds.{list_any-append}
use Rattle.std.proofs.lemmas.Bool.{eqb-true}
use Rattle.indexmap.specs.IndexSet.{insert_key}

pub held_key : (ks : List ℕ) (k t : ℕ) → list_any (nat_eq t) (insert_key nat_eq ks k) ≡ (list_any (nat_eq t) ks || (nat_eq t k || false))
held_key ks k t = by (list_any (nat_eq k) ks) refl
  where
    known : (b : Bool) → nat_eq t k ≡ b → list_any (nat_eq k) ks ≡ true → list_any (nat_eq t) ks ≡ (list_any (nat_eq t) ks || (b || false))
    known true e h = let is : list_any (nat_eq t) ks ≡ true = ap (λ x. list_any (nat_eq x) ks) (eqb-true t k e) ∙ h in rw is refl
    known false e h = either (list_any (nat_eq t) ks)
      where
        either : (b : Bool) → b ≡ (b || false)
        either true = refl
        either false = refl

    by : (b : Bool) → list_any (nat_eq k) ks ≡ b → list_any (nat_eq t) (if b then ks else ks ++ k ∷ []) ≡ (list_any (nat_eq t) ks || (nat_eq t k || false))
    by true e = known (nat_eq t k) refl e
    by false e = list_any-append (nat_eq t) ks (k ∷ [])
