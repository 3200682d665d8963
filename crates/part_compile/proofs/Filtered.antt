-- What a filtering map gives.
use Rattle.std.proofs.Common.{◌≡◌, ◌⊎◌, inl, inr, ⊎_elim, zero, suc, List, [], ◌∷◌, Option, Some, None, Contains, sym, subst, ap, ◌∙◌, arith}
use Rattle.std.specs.Prelude.{filter_map}
use Rattle.std.specs.List.{cons_option}
use Rattle.part_compile.proofs.Standing.{contains_first, contains_later}

none_there : {A : Type 0} (x : A) → Contains [] x → ⊥
none_there x c = omega (arith, c.1)

either : {A : Type 0} (y : A) (xs : List A) (x : A) → Contains (y ∷ xs) x → (y ≡ x) ⊎ Contains xs x
either y xs x (zero, lt, e) = inl e
either y xs x (suc k, lt, e) = inr (k, omega (arith, lt), e)

option_cases : {B : Type 0} (o : Option B) (ys : List B) (y : B) → Contains (cons_option o ys) y → (o ≡ Some y) ⊎ Contains ys y
option_cases None ys y c = inr c
option_cases (Some b) ys y c = ⊎_elim (λ e. inl (ap Some e)) (λ l. inr l) (either b ys y c)

option_later : {B : Type 0} (o : Option B) (ys : List B) (y : B) → Contains ys y → Contains (cons_option o ys) y
option_later None ys y c = c
option_later (Some b) ys y c = contains_later b ys y c

pub from_filter : {A B : Type 0} (f : A → Option B) (xs : List A) (y : B) → Contains (filter_map f xs) y → (x : A) × Contains xs x × (f x ≡ Some y)
from_filter f [] y c = absurd (none_there y c)
from_filter f (a ∷ xs) y c = ⊎_elim
    (λ e. (a, contains_first a xs, e))
    (λ l. let h = from_filter f xs y l in (h.0, contains_later a xs h.0 h.1, h.2))
    (option_cases (f a) (filter_map f xs) y c)

pub to_filter : {A B : Type 0} (f : A → Option B) (xs : List A) (x : A) (y : B) → Contains xs x → f x ≡ Some y → Contains (filter_map f xs) y
to_filter f [] x y c e = absurd (none_there x c)
to_filter f (a ∷ xs) x y c e = ⊎_elim
    (λ same. subst (λ o. Contains (cons_option o (filter_map f xs)) y) (sym (ap f same ∙ e)) (contains_first y (filter_map f xs)))
    (λ l. option_later (f a) (filter_map f xs) y (to_filter f xs x y l e))
    (either a xs x c)
