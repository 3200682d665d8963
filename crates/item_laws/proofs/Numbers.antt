-- Numbers of names that are added behind others.
use Rattle.std.proofs.Common.{◌≡◌, ℕ, zero, suc, ◌+◌, ◌≤◌, Bool, true, false, List, [], ◌∷◌, ◌++◌, length, slice_get, Some, if◌then◌else◌, bytes_eq, refl, sym, ap, ◌∙◌, subst, append_assoc, append-nil, add-one, arith}
use Rattle.std.specs.List.{All}
use Rattle.std.proofs.lemmas.Option.{none-some, same_Some}
use Rattle.std.proofs.lemmas.Slice.Eq.{bytes_eq-Decides}
use Rattle.std.proofs.lemmas.List.Elements.{All-head, All-tail}
use Rattle.item_lines.specs.Items.{with_name, number_in}

-- the text is among them, at its number
abbrev pub Has : List (List ℕ) → List ℕ → Type 0
Has xs t = slice_get xs (number_in xs t) ≡ Some t

further : (x : List ℕ) (ys : List (List ℕ)) (n : ℕ) → slice_get (x ∷ ys) (n + 1) ≡ slice_get ys n
further x ys n = rw add-one refl

pub has_added : (xs : List (List ℕ)) (t : List ℕ) → Has (with_name xs t) t
has_added [] t = let same : bytes_eq t t ≡ true = (bytes_eq-Decides t t).1 refl in rw same refl
has_added (x ∷ xs) t = by (bytes_eq x t) refl (has_added xs t)
  where
    by : (b : Bool) → bytes_eq x t ≡ b → Has (with_name xs t) t → Has (if b then x ∷ xs else x ∷ with_name xs t) t
    by true e h = rw e (ap Some ((bytes_eq-Decides x t).0 e))
    by false e h = rw e (further x (with_name xs t) (number_in (with_name xs t) t) ∙ h)

pub kept : (xs more : List (List ℕ)) (n : ℕ) (t : List ℕ) → slice_get xs n ≡ Some t → slice_get (xs ++ more) n ≡ Some t
kept [] more n t h = absurd (none-some t h)
kept (x ∷ xs) more zero t h = h
kept (x ∷ xs) more (suc n) t h = kept xs more n t h

stays : (xs more : List (List ℕ)) (t : List ℕ) → Has xs t → number_in (xs ++ more) t ≡ number_in xs t
stays [] more t h = absurd (none-some t h)
stays (x ∷ xs) more t h = by (bytes_eq x t) h (stays xs more t)
  where
    by : (b : Bool) → slice_get (x ∷ xs) (if b then 0 else number_in xs t + 1) ≡ Some t → (Has xs t → number_in (xs ++ more) t ≡ number_in xs t)
        → (if b then 0 else number_in (xs ++ more) t + 1) ≡ (if b then 0 else number_in xs t + 1)
    by true g later = refl
    by false g later = ap (λ n. n + 1) (later (sym (further x xs (number_in xs t)) ∙ g))

pub apart : (xs : List (List ℕ)) (a b : List ℕ) → Has xs a → Has xs b → number_in xs a ≡ number_in xs b → a ≡ b
apart xs a b h g same = same_Some a b (sym h ∙ ap (slice_get xs) same ∙ g)

-- a text that is none of the first stands behind them
pub far : (xs more : List (List ℕ)) (t : List ℕ) → All (λ x. bytes_eq x t ≡ false) xs → length xs ≤ number_in (xs ++ more) t
far [] more t none = omega arith
far (x ∷ xs) more t none = by (bytes_eq x t) (All-head (λ x. bytes_eq x t ≡ false) x xs none) (far xs more t (All-tail (λ x. bytes_eq x t ≡ false) x xs none))
  where
    by : (b : Bool) → b ≡ false → length xs ≤ number_in (xs ++ more) t → length (x ∷ xs) ≤ (if b then 0 else number_in (xs ++ more) t + 1)
    by true e h = cc
    by false e h = omega (arith, h)

-- there are further names behind these
pub record Grows (xs ys : List (List ℕ)) : Type 0 where
  pub more : List (List ℕ)
  pub are : ys ≡ xs ++ more

pub grows_none : (xs : List (List ℕ)) → Grows xs xs
grows_none xs = record { more = []; are = sym (append-nil xs) }

pub grows_twice : {xs ys zs : List (List ℕ)} → Grows xs ys → Grows ys zs → Grows xs zs
grows_twice {xs} a b = record { more = a.more ++ b.more; are = b.are ∙ ap (λ names. names ++ b.more) a.are ∙ append_assoc xs a.more b.more }

pub grows_one : (xs : List (List ℕ)) (t : List ℕ) → Grows xs (with_name xs t)
grows_one [] t = record { more = t ∷ []; are = refl }
grows_one (x ∷ xs) t = by (bytes_eq x t) (grows_one xs t)
  where
    by : (b : Bool) → Grows xs (with_name xs t) → Grows (x ∷ xs) (if b then x ∷ xs else x ∷ with_name xs t)
    by true g = grows_none (x ∷ xs)
    by false g = record { more = g.more; are = ap (λ names. x ∷ names) g.are }

pub has_grown : {xs ys : List (List ℕ)} (t : List ℕ) → Grows xs ys → Has xs t → Has ys t
has_grown {xs} t g h = subst (λ names. Has names t) (sym g.are) (ap (slice_get (xs ++ g.more)) (stays xs g.more t h) ∙ kept xs g.more (number_in xs t) t h)

pub number_grown : {xs ys : List (List ℕ)} (t : List ℕ) → Grows xs ys → Has xs t → number_in ys t ≡ number_in xs t
number_grown {xs} t g h = ap (λ names. number_in names t) g.are ∙ stays xs g.more t h
