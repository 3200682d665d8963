-- The first numbers of texts.
use Rattle.std.proofs.Common.{◌≡◌, ℕ, zero, suc, ◌+◌, ◌<◌, Bool, true, false, List, [], ◌∷◌, ◌++◌, take, length, Option, Some, None, is_some, if◌then◌else◌, bytes_eq, refl, sym, ap, ◌∙◌, arith}
use Rattle.std.specs.Prelude.{slice_get}
use Rattle.std.proofs.lemmas.Option.{none-some}
use Rattle.item_lines.specs.Items.{number_in}
use Rattle.found_items.specs.Finding.{Has}

-- the first place of a text in a list that is numbered from n on
abbrev pub first_of : ℕ → List ℕ → List (List ℕ) → Option ℕ
first_of n text [] = None
first_of n text (x ∷ xs) = if bytes_eq x text then Some n else first_of (n + 1) text xs

-- one more
abbrev pub or_new : Option ℕ → Bool → ℕ → Option ℕ
or_new old same n = if is_some old then old else if same then Some n else None

pub first_more : (n : ℕ) (text : List ℕ) (xs : List (List ℕ)) (y : List ℕ) → first_of n text (xs ++ y ∷ []) ≡ or_new (first_of n text xs) (bytes_eq y text) (n + length xs)
first_more n text [] y = ap (λ k. if bytes_eq y text then Some k else None) (omega arith)
first_more n text (x ∷ xs) y = by (bytes_eq x text) (first_more (n + 1) text xs y)
  where
    by : (b : Bool) → first_of (n + 1) text (xs ++ y ∷ []) ≡ or_new (first_of (n + 1) text xs) (bytes_eq y text) (n + 1 + length xs)
        → (if b then Some n else first_of (n + 1) text (xs ++ y ∷ [])) ≡ or_new (if b then Some n else first_of (n + 1) text xs) (bytes_eq y text) (n + length (x ∷ xs))
    by true h = refl
    by false h = h ∙ ap (λ k. or_new (first_of (n + 1) text xs) (bytes_eq y text) k) (omega arith)

further : (x : List ℕ) (ys : List (List ℕ)) (n : ℕ) → slice_get (x ∷ ys) (n + 1) ≡ slice_get ys n
further x ys n = let e : n + 1 ≡ suc n = omega arith in ap (slice_get (x ∷ ys)) e

pub first_has : (n : ℕ) (text : List ℕ) (xs : List (List ℕ)) → Has xs text → first_of n text xs ≡ Some (n + number_in xs text)
first_has n text [] h = absurd (none-some text h)
first_has n text (x ∷ xs) h = by (bytes_eq x text) h (first_has (n + 1) text xs)
  where
    by : (b : Bool) → slice_get (x ∷ xs) (if b then 0 else number_in xs text + 1) ≡ Some text → (Has xs text → first_of (n + 1) text xs ≡ Some (n + 1 + number_in xs text))
        → (if b then Some n else first_of (n + 1) text xs) ≡ Some (n + (if b then 0 else number_in xs text + 1))
    by true g later = ap Some (omega arith)
    by false g later = later (sym (further x xs (number_in xs text)) ∙ g) ∙ ap Some (omega arith)

-- and where its number is below n, the first n names are enough
pub first_taken : (k : ℕ) (text : List ℕ) (xs : List (List ℕ)) (n : ℕ) → Has xs text → number_in xs text < n → first_of k text (take n xs) ≡ Some (k + number_in xs text)
first_taken k text [] n h below = absurd (none-some text h)
first_taken k text (x ∷ xs) zero h below = absurd (omega (arith, below))
first_taken k text (x ∷ xs) (suc n) h below = by (bytes_eq x text) h below (first_taken (k + 1) text xs n)
  where
    by : (b : Bool) → slice_get (x ∷ xs) (if b then 0 else number_in xs text + 1) ≡ Some text → (if b then 0 else number_in xs text + 1) < suc n
        → (Has xs text → number_in xs text < n → first_of (k + 1) text (take n xs) ≡ Some (k + 1 + number_in xs text))
        → (if b then Some k else first_of (k + 1) text (take n xs)) ≡ Some (k + (if b then 0 else number_in xs text + 1))
    by true g less later = ap Some (omega arith)
    by false g less later = later (sym (further x xs (number_in xs text)) ∙ g) (omega (arith, less)) ∙ ap Some (omega arith)
