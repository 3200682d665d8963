-- The texts of rows, piece by piece.
use Rattle.std.proofs.Common.{◌≡◌, ℕ, zero, suc, ◌+◌, ◌-◌, ◌<◌, ◌≤◌, Bool, true, false, List, [], ◌∷◌, ◌++◌, length, take, drop, get_or, Option, Some, refl, sym, ap, ◌∙◌, arith, append_assoc, append-nil, if◌then◌else◌, ◌||◌}
use Rattle.std.specs.Prelude.{IfSome}
use Rattle.std.proofs.Math.Seq.{take-length}
use Rattle.std.specs.List.{list_any}
use Rattle.bit_words.specs.declared.value.Value.{Value}
use Rattle.row_texts.specs.Tellings.{Telling, last_from, told_of, rows_text}

pub last_append : {A : Type 0} (before : Option A) (xs ys : List A) → last_from before (xs ++ ys) ≡ last_from (last_from before xs) ys
last_append before [] ys = refl
last_append before (x ∷ xs) ys = last_append (Some x) xs ys

pub text_append : (t : Telling) (cycle : ℕ) (before : Option (List Value)) (rows more : List (List Value)) → rows_text t cycle before (rows ++ more) ≡ rows_text t cycle before rows ++ rows_text t (cycle + length rows) (last_from before rows) more
text_append t cycle before [] more = let z : cycle ≡ cycle + 0 = omega arith in ap (λ c. rows_text t c before more) z
text_append t cycle before (row ∷ rows) more =
    let z : cycle + 1 + length rows ≡ cycle + suc (length rows) = omega arith in
    ap (λ l. t.row cycle before row ++ l) (text_append t (cycle + 1) (Some row) rows more ∙ ap (λ c. rows_text t (cycle + 1) (Some row) rows ++ rows_text t c (last_from (Some row) rows) more) z)
    ∙ sym (append_assoc (t.row cycle before row) (rows_text t (cycle + 1) (Some row) rows) (rows_text t (cycle + suc (length rows)) (last_from (Some row) rows) more))

-- the rows that are told of some and of more behind them
pub told_append : (ends : List Value → Bool) (rows more : List (List Value)) → told_of ends (rows ++ more) ≡ told_of ends rows ++ (if list_any ends rows then [] else told_of ends more)
told_append ends [] more = refl
told_append ends (row ∷ rows) more = by (told_append ends rows more) (ends row) where
  by : told_of ends (rows ++ more) ≡ told_of ends rows ++ (if list_any ends rows then [] else told_of ends more) → (b : Bool)
      → row ∷ (if b then [] else told_of ends (rows ++ more)) ≡ (row ∷ (if b then [] else told_of ends rows)) ++ (if b || list_any ends rows then [] else told_of ends more)
  by later true = refl
  by later false = ap (λ l. row ∷ l) later

pub any_append : (ends : List Value → Bool) (rows more : List (List Value)) → list_any ends (rows ++ more) ≡ (list_any ends rows || list_any ends more)
any_append ends [] more = refl
any_append ends (row ∷ rows) more = by (any_append ends rows more) (ends row) where
  by : list_any ends (rows ++ more) ≡ (list_any ends rows || list_any ends more) → (b : Bool) → (b || list_any ends (rows ++ more)) ≡ ((b || list_any ends rows) || list_any ends more)
  by later true = refl
  by later false = later

-- the last of the first items
pub last_take : {A : Type 0} (before : Option A) (xs : List A) (k : ℕ) (d : A) → k < length xs → last_from before (take (suc k) xs) ≡ Some (get_or xs k d)
last_take before [] k d lt = absurd (omega (arith, lt))
last_take before (x ∷ xs) zero d lt = refl
last_take before (x ∷ xs) (suc k) d lt = last_take (Some x) xs k d (omega (arith, lt))

pub last_is : {A : Type 0} (before : Option A) (xs : List A) (d : A) → 0 < length xs → last_from before xs ≡ Some (get_or xs (length xs - 1) d)
last_is before xs d lt =
    let e : suc (length xs - 1) ≡ length xs = omega (arith, lt) in
    let inside : length xs - 1 < length xs = omega (arith, lt) in
    ap (last_from before) (sym (take-length xs)) ∙ (ap (λ n. last_from before (take n xs)) (sym e) ∙ last_take before xs (length xs - 1) d inside)

pub last_all : {A : Type 0} (P : A → Type 0) (before : Option A) (xs : List A) → IfSome before P → ((k : ℕ) (d : A) → k < length xs → P (get_or xs k d)) → (n : ℕ) → IfSome (last_from before (take n xs)) P
last_all P before xs h all zero = h
last_all P before [] h all (suc n) = h
last_all P before (x ∷ xs) h all (suc n) = last_all P (Some x) xs (all 0 x (omega arith)) (λ k d lt. all (suc k) d (omega (arith, lt))) n

drop_next : {A : Type 0} (xs : List A) (k : ℕ) (d : A) → k < length xs → drop k xs ≡ get_or xs k d ∷ drop (suc k) xs
drop_next [] k d lt = absurd (omega (arith, lt))
drop_next (x ∷ xs) zero d lt = refl
drop_next (x ∷ xs) (suc k) d lt = drop_next xs k d (omega (arith, lt))

take_next : {A : Type 0} (xs : List A) (k : ℕ) (d : A) → k < length xs → take (suc k) xs ≡ take k xs ++ get_or xs k d ∷ []
take_next [] k d lt = absurd (omega (arith, lt))
take_next (x ∷ xs) zero d lt = refl
take_next (x ∷ xs) (suc k) d lt = ap (λ l. x ∷ l) (take_next xs k d (omega (arith, lt)))

length_take : {A : Type 0} (xs : List A) (k : ℕ) → k ≤ length xs → length (take k xs) ≡ k
length_take xs zero le = refl
length_take [] (suc k) le = absurd (omega (arith, le))
length_take (x ∷ xs) (suc k) le = ap suc (length_take xs k (omega (arith, le)))

drop_all : {A : Type 0} (xs : List A) (k : ℕ) → length xs ≤ k → drop k xs ≡ []
drop_all [] zero le = refl
drop_all [] (suc k) le = refl
drop_all (x ∷ xs) zero le = absurd (omega (arith, le))
drop_all (x ∷ xs) (suc k) le = drop_all xs k (omega (arith, le))

-- one row more
module _ (t : Telling) (cycle : ℕ) (before : Option (List Value)) (rows : List (List Value)) (k : ℕ) (lt : k < length rows) where
  abbrev row : List Value
  row = get_or rows k []

  pub text_next : rows_text t cycle before (take (suc k) rows) ≡ rows_text t cycle before (take k rows) ++ t.row (cycle + k) (last_from before (take k rows)) row
  text_next =
      let long = length_take rows k (omega (arith, lt)) in
      ap (rows_text t cycle before) (take_next rows k [] lt)
      ∙ (text_append t cycle before (take k rows) (row ∷ [])
      ∙ ap (λ l. rows_text t cycle before (take k rows) ++ l) (append-nil (t.row (cycle + length (take k rows)) (last_from before (take k rows)) row) ∙ ap (λ n. t.row (cycle + n) (last_from before (take k rows)) row) long))

  pub told_next : told_of t.ends rows ≡ take k rows ++ told_of t.ends (drop k rows) → told_of t.ends rows ≡ take (suc k) rows ++ (if t.ends row then [] else told_of t.ends (drop (suc k) rows))
  told_next e =
      let rest = if t.ends row then [] else told_of t.ends (drop (suc k) rows) in
      e ∙ (ap (λ l. take k rows ++ told_of t.ends l) (drop_next rows k [] lt) ∙ (sym (append_assoc (take k rows) (row ∷ []) rest) ∙ ap (λ l. l ++ rest) (sym (take_next rows k [] lt))))

  pub any_next : list_any t.ends rows ≡ list_any t.ends (drop k rows) → list_any t.ends rows ≡ (t.ends row || list_any t.ends (drop (suc k) rows))
  any_next e = e ∙ ap (list_any t.ends) (drop_next rows k [] lt)

-- all rows that are told
module _ (ends : List Value → Bool) (rows : List (List Value)) (k : ℕ) where
  pub told_end : (ended : Bool) → told_of ends rows ≡ take k rows ++ (if ended then [] else told_of ends (drop k rows)) → (ended ≡ false → length rows ≤ k) → told_of ends rows ≡ take k rows
  told_end true e le = e ∙ append-nil (take k rows)
  told_end false e le = e ∙ (ap (λ l. take k rows ++ told_of ends l) (drop_all rows k (le refl)) ∙ append-nil (take k rows))

  pub any_end : (ended : Bool) → list_any ends rows ≡ (ended || list_any ends (drop k rows)) → (ended ≡ false → length rows ≤ k) → ended ≡ list_any ends rows
  any_end true e le = sym e
  any_end false e le = sym (e ∙ ap (list_any ends) (drop_all rows k (le refl)))
