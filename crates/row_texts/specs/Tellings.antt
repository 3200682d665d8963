-- What a run writes: a head, a text for each row, and an end.
use Rattle.std.specs.Prelude.{ℕ, ◌+◌, Bool, List, [], ◌∷◌, ◌++◌, length, Option, Some, None, if◌then◌else◌}
use Rattle.bit_words.specs.declared.value.Value.{Value}

pub record Telling : Type 0 where
  -- what stands before the first row's text
  pub head : List ℕ
  -- the text of a row: by the number of its cycle, the row before it, and the row
  pub row : ℕ → Option (List Value) → List Value → List ℕ
  -- whether the run ends behind a row
  pub ends : List Value → Bool
  -- what stands behind the last row's text: by the number of the cycle that would come, the last row, and the last byte of the rows' texts
  pub foot : ℕ → Option (List Value) → Option ℕ → List ℕ

-- the last item, and what stood before where there is none
abbrev pub last_from : {A : Type 0} → Option A → List A → Option A
last_from before [] = before
last_from before (x ∷ xs) = last_from (Some x) xs

-- The rows that are told: those up to the first one behind which the run ends.
abbrev pub told_of : (List Value → Bool) → List (List Value) → List (List Value)
told_of ends [] = []
told_of ends (row ∷ rows) = row ∷ (if ends row then [] else told_of ends rows)

-- The texts of rows, the first of which is of this cycle and stands behind this row.
abbrev pub rows_text : Telling → ℕ → Option (List Value) → List (List Value) → List ℕ
rows_text t cycle before [] = []
rows_text t cycle before (row ∷ rows) = t.row cycle before row ++ rows_text t (cycle + 1) (Some row) rows

-- The whole text of the rows that are told, the first of which is of this cycle.
abbrev pub text_of_told : Telling → ℕ → List (List Value) → List ℕ
text_of_told t first told =
    let lines = rows_text t first None told in
    t.head ++ (lines ++ t.foot (first + length told) (last_from None told) (last_from None lines))

abbrev pub run_text : Telling → ℕ → List (List Value) → List ℕ
run_text t first rows = text_of_told t first (told_of t.ends rows)
