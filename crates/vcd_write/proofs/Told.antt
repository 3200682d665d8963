-- What is dumped of rows tells their bits.
use Rattle.std.proofs.Common.{◌≡◌, ℕ, zero, suc, ◌+◌, ◌<◌, ◌≤◌, Bool, true, false, ◌&&◌, cond, eqb, leb, List, [], ◌∷◌, ◌++◌, length, Option, Some, None, refl, sym, ap, ◌∙◌, subst, arith, slice_get, append_assoc, get_or}
use Rattle.std.specs.Prelude.{All}
use Rattle.std.proofs.lemmas.Bool.{lt-leb, le-leb, ne_eqb, eq-eqb, eqb-true, and_left, and_right, and_from, cond-false, cond-true}
use Rattle.std.proofs.lemmas.Option.{slice_get-get_or, slice_get_within, same_Some}
use Rattle.std.proofs.lemmas.List.Elements.{All-head, All-tail}
use Rattle.vcd_write.specs.Changes.{Entry, Time, Change, all_bits, changes, stamped, later, entries, dump, last_row}
use Rattle.vcd_write.specs.Reading.{last_bits, last_time}

none_some : {A B : Type 0} {x : A} → None ≡ Some x → B
none_some e = absurd cc

-- a time behind the cycle hides its changes
skipped : (c i t j : ℕ) (found : Option ℕ) (before now : List ℕ) (rest : List Entry) → c < t → last_bits c i t found (changes j before now ++ rest) ≡ last_bits c i t found rest
skipped c i t j found [] now rest lt = refl
skipped c i t j found (b ∷ bs) [] rest lt = refl
skipped c i t j found (b ∷ bs) (n ∷ ns) rest lt = by (skipped c i t (j + 1) found bs ns rest lt) (eqb b n) where
  by : last_bits c i t found (changes (j + 1) bs ns ++ rest) ≡ last_bits c i t found rest → (x : Bool) → last_bits c i t found (cond x (changes (j + 1) bs ns) (Change j n ∷ changes (j + 1) bs ns) ++ rest) ≡ last_bits c i t found rest
  by on true = on
  by on false = ap (λ f. last_bits c i t f (changes (j + 1) bs ns ++ rest)) (cond-false (eqb j i && leb t c) (Some n) found (and_right (eqb j i) (leb t c) (lt-leb t c lt))) ∙ on

-- changes of variables behind it leave a variable alone
others : (c i t j : ℕ) (found : Option ℕ) (before now : List ℕ) (rest : List Entry) → i < j → last_bits c i t found (changes j before now ++ rest) ≡ last_bits c i t found rest
others c i t j found [] now rest lt = refl
others c i t j found (b ∷ bs) [] rest lt = refl
others c i t j found (b ∷ bs) (n ∷ ns) rest lt = by (others c i t (j + 1) found bs ns rest (omega (arith, lt))) (eqb b n) where
  by : last_bits c i t found (changes (j + 1) bs ns ++ rest) ≡ last_bits c i t found rest → (x : Bool) → last_bits c i t found (cond x (changes (j + 1) bs ns) (Change j n ∷ changes (j + 1) bs ns) ++ rest) ≡ last_bits c i t found rest
  by on true = on
  by on false = ap (λ f. last_bits c i t f (changes (j + 1) bs ns ++ rest)) (cond-false (eqb j i && leb t c) (Some n) found (and_left (eqb j i) (leb t c) (ne_eqb j i (λ e. omega (arith, lt, e))))) ∙ on

all_others : (c i t j : ℕ) (found : Option ℕ) (row : List ℕ) (rest : List Entry) → i < j → last_bits c i t found (all_bits j row ++ rest) ≡ last_bits c i t found rest
all_others c i t j found [] rest lt = refl
all_others c i t j found (n ∷ ns) rest lt =
    ap (λ f. last_bits c i t f (all_bits (j + 1) ns ++ rest)) (cond-false (eqb j i && leb t c) (Some n) found (and_left (eqb j i) (leb t c) (ne_eqb j i (λ e. omega (arith, lt, e)))))
    ∙ all_others c i t (j + 1) found ns rest (omega (arith, lt))

-- a change at its time
changed : (c i t j n : ℕ) (found : Option ℕ) → t ≤ c → j ≡ i → cond (eqb j i && leb t c) (Some n) found ≡ Some n
changed c i t j n found le e = cond-true (eqb j i && leb t c) (Some n) found (and_from (eqb j i) (leb t c) (eq-eqb j i e) (le-leb t c le))

unchanged : (c i t j n : ℕ) (found : Option ℕ) → (j ≡ i → ⊥) → cond (eqb j i && leb t c) (Some n) found ≡ found
unchanged c i t j n found ne = cond-false (eqb j i && leb t c) (Some n) found (and_left (eqb j i) (leb t c) (ne_eqb j i ne))

-- changes at or before the cycle give a variable its new bits
taken : (c i t j m : ℕ) (before now : List ℕ) (b n : ℕ) (rest : List Entry) → t ≤ c → j + m ≡ i → slice_get before m ≡ Some b → slice_get now m ≡ Some n
    → last_bits c i t (Some b) (changes j before now ++ rest) ≡ last_bits c i t (Some n) rest
taken c i t j m [] now b n rest le at old new = none_some old
taken c i t j m (x ∷ xs) [] b n rest le at old new = none_some new
taken c i t j zero (x ∷ xs) (y ∷ ys) b n rest le at old new = by (eqb x y) refl where
  by : (z : Bool) → eqb x y ≡ z → last_bits c i t (Some b) (cond z (changes (j + 1) xs ys) (Change j y ∷ changes (j + 1) xs ys) ++ rest) ≡ last_bits c i t (Some n) rest
  by true e =
      others c i t (j + 1) (Some b) xs ys rest (omega (arith, at))
      ∙ ap (λ f. last_bits c i t f rest) (sym old ∙ (ap Some (eqb-true x y e) ∙ new))
  by false e =
      ap (λ f. last_bits c i t f (changes (j + 1) xs ys ++ rest)) (changed c i t j y (Some b) le (omega (arith, at)))
      ∙ (others c i t (j + 1) (Some y) xs ys rest (omega (arith, at)) ∙ ap (λ f. last_bits c i t f rest) new)
taken c i t j (suc m) (x ∷ xs) (y ∷ ys) b n rest le at old new = by (taken c i t (j + 1) m xs ys b n rest le (omega (arith, at)) old new) (eqb x y) where
  by : last_bits c i t (Some b) (changes (j + 1) xs ys ++ rest) ≡ last_bits c i t (Some n) rest → (z : Bool) → last_bits c i t (Some b) (cond z (changes (j + 1) xs ys) (Change j y ∷ changes (j + 1) xs ys) ++ rest) ≡ last_bits c i t (Some n) rest
  by on true = on
  by on false = ap (λ f. last_bits c i t f (changes (j + 1) xs ys ++ rest)) (unchanged c i t j y (Some b) (λ e. omega (arith, at, e))) ∙ on

all_taken : (c i t j m : ℕ) (row : List ℕ) (n : ℕ) (found : Option ℕ) (rest : List Entry) → t ≤ c → j + m ≡ i → slice_get row m ≡ Some n
    → last_bits c i t found (all_bits j row ++ rest) ≡ last_bits c i t (Some n) rest
all_taken c i t j m [] n found rest le at new = none_some new
all_taken c i t j zero (y ∷ ys) n found rest le at new =
    ap (λ f. last_bits c i t f (all_bits (j + 1) ys ++ rest)) (changed c i t j y found le (omega (arith, at)))
    ∙ (all_others c i t (j + 1) (Some y) ys rest (omega (arith, at)) ∙ ap (λ f. last_bits c i t f rest) new)
all_taken c i t j (suc m) (y ∷ ys) n found rest le at new =
    ap (λ f. last_bits c i t f (all_bits (j + 1) ys ++ rest)) (unchanged c i t j y found (λ e. omega (arith, at, e)))
    ∙ all_taken c i t (j + 1) m ys n found rest le (omega (arith, at)) new

-- the rows behind the cycle
behind : (c i k t n : ℕ) (found : Option ℕ) (before : List ℕ) (rows : List (List ℕ)) → c < k → last_bits c i t found (later k before rows ++ Time n ∷ []) ≡ found
behind c i k t n found before [] lt = refl
behind c i k t n found before (row ∷ rows) lt =
    ap (last_bits c i t found) (append_assoc (stamped k (changes 0 before row)) (later (k + 1) row rows) (Time n ∷ [])) ∙ by (λ u. behind c i (k + 1) u n found row rows (omega (arith, lt))) (changes 0 before row) refl
  where
    by : ((u : ℕ) → last_bits c i u found (later (k + 1) row rows ++ Time n ∷ []) ≡ found) → (es : List Entry) → changes 0 before row ≡ es → last_bits c i t found (stamped k es ++ (later (k + 1) row rows ++ Time n ∷ [])) ≡ found
    by on [] e = on t
    by on (x ∷ xs) e = ap (λ es. last_bits c i k found (es ++ (later (k + 1) row rows ++ Time n ∷ []))) (sym e)
        ∙ (skipped c i k 0 found before row (later (k + 1) row rows ++ Time n ∷ []) lt ∙ on k)

-- one row
stepped : (c i k t b n : ℕ) (v : Option ℕ) (before row : List ℕ) (rest : List Entry) → t ≤ c → k ≤ c → slice_get before i ≡ Some b → slice_get row i ≡ Some n
    → ((u : ℕ) → u ≤ c → last_bits c i u (Some n) rest ≡ v) → last_bits c i t (Some b) (stamped k (changes 0 before row) ++ rest) ≡ v
stepped c i k t b n v before row rest le early old new on = by (changes 0 before row) refl where
  by : (es : List Entry) → changes 0 before row ≡ es → last_bits c i t (Some b) (stamped k es ++ rest) ≡ v
  by [] e = ap (λ es. last_bits c i t (Some b) (es ++ rest)) (sym e) ∙ (taken c i t 0 i before row b n rest le (omega arith) old new ∙ on t le)
  by (x ∷ xs) e = ap (λ es. last_bits c i k (Some b) (es ++ rest)) (sym e) ∙ (taken c i k 0 i before row b n rest early (omega arith) old new ∙ on k early)

-- a row has bits where the row before it has some
has : (xs ys : List ℕ) (i b : ℕ) → length ys ≡ length xs → slice_get xs i ≡ Some b → slice_get ys i ≡ Some (get_or ys i 0)
has xs ys i b same e = slice_get-get_or ys i 0 (omega (arith, same, slice_get_within xs i b e))

-- the rows from a cycle on
shown : (m c i k t n b v : ℕ) (before : List ℕ) (rows : List (List ℕ)) (row : List ℕ) → t ≤ c → c ≡ k + m → All (λ r. length r ≡ length before) rows
    → slice_get before i ≡ Some b → slice_get rows m ≡ Some row → slice_get row i ≡ Some v → last_bits c i t (Some b) (later k before rows ++ Time n ∷ []) ≡ Some v
shown m c i k t n b v before [] row le at wide old here is = none_some here
shown zero c i k t n b v before (r ∷ rs) row le at wide old here is =
    ap (last_bits c i t (Some b)) (append_assoc (stamped k (changes 0 before r)) (later (k + 1) r rs) (Time n ∷ []))
    ∙ stepped c i k t b v (Some v) before r (later (k + 1) r rs ++ Time n ∷ []) le (omega (arith, at)) old (ap (λ s. slice_get s i) (same_Some r row here) ∙ is)
    (λ u early. behind c i (k + 1) u n (Some v) r rs (omega (arith, at)))
shown (suc m) c i k t n b v before (r ∷ rs) row le at wide old here is =
    let long : length r ≡ length before = All-head (λ s. length s ≡ length before) r rs wide in
    let w : All (λ s. length s ≡ length r) rs = wide_again before r rs long (All-tail (λ s. length s ≡ length before) r rs wide) in
    let some : slice_get r i ≡ Some (get_or r i 0) = has before r i b long old in
    ap (last_bits c i t (Some b)) (append_assoc (stamped k (changes 0 before r)) (later (k + 1) r rs) (Time n ∷ []))
    ∙ stepped c i k t b (get_or r i 0) (Some v) before r (later (k + 1) r rs ++ Time n ∷ []) le (omega (arith, at)) old some
    (λ u early. shown m c i (k + 1) u n (get_or r i 0) v r rs row early (omega (arith, at)) w some here is)
  where
    wide_again : (a b : List ℕ) (rs : List (List ℕ)) → length b ≡ length a → All (λ s. length s ≡ length a) rs → All (λ s. length s ≡ length b) rs
    wide_again a b rs e w = subst (λ z. All (λ (s : List ℕ). length s ≡ z) rs) (sym e) w

-- the last time is the number of cycles
last_is : (n : ℕ) (found : Option ℕ) (es : List Entry) → last_time found (es ++ Time n ∷ []) ≡ Some n
last_is n found [] = refl
last_is n found (Time t ∷ es) = last_is n (Some t) es
last_is n found (Change j b ∷ es) = last_is n found es

pub told_count : (rows : List (List ℕ)) → last_time None (dump rows) ≡ Some (length rows)
told_count rows = last_is (length rows) None (entries rows)

pub told_bits : (width : ℕ) (rows : List (List ℕ)) → All (λ r. length r ≡ width) rows → (c i : ℕ) (row : List ℕ) (v : ℕ) → slice_get rows c ≡ Some row → slice_get row i ≡ Some v
    → last_bits c i 0 None (dump rows) ≡ Some v
told_bits width [] wide c i row v here is = none_some here
told_bits width (r ∷ rs) wide zero i row v here is =
    ap (last_bits 0 i 0 None) (append_assoc (Time 0 ∷ all_bits 0 r) (later 1 r rs) (Time (length (r ∷ rs)) ∷ []))
    ∙ (all_taken 0 i 0 0 i r v None (later 1 r rs ++ Time (length (r ∷ rs)) ∷ []) (omega arith) (omega arith) (ap (λ s. slice_get s i) (same_Some r row here) ∙ is)
    ∙ behind 0 i 1 0 (length (r ∷ rs)) (Some v) r rs (omega arith))
told_bits width (r ∷ rs) wide (suc c) i row v here is =
    let long : length r ≡ width = All-head (λ (s : List ℕ). length s ≡ width) r rs wide in
    let w : All (λ (s : List ℕ). length s ≡ length r) rs = subst (λ z. All (λ (s : List ℕ). length s ≡ z) rs) (sym long) (All-tail (λ (s : List ℕ). length s ≡ width) r rs wide) in
    let here_long : length row ≡ width = wide_at rs c row (All-tail (λ (s : List ℕ). length s ≡ width) r rs wide) here in
    let some : slice_get r i ≡ Some (get_or r i 0) = slice_get-get_or r i 0 (omega (arith, long, here_long, slice_get_within row i v is)) in
    ap (last_bits (suc c) i 0 None) (append_assoc (Time 0 ∷ all_bits 0 r) (later 1 r rs) (Time (length (r ∷ rs)) ∷ []))
    ∙ (all_taken (suc c) i 0 0 i r (get_or r i 0) None (later 1 r rs ++ Time (length (r ∷ rs)) ∷ []) (omega arith) (omega arith) some
    ∙ shown c (suc c) i 1 0 (length (r ∷ rs)) (get_or r i 0) v r rs row (omega arith) (omega arith) w some here is)
  where
    wide_at : (rs : List (List ℕ)) (c : ℕ) (row : List ℕ) → All (λ s. length s ≡ width) rs → slice_get rs c ≡ Some row → length row ≡ width
    wide_at [] c row w e = none_some e
    wide_at (s ∷ ss) zero row w e = ap length (sym (same_Some s row e)) ∙ All-head (λ (s : List ℕ). length s ≡ width) s ss w
    wide_at (s ∷ ss) (suc c) row w e = wide_at ss c row (All-tail (λ (s : List ℕ). length s ≡ width) s ss w) e

-- rows are dumped piece by piece
pub later_append : (c : ℕ) (before : List ℕ) (xs ys : List (List ℕ)) → later c before (xs ++ ys) ≡ later c before xs ++ later (c + length xs) (last_row before xs) ys
later_append c before [] ys = let same : c ≡ c + 0 = omega arith in ap (λ k. later k before ys) same
later_append c before (x ∷ xs) ys =
    let same : c + 1 + length xs ≡ c + suc (length xs) = omega arith in
    ap (λ es. stamped c (changes 0 before x) ++ es) (later_append (c + 1) x xs ys ∙ ap (λ k. later (c + 1) x xs ++ later k (last_row x xs) ys) same)
    ∙ sym (append_assoc (stamped c (changes 0 before x)) (later (c + 1) x xs) (later (c + suc (length xs)) (last_row x xs) ys))

pub entries_append : (x : List ℕ) (xs ys : List (List ℕ)) → entries (x ∷ (xs ++ ys)) ≡ entries (x ∷ xs) ++ later (1 + length xs) (last_row x xs) ys
entries_append x xs ys =
    ap (λ es. (Time 0 ∷ all_bits 0 x) ++ es) (later_append 1 x xs ys) ∙ sym (append_assoc (Time 0 ∷ all_bits 0 x) (later 1 x xs) (later (1 + length xs) (last_row x xs) ys))
