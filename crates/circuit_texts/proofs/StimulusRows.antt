-- The rows of a stimulus are those of its first part, and then those of its second part from the values that the first one leaves.
use Rattle.std.proofs.Common.{◌≡◌, ℕ, zero, suc, ◌+◌, ◌-◌, ◌<◌, ◌≤◌, Bool, true, false, ◌&&◌, cond, eqb, leb, ltb, List, [], ◌∷◌, ◌++◌, map, filter, reverse, Option, Some, None, option_map, refl, sym, ap, ap₂, ◌∙◌, subst, arith, ◌⊎◌, inl, inr}
use Rattle.std.specs.Prelude.{find, All, AllPairs}
use Rattle.std.specs.Option.{option_or}
use Rattle.std.specs.List.{enumerate_from, range_with_len}
use Rattle.std.proofs.lemmas.Bool.{cases_lt, lt-ltb, le-ltb, le-leb, lt-leb, and_right}
use Rattle.std.proofs.lemmas.List.{reverse-append, map-append}
use Rattle.std.proofs.lemmas.List.Folds.{find-append}
use Rattle.std.proofs.lemmas.List.Elements.{All-head, All-tail, All-cons, All-from_get_or}
use Rattle.bit_words.specs.declared.value.Value.{Value}
use Rattle.stimulus.specs.declared.stimulus.Setting.{Setting}
use Rattle.stimulus.specs.Rows.{last_set, value_or}
use Rattle.circuit_texts.specs.StimulusParts.{row_from, rows_from, first_settings, counted_from, second_settings}

-- numbers
range_split : (k n m : ℕ) → range_with_len k (n + m) ≡ range_with_len k n ++ range_with_len (k + n) m
range_split k zero m =
    let q : 0 + m ≡ m = omega arith in
    let b : k ≡ k + 0 = omega arith in
    ap (range_with_len k) q ∙ ap (λ c. range_with_len c m) b
range_split k (suc n) m =
    let q : suc n + m ≡ suc (n + m) = omega arith in
    let b : k + 1 + n ≡ k + suc n = omega arith in
    ap (range_with_len k) q ∙ ap (λ l. k ∷ l) (range_split (k + 1) n m ∙ ap (λ c. range_with_len (k + 1) n ++ range_with_len c m) b)

map_range : {B : Type 0} (f g : ℕ → B) (k j n d : ℕ) → k ≡ d + j → ((c : ℕ) → j ≤ c → c < j + n → f (d + c) ≡ g c) → map f (range_with_len k n) ≡ map g (range_with_len j n)
map_range f g k j zero d at h = refl
map_range f g k j (suc n) d at h =
    ap₂ (λ y ys. y ∷ ys) (ap f at ∙ h j (omega arith) (omega arith)) (map_range f g (k + 1) (j + 1) n d (omega (arith, at)) (λ c le lt. h c (omega (arith, le)) (omega (arith, lt))))

abbrev Test : ℕ → ℕ → Setting → Bool
Test c i s = eqb s.input i && leb s.cycle c

or_none : (o : Option Setting) → option_or o None ≡ o
or_none None = refl
or_none (Some s) = refl

-- the last that passes
last_cons : (p : Setting → Bool) (x : Setting) (xs : List Setting) → find p (reverse (x ∷ xs)) ≡ option_or (find p (reverse xs)) (cond (p x) (Some x) None)
last_cons p x xs = ap (find p) (reverse-append (x ∷ []) xs) ∙ find-append p (reverse xs) (x ∷ [])

-- settings from a cycle on say nothing before it
early : (a c i : ℕ) (xs : List Setting) → c < a → last_set (first_settings a xs) c i ≡ last_set xs c i
early a c i [] lt = refl
early a c i (x ∷ xs) lt = by (early a c i xs lt) (cases_lt x.cycle a) where
  by : last_set (first_settings a xs) c i ≡ last_set xs c i → (x.cycle < a) ⊎ (a ≤ x.cycle) → last_set (cond (ltb x.cycle a) (x ∷ first_settings a xs) (first_settings a xs)) c i ≡ last_set (x ∷ xs) c i
  by on (inl below) =
      ap (λ b. last_set (cond b (x ∷ first_settings a xs) (first_settings a xs)) c i) (lt-ltb x.cycle a below)
      ∙ (last_cons (Test c i) x (first_settings a xs) ∙ (ap (λ o. option_or o (cond (Test c i x) (Some x) None)) on ∙ sym (last_cons (Test c i) x xs)))
  by on (inr from) =
      let late : Test c i x ≡ false = and_right (eqb x.input i) (leb x.cycle c) (lt-leb x.cycle c (omega (arith, lt, from))) in
      ap (λ b. last_set (cond b (x ∷ first_settings a xs) (first_settings a xs)) c i) (le-ltb x.cycle a from)
      ∙ (on ∙ (sym (or_none (last_set xs c i)) ∙ (ap (λ b. option_or (last_set xs c i) (cond b (Some x) None)) (sym late) ∙ sym (last_cons (Test c i) x xs))))

-- settings by rising cycles
abbrev Rising : List Setting → Type 0
Rising [] = Unit {0}
Rising (x ∷ xs) = All (λ y. x.cycle ≤ y.cycle) xs × Rising xs

pub rising : (xs : List Setting) → AllPairs (λ x y. x.cycle ≤ y.cycle) xs → Rising xs
rising [] h = tt
rising (x ∷ xs) h = (All-from_get_or (λ y. x.cycle ≤ y.cycle) xs x (λ k lt. h 0 (suc k) x (omega arith) (omega (arith, lt))), rising xs (λ i j d lt le. h (suc i) (suc j) d (omega (arith, lt)) (omega (arith, le))))

abbrev later_part : ℕ → List Setting → List Setting
later_part a xs = filter (λ s. leb a s.cycle) xs

-- where one stands at or behind a cycle, all that follow do
all_late : (a : ℕ) (xs : List Setting) → All (λ y. a ≤ y.cycle) xs → (first_settings a xs ≡ []) × (later_part a xs ≡ xs)
all_late a [] h = (refl, refl)
all_late a (x ∷ xs) h =
    let from : a ≤ x.cycle = All-head (λ (y : Setting). a ≤ y.cycle) x xs h in
    let on = all_late a xs (All-tail (λ (y : Setting). a ≤ y.cycle) x xs h) in
    (ap (λ b. cond b (x ∷ first_settings a xs) (first_settings a xs)) (le-ltb x.cycle a from) ∙ on.0, ap (λ b. cond b (x ∷ later_part a xs) (later_part a xs)) (le-leb a x.cycle from) ∙ ap (λ ys. x ∷ ys) on.1)

behind : (a n : ℕ) (xs : List Setting) → a ≤ n → All (λ y. n ≤ y.cycle) xs → All (λ y. a ≤ y.cycle) xs
behind a n xs le h = λ k d lt. let here = h k d lt in omega (arith, le, here)

split : (a : ℕ) (xs : List Setting) → Rising xs → xs ≡ first_settings a xs ++ later_part a xs
split a [] h = refl
split a (x ∷ xs) h = by (split a xs h.1) (cases_lt x.cycle a) where
  by : xs ≡ first_settings a xs ++ later_part a xs → (x.cycle < a) ⊎ (a ≤ x.cycle)
      → x ∷ xs ≡ cond (ltb x.cycle a) (x ∷ first_settings a xs) (first_settings a xs) ++ cond (leb a x.cycle) (x ∷ later_part a xs) (later_part a xs)
  by on (inl below) = ap (λ ys. x ∷ ys) on ∙ ap₂ (λ b d. cond b (x ∷ first_settings a xs) (first_settings a xs) ++ cond d (x ∷ later_part a xs) (later_part a xs)) (sym (lt-ltb x.cycle a below)) (sym (lt-leb a x.cycle below))
  by on (inr from) =
      let all = all_late a xs (behind a x.cycle xs from h.0) in
      ap₂ (λ ys zs. ys ++ (x ∷ zs)) (sym all.0) (sym all.1)
      ∙ ap₂ (λ b d. cond b (x ∷ first_settings a xs) (first_settings a xs) ++ cond d (x ∷ later_part a xs) (later_part a xs)) (sym (le-ltb x.cycle a from)) (sym (le-leb a x.cycle from))

-- the later ones, counted again
counted_test : (a c i : ℕ) (x : Setting) → a ≤ x.cycle → Test c i (counted_from a x) ≡ Test (a + c) i x
counted_test a c i x from = ap (λ b. eqb x.input i && b) (by (cases_lt (a + c) x.cycle)) where
  by : (a + c < x.cycle) ⊎ (x.cycle ≤ a + c) → leb (x.cycle - a) c ≡ leb x.cycle (a + c)
  by (inl late) = lt-leb (x.cycle - a) c (omega (arith, late)) ∙ sym (lt-leb x.cycle (a + c) late)
  by (inr soon) = le-leb (x.cycle - a) c (omega (arith, soon)) ∙ sym (le-leb x.cycle (a + c) soon)

map_or : (f : Setting → Setting) (o p : Option Setting) → option_map f (option_or o p) ≡ option_or (option_map f o) (option_map f p)
map_or f None p = refl
map_or f (Some s) p = refl

counted : (a c i : ℕ) (xs : List Setting) → All (λ y. a ≤ y.cycle) xs → last_set (map (counted_from a) xs) c i ≡ option_map (counted_from a) (last_set xs (a + c) i)
counted a c i [] h = refl
counted a c i (x ∷ xs) h =
    last_cons (Test c i) (counted_from a x) (map (counted_from a) xs)
    ∙ (ap₂ option_or (counted a c i xs (All-tail (λ (y : Setting). a ≤ y.cycle) x xs h))
    (ap (λ b. cond b (Some (counted_from a x)) None) (counted_test a c i x (All-head (λ (y : Setting). a ≤ y.cycle) x xs h)) ∙ by (Test (a + c) i x))
    ∙ (sym (map_or (counted_from a) (last_set xs (a + c) i) (cond (Test (a + c) i x) (Some x) None)) ∙ ap (option_map (counted_from a)) (sym (last_cons (Test (a + c) i) x xs))))
  where
    by : (b : Bool) → ◌≡◌ {A = Option Setting} (cond b (Some (counted_from a x)) None) (option_map (counted_from a) (cond b (Some x) None))
    by true = refl
    by false = refl

-- the first ones are all made before the second part begins
made : (a c i : ℕ) (xs : List Setting) → last_set (first_settings a xs) (a + c) i ≡ last_set (first_settings a xs) (a - 1) i
made a c i [] = refl
made a c i (x ∷ xs) = by (made a c i xs) (cases_lt x.cycle a) where
  by : last_set (first_settings a xs) (a + c) i ≡ last_set (first_settings a xs) (a - 1) i → (x.cycle < a) ⊎ (a ≤ x.cycle)
      → last_set (cond (ltb x.cycle a) (x ∷ first_settings a xs) (first_settings a xs)) (a + c) i ≡ last_set (cond (ltb x.cycle a) (x ∷ first_settings a xs) (first_settings a xs)) (a - 1) i
  by on (inl below) =
      let same : leb x.cycle (a + c) ≡ leb x.cycle (a - 1) = le-leb x.cycle (a + c) (omega (arith, below)) ∙ sym (le-leb x.cycle (a - 1) (omega (arith, below))) in
      ap (λ b. last_set (cond b (x ∷ first_settings a xs) (first_settings a xs)) (a + c) i) (lt-ltb x.cycle a below)
      ∙ (last_cons (Test (a + c) i) x (first_settings a xs)
      ∙ (ap₂ option_or on (ap (λ b. cond (eqb x.input i && b) (Some x) None) same)
      ∙ (sym (last_cons (Test (a - 1) i) x (first_settings a xs)) ∙ ap (λ b. last_set (cond b (x ∷ first_settings a xs) (first_settings a xs)) (a - 1) i) (sym (lt-ltb x.cycle a below)))))
  by on (inr from) =
      ap (λ b. last_set (cond b (x ∷ first_settings a xs) (first_settings a xs)) (a + c) i) (le-ltb x.cycle a from)
      ∙ (on ∙ ap (λ b. last_set (cond b (x ∷ first_settings a xs) (first_settings a xs)) (a - 1) i) (sym (le-ltb x.cycle a from)))

value_or_or : (o p : Option Setting) (z : Value) → value_or (option_or o p) z ≡ value_or o (value_or p z)
value_or_or None p z = refl
value_or_or (Some s) p z = refl

value_counted : (a : ℕ) (o : Option Setting) (z : Value) → value_or (option_map (counted_from a) o) z ≡ value_or o z
value_counted a None z = refl
value_counted a (Some s) z = refl

late_all : (a : ℕ) (xs : List Setting) → All (λ y. a ≤ y.cycle) (later_part a xs)
late_all a [] = λ k d lt. absurd (omega (arith, lt))
late_all a (x ∷ xs) = by (late_all a xs) (cases_lt x.cycle a) where
  by : All (λ y. a ≤ y.cycle) (later_part a xs) → (x.cycle < a) ⊎ (a ≤ x.cycle) → All (λ y. a ≤ y.cycle) (cond (leb a x.cycle) (x ∷ later_part a xs) (later_part a xs))
  by on (inl below) = subst (λ b. All (λ (y : Setting). a ≤ y.cycle) (cond b (x ∷ later_part a xs) (later_part a xs))) (sym (lt-leb a x.cycle below)) on
  by on (inr from) = subst (λ b. All (λ (y : Setting). a ≤ y.cycle) (cond b (x ∷ later_part a xs) (later_part a xs))) (sym (le-leb a x.cycle from))
      (All-cons (λ (y : Setting). a ≤ y.cycle) x (later_part a xs) from on)

pub value_split : (a c i : ℕ) (xs : List Setting) (z : Value) → Rising xs
    → value_or (last_set xs (a + c) i) z ≡ value_or (last_set (second_settings a xs) c i) (value_or (last_set (first_settings a xs) (a - 1) i) z)
value_split a c i xs z h =
    ap (λ ys. value_or (last_set ys (a + c) i) z) (split a xs h)
    ∙ (ap (λ ys. value_or (find (Test (a + c) i) ys) z) (reverse-append (first_settings a xs) (later_part a xs))
    ∙ (ap (λ o. value_or o z) (find-append (Test (a + c) i) (reverse (later_part a xs)) (reverse (first_settings a xs)))
    ∙ (value_or_or (last_set (later_part a xs) (a + c) i) (last_set (first_settings a xs) (a + c) i) z
    ∙ (ap (λ o. value_or (last_set (later_part a xs) (a + c) i) (value_or o z)) (made a c i xs)
    ∙ (sym (value_counted a (last_set (later_part a xs) (a + c) i) (value_or (last_set (first_settings a xs) (a - 1) i) z))
    ∙ ap (λ o. value_or o (value_or (last_set (first_settings a xs) (a - 1) i) z)) (sym (counted a c i (later_part a xs) (late_all a xs))))))))

-- rows
row_same : (f g : ℕ × Value → Value) (n : ℕ) (zs : List Value) → ((e : ℕ × Value) → f e ≡ g e) → map f (enumerate_from n zs) ≡ map g (enumerate_from n zs)
row_same f g n [] h = refl
row_same f g n (z ∷ zs) h = ap₂ (λ y ys. y ∷ ys) (h (n, z)) (row_same f g (n + 1) zs h)

row_twice : (f g h : ℕ × Value → Value) (n : ℕ) (zs : List Value) → ((i : ℕ) (z : Value) → f (i, z) ≡ g (i, h (i, z))) → map f (enumerate_from n zs) ≡ map g (enumerate_from n (map h (enumerate_from n zs)))
row_twice f g h n [] e = refl
row_twice f g h n (z ∷ zs) e = ap₂ (λ y ys. y ∷ ys) (e n z) (row_twice f g h (n + 1) zs e)

row_early : (a c : ℕ) (start : List Value) (xs : List Setting) → c < a → row_from start xs c ≡ row_from start (first_settings a xs) c
row_early a c start xs lt = row_same (λ e. value_or (last_set xs c e.0) e.1) (λ e. value_or (last_set (first_settings a xs) c e.0) e.1) 0 start (λ e. ap (λ o. value_or o e.1) (sym (early a c e.0 xs lt)))

row_late : (a c : ℕ) (start : List Value) (xs : List Setting) → Rising xs → row_from start xs (a + c) ≡ row_from (row_from start (first_settings a xs) (a - 1)) (second_settings a xs) c
row_late a c start xs h =
    row_twice (λ e. value_or (last_set xs (a + c) e.0) e.1) (λ e. value_or (last_set (second_settings a xs) c e.0) e.1) (λ e. value_or (last_set (first_settings a xs) (a - 1) e.0) e.1) 0 start
    (λ i z. value_split a c i xs z h)

pub rows_split : (a b : ℕ) (start : List Value) (xs : List Setting) → AllPairs (λ x y. x.cycle ≤ y.cycle) xs
    → rows_from start xs 0 (a + b) ≡ rows_from start (first_settings a xs) 0 a ++ rows_from (row_from start (first_settings a xs) (a - 1)) (second_settings a xs) 0 b
rows_split a b start xs h =
    ap (map (row_from start xs)) (range_split 0 a b)
    ∙ (map-append (row_from start xs) (range_with_len 0 a) (range_with_len (0 + a) b)
    ∙ ap₂ (λ ys zs. ys ++ zs)
    (map_range (row_from start xs) (row_from start (first_settings a xs)) 0 0 a 0 (omega arith) (λ c le lt. let q : 0 + c ≡ c = omega arith in ap (row_from start xs) q ∙ row_early a c start xs (omega (arith, lt))))
    (map_range (row_from start xs) (row_from (row_from start (first_settings a xs) (a - 1)) (second_settings a xs)) (0 + a) 0 b a (omega arith) (λ c le lt. row_late a c start xs (rising xs h))))
