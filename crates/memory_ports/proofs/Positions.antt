-- The numbers of the items that pass a test.
use Rattle.std.proofs.Common.{◌≡◌, ℕ, zero, suc, ◌+◌, ◌<◌, Bool, true, false, List, [], ◌∷◌, take, length, refl, ap, ap₂, ◌∙◌, arith, Option, Some, None, slice_get, if◌then◌else◌}
use Rattle.std.specs.Prelude.{zip, filter_map, count_by}
use Rattle.std.specs.List.{range_with_len, cons_option}
use Rattle.std.proofs.lemmas.List.Sums.{sum_by-cons}
use Rattle.ground_net.specs.Cones.{numbered}
use Rattle.memory_ports.proofs.Lists.{some_same, none_some}
use Rattle.memory_ports.proofs.Rising.{Rises}

module _ {A : Type 0} (p : A → Bool) where
  abbrev pub number_where : ℕ × A → Option ℕ
  number_where both = if p both.1 then Some both.0 else None

  abbrev pub positions_from : ℕ → List A → List ℕ
  positions_from a xs = filter_map number_where (zip (range_with_len a (length xs)) xs)

  abbrev pub positions : List A → List ℕ
  positions xs = filter_map number_where (numbered xs)

  -- a number in the list is that of an item that passes, and stands behind those of the items before it that do
  pub record Found (a : ℕ) (xs : List A) (n x : ℕ) : Type 0 where
    pub at : ℕ
    pub item : A
    pub place : x ≡ a + at
    pub there : slice_get xs at ≡ Some item
    pub passes : p item ≡ true
    pub count : count_by p (take at xs) ≡ n

  count_cons : (y : A) (ys : List A) → count_by p (y ∷ ys) ≡ (if p y then 1 else 0) + count_by p ys
  count_cons y ys = sum_by-cons (λ x. if p x then 1 else 0) y ys

  behind : (a : ℕ) (y : A) (ys : List A) (n x c : ℕ) (b : Bool) → p y ≡ b → (if b then 1 else 0) + n ≡ c → Found (a + 1) ys n x → Found a (y ∷ ys) c x
  behind a y ys n x c b e s f = record {
    at = suc f.at;
    item = f.item;
    place = let h = f.place in omega (arith, h);
    there = f.there;
    passes = f.passes;
    count = count_cons y (take f.at ys) ∙ (ap₂ (λ b n. (if b then 1 else 0) + n) e f.count ∙ s);
  }

  pub position_is : (a : ℕ) (xs : List A) (n x : ℕ) → slice_get (positions_from a xs) n ≡ Some x → Found a xs n x
  position_is a [] n x e = absurd (none_some e)
  position_is a (y ∷ ys) n x e = by_test (p y) refl n (position_is (a + 1) ys) e
    where
      by_test : (b : Bool) → p y ≡ b → (n : ℕ) → ((m z : ℕ) → slice_get (positions_from (a + 1) ys) m ≡ Some z → Found (a + 1) ys m z)
          → slice_get (cons_option (if b then Some a else None) (positions_from (a + 1) ys)) n ≡ Some x → Found a (y ∷ ys) n x
      by_test true q zero rest h = record { at = zero; item = y; place = let same : a ≡ x = some_same h in omega (arith, same); there = refl; passes = q; count = refl }
      by_test true q (suc m) rest h = behind a y ys m x (suc m) true q (omega arith) (rest m x h)
      by_test false q n rest h = behind a y ys n x n false q (omega arith) (rest n x h)

  pub position_of : (a : ℕ) (xs : List A) (x : ℕ) (item : A) → slice_get xs x ≡ Some item → p item ≡ true → slice_get (positions_from a xs) (count_by p (take x xs)) ≡ Some (a + x)
  position_of a [] x item e h = absurd (none_some e)
  position_of a (y ∷ ys) zero item e h =
      let q : p y ≡ true = ap p (some_same e) ∙ h in
      let z : a ≡ a + 0 = omega arith in
      ap (λ b. slice_get (cons_option (if b then Some a else None) (positions_from (a + 1) ys)) zero) q ∙ ap Some z
  position_of a (y ∷ ys) (suc x) item e h = by_test (p y) refl (position_of (a + 1) ys x item e h)
    where
      rest : List ℕ
      rest = positions_from (a + 1) ys

      by_test : (b : Bool) → p y ≡ b → slice_get (positions_from (a + 1) ys) (count_by p (take x ys)) ≡ Some (a + 1 + x)
          → slice_get (cons_option (if p y then Some a else None) (positions_from (a + 1) ys)) (count_by p (y ∷ take x ys)) ≡ Some (a + suc x)
      by_test true q f =
          let z : a + 1 + x ≡ a + suc x = omega arith in
          let c : count_by p (y ∷ take x ys) ≡ suc (count_by p (take x ys)) = count_cons y (take x ys) ∙ (ap (λ b. (if b then 1 else 0) + count_by p (take x ys)) q ∙ one_more (count_by p (take x ys))) in
          ap₂ (λ b n. slice_get (cons_option (if b then Some a else None) (positions_from (a + 1) ys)) n) q c ∙ (f ∙ ap Some z)
        where
          one_more : (n : ℕ) → 1 + n ≡ suc n
          one_more n = omega arith
      by_test false q f =
          let z : a + 1 + x ≡ a + suc x = omega arith in
          let c : count_by p (y ∷ take x ys) ≡ count_by p (take x ys) = count_cons y (take x ys) ∙ (ap (λ b. (if b then 1 else 0) + count_by p (take x ys)) q ∙ none_more (count_by p (take x ys))) in
          ap₂ (λ b n. slice_get (cons_option (if b then Some a else None) (positions_from (a + 1) ys)) n) q c ∙ (f ∙ ap Some z)
        where
          none_more : (n : ℕ) → 0 + n ≡ n
          none_more n = omega arith

  pub positions_rise : (a : ℕ) (xs : List A) → Rises (positions_from a xs)
  positions_rise a [] = record { rises = λ i j x y h e f. absurd (none_some e) }
  positions_rise a (y ∷ ys) = by_test (p y) (positions_rise (a + 1) ys)
    where
      by_test : (b : Bool) → Rises (positions_from (a + 1) ys) → Rises (cons_option (if b then Some a else None) (positions_from (a + 1) ys))
      by_test false r = r
      by_test true r = record { rises = rises }
        where
          rises : (i j x z : ℕ) → i < j → slice_get (a ∷ positions_from (a + 1) ys) i ≡ Some x → slice_get (a ∷ positions_from (a + 1) ys) j ≡ Some z → x < z
          rises i zero x z h e f = absurd (omega arith)
          rises zero (suc j) x z h e f =
              let found = position_is (a + 1) ys j z f in
              let same : a ≡ x = some_same e in
              let place = found.place in
              omega (arith, same, place)
          rises (suc i) (suc j) x z h e f = let less : i < j = omega arith in r.rises i j x z less e f
