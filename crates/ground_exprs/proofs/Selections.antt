-- What is read of a part.
use Rattle.std.proofs.Common.{◌≡◌, ℕ, zero, suc, ◌<◌, ◌≤◌, ◌+◌, ◌*◌, ◌^◌, min, Bool, true, false, List, [], ◌∷◌, ◌++◌, map, length, refl, sym, ap, ap₂, ◌∙◌, subst, arith, ◌==◌, ◌&&◌, ◌||◌, nat_lt, if◌then◌else◌, Some, None, Option, option_and_then, option_map, slice_get, ℤ, pos, negsuc, true≢false, ◌⊎◌, inl, inr, ⊎_elim}
use Rattle.std.specs.Prelude.{Contains}
use Rattle.std.specs.List.{flat_map, list_all, range_with_len}
use Rattle.std.proofs.lemmas.Bool.Decides.{nat_tests}
use Rattle.std.proofs.lemmas.Grind.{common_steps}
use Rattle.std.proofs.lemmas.Nat.{pow_pos}
use Rattle.std.proofs.lemmas.List.Concat.{flat_map-cons}
use Rattle.std.proofs.lemmas.List.Elements.{Contains-append_left, Contains-append_right, Contains-append_cases}
use Rattle.bit_words.specs.declared.value.Kind.{Kind}
use Rattle.bit_words.specs.declared.value.Kind.TheVariants.{Unsigned, Signed}
use Rattle.bit_words.specs.declared.value.Value.{Value}
use Rattle.bit_words.specs.Values.{integer_of}
use Rattle.prim_ops.specs.Values.{fitted, lone}
use Rattle.ground_net.specs.declared.ground.Ground.{Ground}
use Rattle.ground_net.specs.declared.ground.Ground.TheVariants.{Leaf, Indexed}
use Rattle.ground_net.specs.Grounds.{Instant, value, mentions, or_zero, element_count, place, indexed}
use Rattle.ground_net.specs.Numbers.{listed}
use Rattle.ground_net.proofs.Listing.{flat_length, flat_at}
use Rattle.ground_net.proofs.Layers.{values, all_mentions, value-Leaf, value-Indexed, mentions-Leaf, mentions-Indexed}
use Rattle.ground_net.specs.Shapes.{Shape, shaped, Table, shape, same_shape, same_kind, is_unsigned, all_of, shape_of_items, are_index_shapes, shape_of_indexed}
use Rattle.ground_net.specs.Cycles.{integer_at}
use Rattle.ground_net.proofs.Shaping.{shapes_of, shape-Leaf, shape-Indexed, both_true}
use Rattle.ground_exprs.specs.declared.part.Pick.{Pick}
use Rattle.ground_exprs.specs.Parts.{picked_from, picked, choices, indices_of, lengths_of, spans_of, index_mentions, is_nowhere, is_index_shape, are_indices, IsRead}
use Rattle.ground_exprs.proofs.Members.{none_some, some_same, not_in_none, the_one, in_front, in_later}

pub zero_fitted : (kind : Kind) (width : ℕ) → integer_of (fitted kind width (pos 0)) ≡ pos 0
zero_fitted Unsigned width = grind (arith, common_steps)
zero_fitted Signed width = let more : 0 < 2 ^ min width 128 = pow_pos (min width 128) in grind (arith, common_steps, nat_tests, more)

-- No index

pub read_leaf : (leaf : ℕ) → IsRead [] leaf (Leaf leaf)
read_leaf leaf = record {
  value = λ instant. ap integer_of (value-Leaf leaf instant);
  only = λ x c. inr (subst (λ l. Contains l x) (mentions-Leaf leaf) c);
  indices = λ x c. absurd (not_in_none x c);
  leaves = λ x c. subst (λ l. Contains l x) (sym (mentions-Leaf leaf)) c;
  shape = λ table s i h. shape-Leaf leaf table ∙ h leaf (the_one leaf);
}

-- What indices mention

pub index_cases : (pick : Pick) (rest : List Pick) (x : ℕ) → Contains (index_mentions (pick ∷ rest)) x → Contains (mentions pick.index) x ⊎ Contains (index_mentions rest) x
index_cases pick rest x c = Contains-append_cases (mentions pick.index) (index_mentions rest) x (subst (λ l. Contains l x) (flat_map-cons (λ (p : Pick). mentions p.index) pick rest) c)

pub index_here : (pick : Pick) (rest : List Pick) (x : ℕ) → Contains (mentions pick.index) x → Contains (index_mentions (pick ∷ rest)) x
index_here pick rest x c = subst (λ l. Contains l x) (sym (flat_map-cons (λ (p : Pick). mentions p.index) pick rest)) (Contains-append_left (mentions pick.index) (index_mentions rest) x c)

pub index_later : (pick : Pick) (rest : List Pick) (x : ℕ) → Contains (index_mentions rest) x → Contains (index_mentions (pick ∷ rest)) x
index_later pick rest x c = subst (λ l. Contains l x) (sym (flat_map-cons (λ (p : Pick). mentions p.index) pick rest)) (Contains-append_right (mentions pick.index) (index_mentions rest) x c)

mentions_same : (picks : List Pick) → all_mentions (indices_of picks) ≡ index_mentions picks
mentions_same [] = refl
mentions_same (p ∷ ps) =
    flat_map-cons (λ l. l) (mentions p.index) (map mentions (indices_of ps)) ∙ ap (λ l. mentions p.index ++ l) (mentions_same ps) ∙ sym (flat_map-cons (λ (q : Pick). mentions q.index) p ps)

-- Numbers

-- the numbers of a stretch are those of the leaves that a leaf of the part may be
same_lists : (f g : ℕ → List ℕ) (ks : List ℕ) → ((k : ℕ) → f k ≡ g k) → flat_map f ks ≡ flat_map g ks
same_lists f g [] h = refl
same_lists f g (k ∷ ks) h = flat_map-cons f k ks ∙ ap₂ (λ xs ys. xs ++ ys) (h k) (same_lists f g ks h) ∙ sym (flat_map-cons g k ks)

pub listed_choices : (picks : List Pick) (leaf : ℕ) → listed (spans_of picks) leaf ≡ choices picks leaf
listed_choices [] leaf = refl
listed_choices (p ∷ ps) leaf =
    same_lists (λ k. listed (spans_of ps) (leaf + k * p.stride)) (λ k. choices ps (leaf + k * p.stride)) (range_with_len 0 p.length) (λ k. listed_choices ps (leaf + k * p.stride))

choices_count : (picks : List Pick) (leaf : ℕ) → length (choices picks leaf) ≡ element_count (lengths_of picks)
choices_count [] leaf = refl
choices_count (p ∷ ps) leaf = flat_length (λ k. choices ps (leaf + k * p.stride)) (element_count (lengths_of ps)) 0 p.length (λ k. choices_count ps (leaf + k * p.stride))

-- The place that indices pick

times : (j n c : ℕ) → j < n → suc j * c ≤ n * c
times j n c h = grind (arith, h)

one_more : (j c : ℕ) → suc j * c ≡ j * c + c
one_more j c = grind arith

module _ (instant : Instant) where
  abbrev numbers : List Pick → List ℤ
  numbers picks = map integer_of (values (indices_of picks) instant)

  abbrev place_of : List Pick → Option ℕ
  place_of picks = place (numbers picks) (lengths_of picks)

  below_count : (picks : List Pick) (k : ℕ) → place_of picks ≡ Some k → k < element_count (lengths_of picks)
  below_count [] k e = let z : 0 ≡ k = some_same e in omega (arith, z)
  below_count (p ∷ ps) k e = by (below_count ps) (integer_of (value p.index instant)) e
    where
      c : ℕ
      c = element_count (lengths_of ps)

      inner : ((q : ℕ) → place_of ps ≡ Some q → q < c) → (j : ℕ) (o : Option ℕ) → place_of ps ≡ o → j < p.length → option_map (λ q. j * c + q) o ≡ Some k → k < p.length * c
      inner less j (Some q) same below e =
          let within : q < c = less q same in
          let is : j * c + q ≡ k = some_same e in
          let most : suc j * c ≤ p.length * c = times j p.length c below in
          let more : suc j * c ≡ j * c + c = one_more j c in
          omega (arith, is, within, most, more)
      inner less j None same below e = absurd (none_some e)

      test : ((q : ℕ) → place_of ps ≡ Some q → q < c) → (j : ℕ) (b : Bool) → nat_lt j p.length ≡ b → (if b then option_map (λ q. j * c + q) (place_of ps) else None) ≡ Some k → k < p.length * c
      test less j true t e = let below : j < p.length = grind (arith, nat_tests, t) in inner less j (place_of ps) refl below e
      test less j false t e = absurd (none_some e)

      by : ((q : ℕ) → place_of ps ≡ Some q → q < c) → (i : ℤ) → place (i ∷ numbers ps) (p.length ∷ lengths_of ps) ≡ Some k → k < p.length * c
      by less (pos j) e = test less j (nat_lt j p.length) refl e
      by less (negsuc j) e = absurd (none_some e)

  abbrev Found : List Pick → Type 0
  Found ps = (x : ℕ) → picked instant ps x ≡ option_and_then (slice_get (choices ps x)) (place_of ps)

  -- the leaf that is picked stands at that place among those that it may be
  picked_at : (picks : List Pick) (leaf : ℕ) → picked instant picks leaf ≡ option_and_then (slice_get (choices picks leaf)) (place_of picks)
  picked_at [] leaf = refl
  picked_at (p ∷ ps) leaf = by (picked_at ps) (integer_of (value p.index instant))
    where
      c : ℕ
      c = element_count (lengths_of ps)

      all : List ℕ
      all = choices (p ∷ ps) leaf

      inner : (j : ℕ) (o : Option ℕ) → place_of ps ≡ o → j < p.length
          → option_and_then (slice_get (choices ps (leaf + j * p.stride))) o ≡ option_and_then (slice_get all) (option_map (λ q. j * c + q) o)
      inner j (Some q) same below =
          sym (flat_at (λ k. choices ps (leaf + k * p.stride)) c 0 p.length j q (λ k. choices_count ps (leaf + k * p.stride)) below (below_count ps q same)
          ∙ ap (λ x. slice_get (choices ps (leaf + x * p.stride)) q) (first j))
        where
          first : (j : ℕ) → 0 + j ≡ j
          first j = omega arith
      inner j None same below = refl

      test : Found ps → (j : ℕ) (b : Bool) → nat_lt j p.length ≡ b
          → (if b then picked instant ps (leaf + j * p.stride) else None) ≡ option_and_then (slice_get all) (if b then option_map (λ q. j * c + q) (place_of ps) else None)
      test found j true t =
          let below : j < p.length = grind (arith, nat_tests, t) in
          found (leaf + j * p.stride) ∙ inner j (place_of ps) refl below
      test found j false t = refl

      by : Found ps → (i : ℤ) → picked_from p.length (λ k. picked instant ps (leaf + k * p.stride)) i ≡ option_and_then (slice_get all) (place (i ∷ numbers ps) (p.length ∷ lengths_of ps))
      by found (pos j) = test found j (nat_lt j p.length) refl
      by found (negsuc j) = refl

  -- what is found at a place of leaves
  item_integer : (xs : List ℕ) (all : List Value) (k : ℕ) → integer_of (or_zero all (slice_get (map instant.leaf xs) k)) ≡ integer_at instant (slice_get xs k)
  item_integer [] all k = zero_fitted (lone all).kind (lone all).width
  item_integer (x ∷ xs) all zero = refl
  item_integer (x ∷ xs) all (suc k) = item_integer xs all k

  indexed_integer : (xs : List ℕ) (o : Option ℕ) → integer_of (indexed o (map instant.leaf xs)) ≡ integer_at instant (option_and_then (slice_get xs) o)
  indexed_integer xs (Some k) = item_integer xs (map instant.leaf xs) k
  indexed_integer xs None = zero_fitted (lone (map instant.leaf xs)).kind (lone (map instant.leaf xs)).width

-- Shapes

same_itself : (s : Shape) → same_shape s s ≡ true
same_itself s = both s.kind s.width
  where
    width_same : (n : ℕ) → (n == n) ≡ true
    width_same n = grind (arith, common_steps, nat_tests)

    both : (k : Kind) (n : ℕ) → (same_kind k k && (n == n)) ≡ true
    both Unsigned n = width_same n
    both Signed n = width_same n

alike : (s : Shape) (xs : List ℕ) → list_all (λ t. same_shape t s) (map (λ x. s) xs) ≡ true
alike s [] = refl
alike s (x ∷ xs) = ap₂ (λ a b. a && b) (same_itself s) (alike s xs)

items_alike : (s : Shape) (xs : List ℕ) → 0 < length xs → shape_of_items (map (λ x. s) xs) ≡ Some s
items_alike s [] h = absurd (omega arith)
items_alike s (x ∷ xs) h = ap (λ b. if b then Some s else None) (alike s xs)

leaves_alike : (table : Table) (s : Shape) (xs : List ℕ) → ((x : ℕ) → Contains xs x → table.leaf x ≡ Some s) → all_of (map table.leaf xs) ≡ Some (map (λ x. s) xs)
leaves_alike table s [] h = refl
leaves_alike table s (x ∷ xs) h =
    ap (λ o. option_and_then (λ t. option_and_then (λ more. Some (t ∷ more)) (all_of (map table.leaf xs))) o) (h x (in_front x xs))
    ∙ ap (λ o. option_and_then (λ more. Some (s ∷ more)) o) (leaves_alike table s xs (λ y c. h y (in_later x xs y c)))

index_shape : (o : Option Shape) → is_index_shape o ≡ true → (s : Shape) × (o ≡ Some s) × (is_unsigned s ≡ true)
index_shape (Some s) h = (s, refl, h)
index_shape None h = absurd (true≢false (sym h))

-- indices that are UInts have shapes that fit
indices_shaped : (table : Table) (picks : List Pick) → are_indices table picks ≡ true
    → (ss : List Shape) × (all_of (shapes_of (indices_of picks) table) ≡ Some ss) × (are_index_shapes ss (lengths_of picks) ≡ true)
indices_shaped table [] h = ([], refl, refl)
indices_shaped table (p ∷ ps) h =
    let split = both_true (is_index_shape (shape p.index table)) (are_indices table ps) h in
    let here = index_shape (shape p.index table) split.0 in
    let rest = indices_shaped table ps split.1 in (
      here.0 ∷ rest.0,
      ap (λ o. option_and_then (λ t. option_and_then (λ more. Some (t ∷ more)) (all_of (shapes_of (indices_of ps) table))) o) here.1
          ∙ ap (λ o. option_and_then (λ more. Some (here.0 ∷ more)) o) rest.1,
      ap₂ (λ a b. a && b) here.2 rest.2,
    )

nowhere_count : (picks : List Pick) → is_nowhere picks ≡ true → element_count (lengths_of picks) ≡ 0
nowhere_count [] h = absurd (true≢false (sym h))
nowhere_count (p ∷ ps) h = by p.length (element_count (lengths_of ps)) (nowhere_count ps) h
  where
    by : (n c : ℕ) → (is_nowhere ps ≡ true → c ≡ 0) → ((n == 0) || is_nowhere ps) ≡ true → n * c ≡ 0
    by zero c h e = grind arith
    by (suc n) c h e =
        let test : (suc n == 0) ≡ false = grind (arith, common_steps, nat_tests) in
        let z : c ≡ 0 = h (ap (λ b. b || is_nowhere ps) (sym test) ∙ e) in
        grind (arith, z)

somewhere_count : (picks : List Pick) → is_nowhere picks ≡ false → 0 < element_count (lengths_of picks)
somewhere_count [] h = omega arith
somewhere_count (p ∷ ps) h = by p.length (element_count (lengths_of ps)) (somewhere_count ps) h
  where
    by : (n c : ℕ) → (is_nowhere ps ≡ false → 0 < c) → ((n == 0) || is_nowhere ps) ≡ false → 0 < n * c
    by zero c h e = absurd (true≢false e)
    by (suc n) c h e =
        let test : (suc n == 0) ≡ false = grind (arith, common_steps, nat_tests) in
        let some : 0 < c = h (ap (λ b. b || is_nowhere ps) (sym test) ∙ e) in
        grind (arith, some)

none_in : (xs : List ℕ) → length xs ≡ 0 → xs ≡ []
none_in [] e = refl
none_in (x ∷ xs) e = absurd (omega (arith, e))

pub no_choices : (picks : List Pick) (leaf : ℕ) → is_nowhere picks ≡ true → choices picks leaf ≡ []
no_choices picks leaf h = none_in (choices picks leaf) (choices_count picks leaf ∙ nowhere_count picks h)

choices_shape : (picks : List Pick) (leaf : ℕ) (s : Shape) → shape_of_items (map (λ x. s) (choices picks leaf)) ≡ Some (if is_nowhere picks then shaped Unsigned 0 else s)
choices_shape picks leaf s = by (is_nowhere picks) refl
  where
    by : (b : Bool) → is_nowhere picks ≡ b → shape_of_items (map (λ x. s) (choices picks leaf)) ≡ Some (if b then shaped Unsigned 0 else s)
    by true h = ap (λ xs. shape_of_items (map (λ x. s) xs)) (no_choices picks leaf h)
    by false h = items_alike s (choices picks leaf) (subst (λ n. 0 < n) (sym (choices_count picks leaf)) (somewhere_count picks h))

same_number : (n m : ℕ) → n ≡ m → (n == m) ≡ true
same_number n m e = grind (arith, common_steps, nat_tests, e)

map_length : (s : Shape) (xs : List ℕ) → length (map (λ x. s) xs) ≡ length xs
map_length s [] = refl
map_length s (x ∷ xs) = ap suc (map_length s xs)

-- as many leaves as elements
as_many : (picks : List Pick) (leaf : ℕ) (s : Shape) → (length (map (λ x. s) (choices picks leaf)) == element_count (lengths_of picks)) ≡ true
as_many picks leaf s =
    same_number (length (map (λ x. s) (choices picks leaf))) (element_count (lengths_of picks)) (map_length s (choices picks leaf) ∙ choices_count picks leaf)

-- What is read

pub read_indexed : (picks : List Pick) (leaf : ℕ) → IsRead picks leaf (Indexed (choices picks leaf) (indices_of picks) (lengths_of picks))
read_indexed picks leaf = record {
  value = λ instant.
      ap integer_of (value-Indexed (choices picks leaf) (indices_of picks) (lengths_of picks) instant)
      ∙ indexed_integer instant (choices picks leaf) (place_of instant picks) ∙ ap (integer_at instant) (sym (picked_at instant picks leaf));
  only = λ x c.
      ⊎_elim (λ l. inl (subst (λ l. Contains l x) (mentions_same picks) l)) (λ r. inr r)
      (Contains-append_cases (all_mentions (indices_of picks)) (choices picks leaf) x (told x c));
  indices = λ x c. back x (Contains-append_left (all_mentions (indices_of picks)) (choices picks leaf) x (subst (λ l. Contains l x) (sym (mentions_same picks)) c));
  leaves = λ x c. back x (Contains-append_right (all_mentions (indices_of picks)) (choices picks leaf) x c);
  shape = λ table s i h.
      let is = indices_shaped table picks i in
      shape-Indexed (choices picks leaf) (indices_of picks) (lengths_of picks) table
      ∙ ap (λ o. option_and_then (λ i. option_and_then (shape_of_indexed i (lengths_of picks)) (all_of (map table.leaf (choices picks leaf)))) o) is.1
      ∙ ap (λ o. option_and_then (shape_of_indexed is.0 (lengths_of picks)) o) (leaves_alike table s (choices picks leaf) h)
      ∙ ap₂ (λ a b. if a && b then shape_of_items (map (λ x. s) (choices picks leaf)) else None) is.2 (as_many picks leaf s)
      ∙ choices_shape picks leaf s;
}
  where
    it : Ground
    it = Indexed (choices picks leaf) (indices_of picks) (lengths_of picks)

    told : (x : ℕ) → Contains (mentions it) x → Contains (all_mentions (indices_of picks) ++ choices picks leaf) x
    told x c = subst (λ l. Contains l x) (mentions-Indexed (choices picks leaf) (indices_of picks) (lengths_of picks)) c

    back : (x : ℕ) → Contains (all_mentions (indices_of picks) ++ choices picks leaf) x → Contains (mentions it) x
    back x c = subst (λ l. Contains l x) (sym (mentions-Indexed (choices picks leaf) (indices_of picks) (lengths_of picks))) c

pub no_picks : (picks : List Pick) → true ≡ (length picks == 0) → picks ≡ []
no_picks [] e = refl
no_picks (p ∷ ps) e = let test : (suc (length ps) == 0) ≡ false = not_none (length ps) in absurd (true≢false (e ∙ test))
  where
    not_none : (n : ℕ) → (suc n == 0) ≡ false
    not_none n = grind (arith, common_steps, nat_tests)
