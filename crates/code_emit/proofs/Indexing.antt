-- Leaves that indices pick.
use Rattle.std.proofs.Common.{◌≡◌, ◌==◌, ◌&&◌, ℕ, zero, suc, get_or, ◌<◌, true, true≢false, List, [], ◌∷◌, ◌++◌, map, length, take, drop, Option, Some, None, option_and_then, refl, sym, subst, ap, ap₂, ◌∙◌, arith, if◌then◌else◌, All}
use Rattle.std.specs.Prelude.{IsSome, sum_by}
use Rattle.std.proofs.lemmas.List.{map-append, length-map}
use Rattle.std.proofs.lemmas.Grind.{flat_map-append}
use Rattle.std.proofs.lemmas.List.Concat.{flat_map-cons}
use Rattle.std.proofs.lemmas.List.Sums.{sum-map, sum_by-append, sum_by-cons}
use Rattle.ground_net.specs.declared.ground.Ground.{Ground}
use Rattle.ground_net.specs.declared.ground.Ground.TheVariants.{Leaf, Indexed}
use Rattle.ground_net.specs.Grounds.{Instant, value, mentions, element_count, place, indexed}
use Rattle.ground_net.proofs.Layers.{values, all_mentions, value-Leaf, value-Indexed, mentions-Leaf, mentions-Indexed}
use Rattle.ground_net.specs.Shapes.{Shape, Table, shape, all_of, are_index_shapes, shape_of_items, shape_of_indexed, is_unsigned}
use Rattle.ground_net.proofs.Shaping.{and_then, both_true, shape-Leaf}
use Rattle.flat_code.specs.declared.instr.Form.TheVariants as form
use Rattle.flat_code.specs.declared.instr.Location.{Location}
use Rattle.flat_code.specs.Meaning.{location_shape, location_values, place_by, picked_among}
use Rattle.flat_code.specs.Fine.{location_shapes, location_slots, slots_of, form_shape, shape_of_pick, InRegion, region_of}
use Rattle.code_draft.specs.declared.draft.Draft.{Draft}
use Rattle.code_draft.specs.Drafts.{IsDraft, Stands, Makes, IsForm}
use Rattle.code_draft.specs.Segments.{Step}
use Rattle.code_draft.specs.declared.sources.Sources.{Sources}
use Rattle.code_emit.specs.Emits.{as_leaves, AreShaped, shapes_in, sources_table, Emits, EmitsAll}
use Rattle.code_emit.specs.Counts.{tips}
use Rattle.code_emit.specs.Spans.{Spans, SpansAll}
use Rattle.code_emit.proofs.Counting.{tips-Leaf, tips-Indexed}
use Rattle.code_emit.proofs.Shaped.{some_same, all_shaped, locations_are, indexed_parts}
use Rattle.code_emit.proofs.Emitting.{formed, no_region}
use Rattle.code_emit.proofs.Spanning.{parts_span}

-- Leaves as expressions

pub leaf_shapes : (table : Table) (ns : List ℕ) → shapes_in table (as_leaves ns) ≡ map table.leaf ns
leaf_shapes table [] = refl
leaf_shapes table (n ∷ ns) = ap₂ (λ o os. o ∷ os) (shape-Leaf n table) (leaf_shapes table ns)

leaf_values : (instant : Instant) (ns : List ℕ) → values (as_leaves ns) instant ≡ map instant.leaf ns
leaf_values instant [] = refl
leaf_values instant (n ∷ ns) = ap₂ (λ v vs. v ∷ vs) (value-Leaf n instant) (leaf_values instant ns)

leaf_mentions : (ns : List ℕ) → all_mentions (as_leaves ns) ≡ ns
leaf_mentions [] = refl
leaf_mentions (n ∷ ns) = flat_map-cons (λ l. l) (mentions (Leaf n)) (map mentions (as_leaves ns)) ∙ ap₂ (λ xs ys. xs ++ ys) (mentions-Leaf n) (leaf_mentions ns)

leaf_tips : (ns : List ℕ) → sum_by tips (as_leaves ns) ≡ length ns
leaf_tips [] = refl
leaf_tips (n ∷ ns) =
    let both = sum_by-cons tips (Leaf n) (as_leaves ns) in
    let one = tips-Leaf n in
    let rest = leaf_tips ns in
    omega (arith, both, one, rest)

-- Lists side by side

take_left : {A : Type 0} (n : ℕ) (xs ys : List A) → length xs ≡ n → take n (xs ++ ys) ≡ xs
take_left zero [] ys e = refl
take_left zero (x ∷ xs) ys e = absurd (omega (arith, e))
take_left (suc n) [] ys e = absurd (omega (arith, e))
take_left (suc n) (x ∷ xs) ys e = ap (λ zs. x ∷ zs) (take_left n xs ys (omega (arith, e)))

drop_left : {A : Type 0} (n : ℕ) (xs ys : List A) → length xs ≡ n → drop n (xs ++ ys) ≡ ys
drop_left zero [] ys e = refl
drop_left zero (x ∷ xs) ys e = absurd (omega (arith, e))
drop_left (suc n) [] ys e = absurd (omega (arith, e))
drop_left (suc n) (x ∷ xs) ys e = drop_left n xs ys (omega (arith, e))

index_long : (ss : List Shape) (ls : List ℕ) → are_index_shapes ss ls ≡ true → length ss ≡ length ls
index_long [] [] h = refl
index_long (s ∷ ss) (l ∷ ls) h = ap suc (index_long ss ls (both_true (is_unsigned s) (are_index_shapes ss ls) h).1)
index_long [] (l ∷ ls) h = absurd (true≢false (sym h))
index_long (s ∷ ss) [] h = absurd (true≢false (sym h))

all_long : (os : List (Option Shape)) (ss : List Shape) → all_of os ≡ Some ss → length os ≡ length ss
all_long [] ss e = let none : [] ≡ ss = some_same e in ap length none
all_long (o ∷ os) ss e =
    let first = and_then (λ s. option_and_then (λ more. Some (s ∷ more)) (all_of os)) o ss e in
    let rest = and_then (λ more. Some (first.0 ∷ more)) (all_of os) ss first.2 in
    ap suc (all_long os rest.0 rest.1) ∙ ap length (some_same rest.2)

module _ (table : Table) (g : Ground) (some : IsSome (shape g table)) (ns : List ℕ) (is : List Ground) (ls : List ℕ) (e : g ≡ Indexed ns is ls) where
  pub indices_shaped : AreShaped table is
  indices_shaped = let p = indexed_parts table g some ns is ls e in all_shaped table is p.0 p.2

  pub leaves_shaped : AreShaped table (as_leaves ns)
  leaves_shaped = let p = indexed_parts table g some ns is ls e in all_shaped table (as_leaves ns) p.1 (ap all_of (leaf_shapes table ns) ∙ p.3)

  pub leaves_row : (ss : List Location) → all_of (shapes_in table (as_leaves ns)) ≡ Some (location_shapes ss) → shape_of_items (location_shapes ss) ≡ shape g table
  leaves_row ss all =
      let p = indexed_parts table g some ns is ls e in
      ap shape_of_items (locations_are (shapes_in table (as_leaves ns)) (location_shapes ss) p.1 all (ap all_of (leaf_shapes table ns) ∙ p.3)) ∙ p.5

  pub indices_long : length is ≡ length ls
  indices_long =
      let p = indexed_parts table g some ns is ls e in
      let fits = both_true (are_index_shapes p.0 ls) (length p.1 == element_count ls) p.4 in
      sym (length-map is (λ h. shape h table)) ∙ all_long (shapes_in table is) p.0 p.2 ∙ index_long p.0 ls fits.0

  pub pick_row : (front back : List Location) → all_of (shapes_in table is) ≡ Some (location_shapes front) → all_of (shapes_in table (as_leaves ns)) ≡ Some (location_shapes back)
      → shape_of_pick ls (location_shapes (front ++ back)) ≡ shape_of_items (location_shapes back)
  pick_row front back of_front of_back =
      let p = indexed_parts table g some ns is ls e in
      let i : location_shapes front ≡ p.0 = locations_are (shapes_in table is) (location_shapes front) p.0 of_front p.2 in
      let s : location_shapes back ≡ p.1 = locations_are (shapes_in table (as_leaves ns)) (location_shapes back) p.1 of_back (ap all_of (leaf_shapes table ns) ∙ p.3) in
      let fits = both_true (are_index_shapes p.0 ls) (length p.1 == element_count ls) p.4 in
      let long : length (location_shapes front) ≡ length ls = ap length i ∙ index_long p.0 ls fits.0 in
      ap₂ (λ xs ys. shape_of_indexed (take (length ls) xs) ls (drop (length ls) ys)) (map-append location_shape front back) (map-append location_shape front back)
      ∙ ap₂ (λ xs ys. shape_of_indexed xs ls ys) (take_left (length ls) (location_shapes front) (location_shapes back) long) (drop_left (length ls) (location_shapes front) (location_shapes back) long)
      ∙ ap (λ b. if b then shape_of_items (location_shapes back) else None) (ap₂ (λ xs ys. are_index_shapes xs ls && (length ys == element_count ls)) i s ∙ p.4)

-- Emitted code

pub indexed_emits : (S : Sources) (g : Ground) (ns : List ℕ) (is : List Ground) (ls : List ℕ) (a b c : Draft) (ss : List Location) (s : Location) (t : Shape) → g ≡ Indexed ns is ls → length is ≡ length ls
    → EmitsAll S (is ++ as_leaves ns) a b ss
    → (IsDraft b → All (Stands b) ss → form_shape (form.Pick ls) s (location_shapes ss) ≡ Some t → InRegion b.words t.width (region_of (form.Pick ls)) → Makes b c s (IsForm (form.Pick ls) s ss t))
    → form_shape (form.Pick ls) s (location_shapes ss) ≡ Some t → shape g (sources_table S) ≡ Some t → Emits S g a c s
indexed_emits S g ns is ls a b c ss s t e long all last is_shape at =
    formed S g (is ++ as_leaves ns) a b c ss s (form.Pick ls) t all last is_shape (λ srcs. no_region a.words t.width) at
    (λ words inputs F instant sees parts.
    let both : location_values F ss ≡ values is instant ++ map instant.leaf ns = parts ∙ map-append (λ h. value h instant) is (as_leaves ns) ∙ ap (λ vs. values is instant ++ vs) (leaf_values instant ns) in
    let count : length (values is instant) ≡ length ls = length-map is (λ h. value h instant) ∙ long in
    ap (λ h. value h instant) e ∙ (value-Indexed ns is ls instant
    ∙ (ap₂ (λ us vs. indexed (place_by us ls) vs) (sym (take_left (length ls) (values is instant) (map instant.leaf ns) count)) (sym (drop_left (length ls) (values is instant) (map instant.leaf ns) count))
    ∙ ap (picked_among ls) (sym both))))

mentions_both : (is gs : List Ground) → all_mentions (is ++ gs) ≡ all_mentions is ++ all_mentions gs
mentions_both is gs = ap (λ xs. all_of_them xs) (map-append mentions is gs) ∙ flat_map-append (λ l. l) (map mentions is) (map mentions gs)
  where
    all_of_them : List (List ℕ) → List ℕ
    all_of_them xs = Rattle.ground_net.specs.Grounds.joined xs

pub indexed_spans : (S : Sources) (g : Ground) (ns : List ℕ) (is : List Ground) (ls : List ℕ) (a b c : Draft) (ss : List Location) (s : Location) → g ≡ Indexed ns is ls → SpansAll S (is ++ as_leaves ns) a b ss
    → Step b c (slots_of ss) (location_slots s) 2 → Spans S g a c s
indexed_spans S g ns is ls a b c ss s e all last =
    parts_span S g (is ++ as_leaves ns) a b c ss s all last
    (let count = ap tips e ∙ tips-Indexed ns is ls in
    let first = sum-map tips is in
    let next = leaf_tips ns in
    let both = sum_by-append tips is (as_leaves ns) in
    omega (arith, count, first, next, both))
    (ap mentions e ∙ (mentions-Indexed ns is ls ∙ sym (mentions_both is (as_leaves ns) ∙ ap (λ xs. all_mentions is ++ xs) (leaf_mentions ns))))

pub leaf_at : (table : Table) (ns : List ℕ) (k x : ℕ) → AreShaped table (as_leaves ns) → k < length ns → x ≡ get_or ns k 0 → IsSome (shape (Leaf x) table)
leaf_at table [] k x h lt is = absurd (omega (arith, lt))
leaf_at table (n ∷ ns) zero x h lt is = subst (λ y. IsSome (shape (Leaf y) table)) (sym is) (h 0 (Leaf x) (omega arith))
leaf_at table (n ∷ ns) (suc k) x h lt is = leaf_at table ns k x (λ j d l. h (suc j) d (omega (arith, l))) (omega (arith, lt)) is
