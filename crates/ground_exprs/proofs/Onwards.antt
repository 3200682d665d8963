-- Steps of references on numbers.
use Rattle.std.proofs.Common.{◌≡◌, ℕ, ◌<◌, ◌+◌, ◌*◌, Bool, true, false, List, [], ◌∷◌, ◌++◌, length, option_map, option_and_then, refl, sym, ap, ap₂, ◌∙◌, subst, arith, if◌then◌else◌, Some, None, Option, append_assoc, ℤ, pos, negsuc, nat_lt, ⊎_elim}
use Rattle.std.specs.Prelude.{Contains}
use Rattle.std.specs.List.{range_with_len}
use Rattle.std.proofs.lemmas.Grind.{common_steps, flat_map-append}
use Rattle.std.proofs.lemmas.Bool.Decides.{nat_tests}
use Rattle.std.proofs.lemmas.List.Elements.{Contains-append_left, Contains-append_right, Contains-append_cases}
use Rattle.bit_words.specs.Values.{integer_of}
use Rattle.fir_types.specs.declared.fir_type.FirType.{FirType}
use Rattle.fir_types.specs.declared.leaf.PathStep.{PathStep}
use Rattle.fir_types.specs.declared.leaf.PathStep.TheVariants as step
use Rattle.fir_types.specs.Leaves.{under}
use Rattle.ground_net.specs.Grounds.{Instant, value, mentions}
use Rattle.ground_net.specs.Shapes.{HasShapes}
use Rattle.fir_meaning.specs.Components.{Leaf}
use Rattle.fir_meaning.specs.Values.{Spot, part_of, further, element_step}
use Rattle.fir_meaning.specs.Mentions.{Region, behind_each, elements_behind}
use Rattle.ground_exprs.specs.declared.part.Part.{Part}
use Rattle.ground_exprs.specs.declared.part.Pick.{Pick}
use Rattle.ground_exprs.specs.Parts.{picked_from, picked, choices, index_mentions}
use Rattle.ground_exprs.specs.Numbers.{Numbering, StandsAt, Reaches, SameLeaves, IsPart, IsInside, is_dynamic}
use Rattle.fir_meaning.specs.WellTyped.{is_narrow}
use Rattle.ground_exprs.proofs.Members.{only_one, the_one, in_map, from_map, in_flat_map, from_flat_map, from_range, below_range, not_in_none}
use Rattle.ground_exprs.proofs.Selections.{index_cases, index_here}

-- Leaves and numbers

pub same_none : (n : Numbering) → SameLeaves n [] []
same_none n = record { only = λ x c. absurd (not_in_none x c); all = λ z c. absurd (not_in_none z c) }

pub same_append : (n : Numbering) (xs ys : List Leaf) (ns ms : List ℕ) → SameLeaves n xs ns → SameLeaves n ys ms → SameLeaves n (xs ++ ys) (ns ++ ms)
same_append n xs ys ns ms p q = record {
  only = λ x c. ⊎_elim (λ l. let f = p.only x l in (f.0, Contains-append_left xs ys f.0 f.1, f.2)) (λ r. let f = q.only x r in (f.0, Contains-append_right xs ys f.0 f.1, f.2)) (Contains-append_cases ns ms x c);
  all = λ z c. ⊎_elim (λ l. let f = p.all z l in (f.0, f.1, Contains-append_left ns ms f.0 f.2)) (λ r. let f = q.all z r in (f.0, f.1, Contains-append_right ns ms f.0 f.2)) (Contains-append_cases xs ys z c);
}

pub same_through : (n : Numbering) (xs : List Leaf) (ns ms : List ℕ) → SameLeaves n xs ns → ((x : ℕ) → Contains ms x → Contains ns x) → ((x : ℕ) → Contains ns x → Contains ms x) → SameLeaves n xs ms
same_through n xs ns ms p back forth = record {
  only = λ x c. p.only x (back x c);
  all = λ z c. let f = p.all z c in (f.0, f.1, forth f.0 f.2);
}

-- A leaf inside

behind : (way : List PathStep) (next : PathStep) (path : List PathStep) → way ++ (next ∷ path) ≡ (way ++ next ∷ []) ++ path
behind way next path = sym (append_assoc way (next ∷ []) path)

further_on : (a b c : ℕ) → a + (b + c) ≡ a + b + c
further_on a b c = omega arith

pub stands_inside : (n : Numbering) (c : ℕ) (typ : FirType) (way : List PathStep) (first : ℕ) (next : PathStep) (inner : FirType) (before : ℕ)
    → StandsAt n c typ way first → IsInside typ next inner before → StandsAt n c inner (way ++ next ∷ []) (first + before)
stands_inside n c typ way first next inner before s i = record {
  numbers = λ j leaf e.
      let at = i.each j leaf e in
      ap (λ w. n.number (record { component = c; way = w })) (sym (behind way next leaf.path)) ∙ s.numbers (before + j) (under (next ∷ []) at.0 leaf) at.1 ∙ ap Some (further_on first before j);
  shapes = λ j leaf e.
      let at = i.each j leaf e in
      ap n.table.leaf (sym (further_on first before j)) ∙ s.shapes (before + j) (under (next ∷ []) at.0 leaf) at.1;
}

reaches_inside : (n : Numbering) (c : ℕ) (typ : FirType) (next : PathStep) (inner : FirType) (before : ℕ) (o : Option (List PathStep)) (q : Option ℕ)
    → IsInside typ next inner before → Reaches n c typ o q → Reaches n c inner (further o (Some next)) (option_map (λ x. x + before) q)
reaches_inside n c typ next inner before (Some way) (Some first) i r = stands_inside n c typ way first next inner before r i
reaches_inside n c typ next inner before None None i r = tt
reaches_inside n c typ next inner before (Some way) None i r = absurd r
reaches_inside n c typ next inner before None (Some first) i r = absurd r

-- Numbers further on

swap : (a b c : ℕ) → a + b + c ≡ a + c + b
swap a b c = omega arith

by_test : (b : Bool) (before : ℕ) (o q : Option ℕ) → o ≡ option_map (λ x. x + before) q → (if b then o else None) ≡ option_map (λ x. x + before) (if b then q else None)
by_test true before o q e = e
by_test false before o q e = refl

moved_from : (length before : ℕ) (f g : ℕ → Option ℕ) (i : ℤ) → ((k : ℕ) → f k ≡ option_map (λ x. x + before) (g k)) → picked_from length f i ≡ option_map (λ x. x + before) (picked_from length g i)
moved_from length before f g (pos k) h = by_test (nat_lt k length) before (f k) (g k) (h k)
moved_from length before f g (negsuc k) h = refl

pub picked_moved : (instant : Instant) (picks : List Pick) (first before : ℕ) → picked instant picks (first + before) ≡ option_map (λ x. x + before) (picked instant picks first)
picked_moved instant [] first before = refl
picked_moved instant (pick ∷ picks) first before =
    moved_from pick.length before (λ k. picked instant picks (first + before + k * pick.stride)) (λ k. picked instant picks (first + k * pick.stride)) (integer_of (value pick.index instant))
    (λ k. ap (picked instant picks) (swap first before (k * pick.stride)) ∙ picked_moved instant picks (first + k * pick.stride) before)

pub choice_moved : (picks : List Pick) (first before x : ℕ) → Contains (choices picks first) x → Contains (choices picks (first + before)) (x + before)
choice_moved [] first before x c = subst (λ y. Contains ((first + before) ∷ []) (y + before)) (only_one first x c) (the_one (first + before))
choice_moved (pick ∷ picks) first before x c =
    let from = from_flat_map (λ k. choices picks (first + k * pick.stride)) (range_with_len 0 pick.length) x c in
    in_flat_map (λ k. choices picks (first + before + k * pick.stride)) (range_with_len 0 pick.length) from.0 (x + before) from.1
    (subst (λ m. Contains (choices picks m) (x + before)) (swap first (from.0 * pick.stride) before) (choice_moved picks (first + from.0 * pick.stride) before x from.2))

pub choice_back : (picks : List Pick) (first before y : ℕ) → Contains (choices picks (first + before)) y → (x : ℕ) × Contains (choices picks first) x × (x + before ≡ y)
choice_back [] first before y c = (first, the_one first, only_one (first + before) y c)
choice_back (pick ∷ picks) first before y c =
    let from = from_flat_map (λ k. choices picks (first + before + k * pick.stride)) (range_with_len 0 pick.length) y c in
    let rest = choice_back picks (first + from.0 * pick.stride) before y (subst (λ m. Contains (choices picks m) y) (swap first before (from.0 * pick.stride)) from.2) in
    (rest.0, in_flat_map (λ k. choices picks (first + k * pick.stride)) (range_with_len 0 pick.length) from.0 rest.0 from.1 rest.1, rest.2)

-- A part of a part

pub part_inside : (n : Numbering) (region : Region) (spot : Instant → Spot) (typ : FirType) (part after : Part) (next : PathStep) (inner : FirType) (before : ℕ)
    → IsPart n region spot typ part → IsInside typ next inner before → after.first ≡ part.first + before → after.picks ≡ part.picks
    → IsPart n (record region { typ = inner; ways = behind_each region.ways next }) (λ instant. part_of (spot instant) inner (Some next)) inner after
part_inside n region spot typ part after next inner before p i first picks = record {
  region_type = refl;
  spot_type = λ instant. refl;
  component = p.component;
  reaches = λ instant h.
      subst (Reaches n region.component inner (further (spot instant).way (Some next)))
      (sym (ap₂ (λ ps m. picked instant ps m) picks first ∙ picked_moved instant part.picks part.first before))
      (reaches_inside n region.component typ next inner before (spot instant).way (picked instant part.picks part.first) i (p.reaches instant h));
  each = λ x c.
      let back = choice_back part.picks part.first before x (subst (λ ps. Contains (choices ps (part.first + before)) x) picks (subst (λ m. Contains (choices after.picks m) x) first c)) in
      let way = p.each back.0 back.1 in (
        way.0 ++ next ∷ [],
        in_map (λ w. w ++ next ∷ []) region.ways way.0 way.1,
        subst (StandsAt n region.component inner (way.0 ++ next ∷ [])) back.2 (stands_inside n region.component typ way.0 back.0 next inner before way.2 i),
      );
  all = λ w c.
      let from = from_map (λ w. w ++ next ∷ []) region.ways w c in
      let at = p.all from.0 from.1 in (
        at.0 + before,
        subst (λ ps. Contains (choices ps after.first) (at.0 + before)) (sym picks) (subst (λ m. Contains (choices part.picks m) (at.0 + before)) (sym first) (choice_moved part.picks part.first before at.0 at.1)),
        subst (λ v. StandsAt n region.component inner v (at.0 + before)) from.2 (stands_inside n region.component typ from.0 at.0 next inner before at.2 i),
      );
  indices = subst (λ ps. SameLeaves n region.indices (index_mentions ps)) (sym picks) p.indices;
  dynamic = p.dynamic ∙ ap is_dynamic (sym picks);
  narrow = i.narrow p.narrow;
}

-- One index more

abbrev elements_of : Pick → ℕ → ℤ → Option ℕ
elements_of pick x i = picked_from pick.length (λ k. Some (x + k * pick.stride)) i

chosen_then : (length : ℕ) (f : ℕ → Option ℕ) (h : ℕ → Option ℕ) (g : ℕ → Option ℕ) (i : ℤ) → ((k : ℕ) → f k ≡ option_and_then h (g k)) → picked_from length f i ≡ option_and_then h (picked_from length g i)
chosen_then length f h g (pos k) e = both (nat_lt k length)
  where
    both : (b : Bool) → (if b then f k else None) ≡ option_and_then h (if b then g k else None)
    both true = e k
    both false = refl
chosen_then length f h g (negsuc k) e = refl

pub picked_more : (instant : Instant) (picks : List Pick) (pick : Pick) (first : ℕ)
    → picked instant (picks ++ pick ∷ []) first ≡ option_and_then (λ x. elements_of pick x (integer_of (value pick.index instant))) (picked instant picks first)
picked_more instant [] pick first = refl
picked_more instant (p ∷ ps) pick first =
    chosen_then p.length (λ k. picked instant (ps ++ pick ∷ []) (first + k * p.stride)) (λ x. elements_of pick x (integer_of (value pick.index instant))) (λ k. picked instant ps (first + k * p.stride))
    (integer_of (value p.index instant)) (λ k. picked_more instant ps pick (first + k * p.stride))

pub choice_more : (picks : List Pick) (pick : Pick) (first x k : ℕ) → Contains (choices picks first) x → k < pick.length → Contains (choices (picks ++ pick ∷ []) first) (x + k * pick.stride)
choice_more [] pick first x k c h =
    in_flat_map (λ j. (first + j * pick.stride) ∷ []) (range_with_len 0 pick.length) k (x + k * pick.stride) (below_range pick.length k h)
    (subst (λ y. Contains ((first + k * pick.stride) ∷ []) (y + k * pick.stride)) (only_one first x c) (the_one (first + k * pick.stride)))
choice_more (p ∷ ps) pick first x k c h =
    let from = from_flat_map (λ j. choices ps (first + j * p.stride)) (range_with_len 0 p.length) x c in
    in_flat_map (λ j. choices (ps ++ pick ∷ []) (first + j * p.stride)) (range_with_len 0 p.length) from.0 (x + k * pick.stride) from.1 (choice_more ps pick (first + from.0 * p.stride) x k from.2 h)

pub choice_less : (picks : List Pick) (pick : Pick) (first y : ℕ) → Contains (choices (picks ++ pick ∷ []) first) y
    → (x : ℕ) × (k : ℕ) × Contains (choices picks first) x × (k < pick.length) × (x + k * pick.stride ≡ y)
choice_less [] pick first y c =
    let from = from_flat_map (λ j. (first + j * pick.stride) ∷ []) (range_with_len 0 pick.length) y c in
    (first, from.0, the_one first, below from.0 pick.length (from_range 0 pick.length from.0 from.1).1, only_one (first + from.0 * pick.stride) y from.2)
  where
    below : (k n : ℕ) → k < 0 + n → k < n
    below k n h = omega arith
choice_less (p ∷ ps) pick first y c =
    let from = from_flat_map (λ j. choices (ps ++ pick ∷ []) (first + j * p.stride)) (range_with_len 0 p.length) y c in
    let rest = choice_less ps pick (first + from.0 * p.stride) y from.2 in
    (rest.0, rest.1, in_flat_map (λ j. choices ps (first + j * p.stride)) (range_with_len 0 p.length) from.0 rest.0 from.1 rest.2, rest.3, rest.4)

below_of : (k n : ℕ) → nat_lt k n ≡ true → k < n
below_of k n q = grind (arith, common_steps, nat_tests)

reaches_element : (n : Numbering) (c : ℕ) (typ : FirType) (inner : FirType) (length stride : ℕ) (o : Option (List PathStep)) (q : Option ℕ) (i : ℤ)
    → ((k : ℕ) → k < length → IsInside typ (step.Element k) inner (k * stride)) → Reaches n c typ o q
    → Reaches n c inner (further o (element_step length i)) (option_and_then (λ x. picked_from length (λ k. Some (x + k * stride)) i) q)
reaches_element n c typ inner length stride (Some way) (Some first) (negsuc k) inside r = tt
reaches_element n c typ inner length stride (Some way) (Some first) (pos k) inside r = both (nat_lt k length) refl
  where
    both : (b : Bool) → nat_lt k length ≡ b → Reaches n c inner (further (Some way) (if b then Some (step.Element k) else None)) (if b then Some (first + k * stride) else None)
    both true t = stands_inside n c typ way first (step.Element k) inner (k * stride) r (inside k (below_of k length t))
    both false t = tt
reaches_element n c typ inner length stride None None i inside r = tt
reaches_element n c typ inner length stride (Some way) None i inside r = absurd r
reaches_element n c typ inner length stride None (Some first) i inside r = absurd r

more_indices : (picks : List Pick) (pick : Pick) (x : ℕ) → Contains (index_mentions picks ++ mentions pick.index) x → Contains (index_mentions (picks ++ pick ∷ [])) x
more_indices picks pick x c =
    subst (λ l. Contains l x) (sym (flat_map-append (λ (p : Pick). mentions p.index) picks (pick ∷ []))) (⊎_elim (λ l. Contains-append_left (index_mentions picks) (index_mentions (pick ∷ [])) x l)
    (λ r. Contains-append_right (index_mentions picks) (index_mentions (pick ∷ [])) x (index_here pick [] x r)) (Contains-append_cases (index_mentions picks) (mentions pick.index) x c))

less_indices : (picks : List Pick) (pick : Pick) (x : ℕ) → Contains (index_mentions (picks ++ pick ∷ [])) x → Contains (index_mentions picks ++ mentions pick.index) x
less_indices picks pick x c =
    ⊎_elim (λ l. Contains-append_left (index_mentions picks) (mentions pick.index) x l)
    (λ r. Contains-append_right (index_mentions picks) (mentions pick.index) x (⊎_elim (λ a. a) (λ b. absurd (not_in_none x b)) (index_cases pick [] x r)))
    (Contains-append_cases (index_mentions picks) (index_mentions (pick ∷ [])) x (subst (λ l. Contains l x) (flat_map-append (λ (p : Pick). mentions p.index) picks (pick ∷ [])) c))

dynamic_more : (picks : List Pick) (pick : Pick) → true ≡ is_dynamic (picks ++ pick ∷ [])
dynamic_more [] pick = refl
dynamic_more (p ∷ ps) pick = refl

-- The index has this integer at each instant that is in range, and mentions these leaves.
pub part_indexed : (n : Numbering) (region : Region) (spot : Instant → Spot) (typ : FirType) (part after : Part) (pick : Pick) (inner : FirType) (i : Instant → ℤ) (named : List Leaf)
    → IsPart n region spot typ part → ((k : ℕ) → k < pick.length → IsInside typ (step.Element k) inner (k * pick.stride))
    → is_narrow inner ≡ true → ((instant : Instant) → HasShapes n.table instant → integer_of (value pick.index instant) ≡ i instant) → SameLeaves n named (mentions pick.index)
    → after.first ≡ part.first → after.picks ≡ part.picks ++ pick ∷ []
    → IsPart n (record region { typ = inner; ways = elements_behind region.ways pick.length; dynamic = true; indices = region.indices ++ named })
    (λ instant. part_of (spot instant) inner (element_step pick.length (i instant))) inner after
part_indexed n region spot typ part after pick inner i named p inside thin is reads first picks = record {
  region_type = refl;
  spot_type = λ instant. refl;
  component = p.component;
  reaches = λ instant h.
      subst (Reaches n region.component inner (further (spot instant).way (element_step pick.length (i instant))))
      (sym (ap₂ (λ ps m. picked instant ps m) picks first ∙ picked_more instant part.picks pick part.first
      ∙ ap (λ z. option_and_then (λ x. elements_of pick x z) (picked instant part.picks part.first)) (is instant h)))
      (reaches_element n region.component typ inner pick.length pick.stride (spot instant).way (picked instant part.picks part.first) (i instant) inside (p.reaches instant h));
  each = λ x c.
      let less = choice_less part.picks pick part.first x (subst (λ ps. Contains (choices ps part.first) x) picks (subst (λ m. Contains (choices after.picks m) x) first c)) in
      let way = p.each less.0 less.2 in (
        way.0 ++ step.Element less.1 ∷ [],
        in_flat_map (λ k. behind_each region.ways (step.Element k)) (range_with_len 0 pick.length) less.1 (way.0 ++ step.Element less.1 ∷ []) (below_range pick.length less.1 less.3)
            (in_map (λ w. w ++ step.Element less.1 ∷ []) region.ways way.0 way.1),
        subst (StandsAt n region.component inner (way.0 ++ step.Element less.1 ∷ [])) less.4
            (stands_inside n region.component typ way.0 less.0 (step.Element less.1) inner (less.1 * pick.stride) way.2 (inside less.1 less.3)),
      );
  all = λ w c.
      let at = from_flat_map (λ k. behind_each region.ways (step.Element k)) (range_with_len 0 pick.length) w c in
      let from = from_map (λ w. w ++ step.Element at.0 ∷ []) region.ways w at.2 in
      let within : at.0 < pick.length = below at.0 pick.length (from_range 0 pick.length at.0 at.1).1 in
      let x = p.all from.0 from.1 in (
        x.0 + at.0 * pick.stride,
        subst (λ ps. Contains (choices ps after.first) (x.0 + at.0 * pick.stride)) (sym picks)
            (subst (λ m. Contains (choices (part.picks ++ pick ∷ []) m) (x.0 + at.0 * pick.stride)) (sym first) (choice_more part.picks pick part.first x.0 at.0 x.1 within)),
        subst (λ v. StandsAt n region.component inner v (x.0 + at.0 * pick.stride)) from.2
            (stands_inside n region.component typ from.0 x.0 (step.Element at.0) inner (at.0 * pick.stride) x.2 (inside at.0 within)),
      );
  indices = subst (λ ps. SameLeaves n (region.indices ++ named) (index_mentions ps)) (sym picks)
      (same_through n (region.indices ++ named) (index_mentions part.picks ++ mentions pick.index) (index_mentions (part.picks ++ pick ∷ []))
      (same_append n region.indices named (index_mentions part.picks) (mentions pick.index) p.indices reads) (less_indices part.picks pick) (more_indices part.picks pick));
  dynamic = dynamic_more part.picks pick ∙ ap is_dynamic (sym picks);
  narrow = thin;
}
  where
    below : (k n : ℕ) → k < 0 + n → k < n
    below k n h = omega arith

-- The whole of a component

pub part_whole : (n : Numbering) (types : ℕ → FirType) (c first : ℕ) (typ : FirType) → types c ≡ typ → is_narrow typ ≡ true → StandsAt n c typ [] first
    → IsPart n (Rattle.fir_meaning.specs.Mentions.whole_region types c) (λ instant. record { component = c; typ = types c; way = Some [] }) typ (record { first = first; picks = [] })
part_whole n types c first typ e thin s = record {
  region_type = e;
  spot_type = λ instant. e;
  component = λ instant. refl;
  reaches = λ instant h. s;
  each = λ x k. ([], the_one [], subst (StandsAt n c typ []) (only_one first x k) s);
  all = λ w k. (first, the_one first, subst (λ v. StandsAt n c typ v first) (only_one [] w k) s);
  indices = same_none n;
  dynamic = refl;
  narrow = thin;
}

-- the same part, told in other words
pub part_told : (n : Numbering) (region other : Region) (spot shown : Instant → Spot) (typ : FirType) (part : Part) → region ≡ other → ((instant : Instant) → spot instant ≡ shown instant)
    → IsPart n region spot typ part → IsPart n other shown typ part
part_told n region other spot shown typ part r s p = subst (λ x. IsPart n x shown typ part) r (record {
  region_type = p.region_type;
  spot_type = λ instant. ap (λ x. x.typ) (sym (s instant)) ∙ p.spot_type instant;
  component = λ instant. ap (λ x. x.component) (sym (s instant)) ∙ p.component instant;
  reaches = λ instant h. subst (λ x. Reaches n region.component typ x.way (picked instant part.picks part.first)) (s instant) (p.reaches instant h);
  each = p.each;
  all = p.all;
  indices = p.indices;
  dynamic = p.dynamic;
  narrow = p.narrow;
})
