-- The place that indices pick, index by index.
use Rattle.std.proofs.Common.{◌≡◌, ℕ, zero, suc, ◌<◌, ◌≤◌, ◌+◌, ◌*◌, Bool, true, false, true≢false, nat_lt, List, [], ◌∷◌, map, length, drop, get_or, slice_get, Option, Some, None, option_map, if◌then◌else◌, ℤ, pos, negsuc, refl, sym, ap, ap₂, ◌∙◌, subst, arith, drop-cons, drop_of_length-le}
use Rattle.std.proofs.lemmas.Bool.Decides.{nat_tests}
use Rattle.std.proofs.lemmas.List.{length-map}
use Rattle.std.proofs.lemmas.Option.{slice_get-map}
use Rattle.bit_words.specs.declared.value.Kind.{Kind}
use Rattle.bit_words.specs.declared.value.Kind.TheVariants.{Unsigned, Signed}
use Rattle.bit_words.specs.declared.value.Value.{Value}
use Rattle.bit_words.specs.Values.{integer, integer_of}
use Rattle.ground_net.specs.declared.ground.Ground.{Ground}
use Rattle.prim_ops.specs.Values.{fitted, lone}
use Rattle.ground_net.specs.Grounds.{Instant, value, element_count, place, indexed, or_zero}
use Rattle.ground_net.specs.Shapes.{shaped, is_unsigned, shape_of_value, are_index_shapes}
use Rattle.ground_net.proofs.Shaping.{both_true}
use Rattle.net_run.specs.Seeing.{values_of, placed, value_at}

-- there is an index for each length
long : (vs : List Value) (ls : List ℕ) → are_index_shapes (map shape_of_value vs) ls ≡ true → length vs ≡ length ls
long [] [] h = refl
long (v ∷ vs) (l ∷ ls) h = ap suc (long vs ls (both_true (is_unsigned (shape_of_value v)) (are_index_shapes (map shape_of_value vs) ls) h).1)
long [] (l ∷ ls) h = absurd (true≢false (sym h))
long (v ∷ vs) [] h = absurd (true≢false (sym h))

unsigned_kind : (k : Kind) (n : ℕ) → is_unsigned (shaped k n) ≡ true → k ≡ Unsigned
unsigned_kind Unsigned n h = refl
unsigned_kind Signed n h = absurd (true≢false (sym h))

unsigned_at : (vs : List Value) (ls : List ℕ) (n : ℕ) (d : Value) → are_index_shapes (map shape_of_value vs) ls ≡ true → n < length ls → (get_or vs n d).kind ≡ Unsigned
unsigned_at [] [] n d h below = absurd (omega (arith, below))
unsigned_at [] (l ∷ ls) n d h below = absurd (true≢false (sym h))
unsigned_at (v ∷ vs) [] n d h below = absurd (true≢false (sym h))
unsigned_at (v ∷ vs) (l ∷ ls) zero d h below = unsigned_kind v.kind v.width (both_true (is_unsigned (shape_of_value v)) (are_index_shapes (map shape_of_value vs) ls) h).0
unsigned_at (v ∷ vs) (l ∷ ls) (suc n) d h below = unsigned_at vs ls n d (both_true (is_unsigned (shape_of_value v)) (are_index_shapes (map shape_of_value vs) ls) h).1 (omega (arith, below))

one_place : (v : Value) (vs : List Value) (l : ℕ) (ls : List ℕ) → v.kind ≡ Unsigned
    → placed (v ∷ vs) (l ∷ ls) ≡ (if nat_lt v.bits l then option_map (λ p. v.bits * element_count ls + p) (placed vs ls) else None)
one_place v vs l ls h = ap (λ k. place (integer k v.width v.bits ∷ map integer_of vs) (l ∷ ls)) h

lt_true : (k n : ℕ) → k < n → nat_lt k n ≡ true
lt_true k n h = grind (arith, nat_tests, h)

lt_false : (k n : ℕ) → n ≤ k → nat_lt k n ≡ false
lt_false k n h = grind (arith, nat_tests, h)

same_map : (f : ℕ → ℕ) (o : Option ℕ) → ((p : ℕ) → f p ≡ p) → option_map f o ≡ o
same_map f (Some p) h = ap Some (h p)
same_map f None h = refl

twice : (f g h : ℕ → ℕ) (o : Option ℕ) → ((p : ℕ) → f (g p) ≡ h p) → option_map f (option_map g o) ≡ option_map h o
twice f g h (Some p) e = ap Some (e p)
twice f g h None e = refl

get_mapped : (instant : Instant) (gs : List Ground) (n : ℕ) (g : Ground) → n < length gs → get_or (values_of gs instant) n (value g instant) ≡ value (get_or gs n g) instant
get_mapped instant [] n g h = absurd (omega (arith, h))
get_mapped instant (x ∷ gs) zero g h = refl
get_mapped instant (x ∷ gs) (suc n) g h = get_mapped instant gs n g (omega (arith, h))

-- the place, where the first indices have picked this much of it
abbrev pub so_far : Instant → List Ground → List ℕ → ℕ → ℕ → Option ℕ
so_far instant gs ls n at = option_map (λ p. at * element_count (drop n ls) + p) (placed (values_of (drop n gs) instant) (drop n ls))

module _ (instant : Instant) (gs : List Ground) (ls : List ℕ) (fits : are_index_shapes (map shape_of_value (values_of gs instant)) ls ≡ true) where
  pub as_many : length gs ≡ length ls
  as_many = sym (length-map gs (λ g. value g instant)) ∙ long (values_of gs instant) ls fits

  pub none_yet : so_far instant gs ls 0 0 ≡ placed (values_of gs instant) ls
  none_yet = same_map (λ p. 0 * element_count ls + p) (placed (values_of gs instant) ls) (λ p. nothing (element_count ls) p)
    where
      nothing : (c p : ℕ) → 0 * c + p ≡ p
      nothing c p = omega arith

  pub all_done : (n at : ℕ) → length ls ≤ n → so_far instant gs ls n at ≡ placed (values_of gs instant) ls → Some at ≡ placed (values_of gs instant) ls
  all_done n at past h =
      let ends : drop n ls ≡ [] = drop_of_length-le ls past in
      let few : length gs ≤ n = omega (arith, as_many, past) in
      let none : drop n gs ≡ [] = drop_of_length-le gs few in
      let one : at * 1 + 0 ≡ at = grind arith in
      ap Some (sym one) ∙ sym (ap₂ (λ xs ys. option_map (λ p. at * element_count ys + p) (placed (values_of xs instant) ys)) none ends) ∙ h

  module _ (n at : ℕ) (g : Ground) (v : Value) (below : n < length ls) (is : g ≡ get_or gs n g) (so : v ≡ value g instant) where
    within : n < length gs
    within = let e = as_many in omega (arith, e, below)

    abbrev l : ℕ
    l = get_or ls n 0

    abbrev c : ℕ
    c = element_count (drop (suc n) ls)

    unsigned : v.kind ≡ Unsigned
    unsigned = ap (λ (w : Value). w.kind) (so ∙ ap (λ x. value x instant) is ∙ sym (get_mapped instant gs n g within)) ∙ unsigned_at (values_of gs instant) ls n (value g instant) fits below

    front : drop n gs ≡ g ∷ drop (suc n) gs
    front = drop-cons gs n g within ∙ ap (λ x. x ∷ drop (suc n) gs) (sym is)

    lengths : drop n ls ≡ l ∷ drop (suc n) ls
    lengths = drop-cons ls n 0 below

    here : so_far instant gs ls n at ≡ option_map (λ p. at * (l * c) + p) (if nat_lt v.bits l then option_map (λ p. v.bits * c + p) (placed (values_of (drop (suc n) gs) instant) (drop (suc n) ls)) else None)
    here =
        ap₂ (λ xs ys. option_map (λ p. at * element_count ys + p) (placed (values_of xs instant) ys)) front lengths
        ∙ ap (λ w. option_map (λ p. at * (l * c) + p) (placed (w ∷ values_of (drop (suc n) gs) instant) (l ∷ drop (suc n) ls))) (sym so)
        ∙ ap (option_map (λ p. at * (l * c) + p)) (one_place v (values_of (drop (suc n) gs) instant) l (drop (suc n) ls) unsigned)

    pub one_more : v.bits < l → so_far instant gs ls n at ≡ placed (values_of gs instant) ls → so_far instant gs ls (n + 1) (at * l + v.bits) ≡ placed (values_of gs instant) ls
    one_more less h =
        let j : n + 1 ≡ suc n = omega arith in
        ap (λ k. so_far instant gs ls k (at * l + v.bits)) j
        ∙ sym (twice (λ p. at * (l * c) + p) (λ p. v.bits * c + p) (λ p. (at * l + v.bits) * c + p) (placed (values_of (drop (suc n) gs) instant) (drop (suc n) ls)) (λ p. sums at l v.bits c p))
        ∙ sym (ap (λ b. option_map (λ p. at * (l * c) + p) (if b then option_map (λ p. v.bits * c + p) (placed (values_of (drop (suc n) gs) instant) (drop (suc n) ls)) else None)) (lt_true v.bits l less))
        ∙ sym here ∙ h
      where
        sums : (a l b c p : ℕ) → a * (l * c) + (b * c + p) ≡ (a * l + b) * c + p
        sums a l b c p = grind arith

    pub no_more : l ≤ v.bits → so_far instant gs ls n at ≡ placed (values_of gs instant) ls → None ≡ placed (values_of gs instant) ls
    no_more past h =
        sym (here ∙ ap (λ b. option_map (λ p. at * (l * c) + p) (if b then option_map (λ p. v.bits * c + p) (placed (values_of (drop (suc n) gs) instant) (drop (suc n) ls)) else None)) (lt_false v.bits l past)) ∙ h

-- Places stay below the number of elements

pub some_behind : (n c : ℕ) → 0 < n * c → 0 < c
some_behind n zero h = absurd (let z : n * 0 ≡ 0 = grind arith in omega (arith, h, z))
some_behind n (suc c) h = omega arith

module _ (ls : List ℕ) (n at total : ℕ) (below : n < length ls) (some : 0 < element_count (drop n ls)) (room : (at + 1) * element_count (drop n ls) ≤ total) where
  abbrev len : ℕ
  len = get_or ls n 0

  abbrev behind : ℕ
  behind = element_count (drop (suc n) ls)

  lengths_from : drop n ls ≡ len ∷ drop (suc n) ls
  lengths_from = drop-cons ls n 0 below

  some_here : 0 < len * behind
  some_here = subst (λ xs. 0 < element_count xs) lengths_from some

  room_here : (at + 1) * (len * behind) ≤ total
  room_here = subst (λ xs. (at + 1) * element_count xs ≤ total) lengths_from room

  some_rest : 0 < behind
  some_rest = some_behind len behind some_here

  pub some_next : 0 < element_count (drop (n + 1) ls)
  some_next = let j : suc n ≡ n + 1 = omega arith in subst (λ k. 0 < element_count (drop k ls)) j some_rest

  pub room_next : (b : ℕ) → b < len → (at * len + b + 1) * element_count (drop (n + 1) ls) ≤ total
  room_next b less = let j : suc n ≡ n + 1 = omega arith in
      subst (λ k. (at * len + b + 1) * element_count (drop k ls) ≤ total) j (most at len b behind less room_here)
    where
      most : (a l b c : ℕ) → b < l → (a + 1) * (l * c) ≤ total → (a * l + b + 1) * c ≤ total
      most a l b c less h =
          let e : (a + 1) * (l * c) ≡ (a * l + l) * c = grind arith in
          let m : (a * l + b + 1) * c ≤ (a * l + l) * c = mono (a * l + b + 1) (a * l + l) c (omega (arith, less)) in
          omega (arith, e, m, h)
        where
          mono : (x y z : ℕ) → x ≤ y → x * z ≤ y * z
          mono x y z h = grind (arith, h)

  -- the sum that is the next place, and its parts
  pub place_fits : (b : ℕ) → b < len → (at * len + b + 1 ≤ total) × (len ≤ total)
  place_fits b less = (least at len b behind less some_rest room_here, whole at len behind some_rest room_here)
    where
      mono : (x y z : ℕ) → x ≤ y → z * x ≤ z * y
      mono x y z h = grind (arith, h)

      least : (a l b c : ℕ) → b < l → 0 < c → (a + 1) * (l * c) ≤ total → a * l + b + 1 ≤ total
      least a l b c less some h =
          let one : (a + 1) * (l * 1) ≤ (a + 1) * (l * c) = mono (l * 1) (l * c) (a + 1) (mono 1 c l (omega (arith, some))) in
          let e : (a + 1) * (l * 1) ≡ a * l + l = grind arith in
          omega (arith, one, e, less, h)

      whole : (a l c : ℕ) → 0 < c → (a + 1) * (l * c) ≤ total → l ≤ total
      whole a l c some h =
          let one : (a + 1) * (l * 1) ≤ (a + 1) * (l * c) = mono (l * 1) (l * c) (a + 1) (mono 1 c l (omega (arith, some))) in
          let e : (a + 1) * (l * 1) ≡ a * l + l = grind arith in
          omega (arith, one, e, h)

-- What is picked

none_some : {A B : Type 0} {x : A} → None ≡ Some x → B
none_some e = absurd cc

some_same : {A : Type 0} {x y : A} → Some x ≡ Some y → x ≡ y
some_same e = cc

pub place_below : (is : List ℤ) (ls : List ℕ) (k : ℕ) → place is ls ≡ Some k → k < element_count ls
place_below [] [] k e = let z : 0 ≡ k = some_same e in omega (arith, z)
place_below [] (l ∷ ls) k e = none_some e
place_below (pos j ∷ is) [] k e = none_some e
place_below (negsuc j ∷ is) [] k e = none_some e
place_below (negsuc j ∷ is) (l ∷ ls) k e = none_some e
place_below (pos j ∷ is) (l ∷ ls) k e = test (λ q h. place_below is ls q h) (nat_lt j l) refl e
  where
    inner : ((q : ℕ) → place is ls ≡ Some q → q < element_count ls) → (o : Option ℕ) → place is ls ≡ o → j < l → option_map (λ q. j * element_count ls + q) o ≡ Some k → k < l * element_count ls
    inner less (Some q) same below e =
        let within : q < element_count ls = less q same in
        let is : j * element_count ls + q ≡ k = some_same e in
        let most : suc j * element_count ls ≤ l * element_count ls = times j l (element_count ls) below in
        let more : suc j * element_count ls ≡ j * element_count ls + element_count ls = one_more_row j (element_count ls) in
        omega (arith, is, within, most, more)
      where
        times : (j n c : ℕ) → j < n → suc j * c ≤ n * c
        times j n c h = grind (arith, h)

        one_more_row : (j c : ℕ) → suc j * c ≡ j * c + c
        one_more_row j c = grind arith
    inner less None same below e = none_some e

    test : ((q : ℕ) → place is ls ≡ Some q → q < element_count ls) → (b : Bool) → nat_lt j l ≡ b → (if b then option_map (λ q. j * element_count ls + q) (place is ls) else None) ≡ Some k → k < l * element_count ls
    test less true t e = let below : j < l = grind (arith, nat_tests, t) in inner less (place is ls) refl below e
    test less false t e = none_some e

pub none_picked : (f : ℕ → Value) (ns : List ℕ) (o : Option ℕ) → length ns ≡ 0 → fitted Unsigned 0 (pos 0) ≡ indexed o (map f ns)
none_picked f [] (Some k) e = refl
none_picked f [] None e = refl
none_picked f (n ∷ ns) o e = absurd (omega (arith, e))

pub one_picked : (items : List Value) (o : Option ℕ) (k : ℕ) (v : Value) → Some k ≡ o → slice_get items k ≡ Some v → v ≡ indexed o items
one_picked items o k v e h = sym (ap (λ p. indexed p items) (sym e) ∙ ap (or_zero items) h)

pub zero_picked : (items : List Value) (o : Option ℕ) (v : Value) → None ≡ o → slice_get items 0 ≡ Some v → fitted v.kind v.width (pos 0) ≡ indexed o items
zero_picked [] o v e h = none_some h
zero_picked (x ∷ items) o v e h =
    let same : x ≡ v = some_same h in
    sym (ap (λ p. indexed p (x ∷ items)) (sym e) ∙ ap (λ (w : Value). fitted w.kind w.width (pos 0)) same)

past_end : (vs : List Value) (n : ℕ) → length vs ≤ n → get_or vs n (lone []) ≡ fitted Unsigned 0 (pos 0)
past_end [] n h = refl
past_end (v ∷ vs) zero h = absurd (omega (arith, h))
past_end (v ∷ vs) (suc n) h = past_end vs n (omega (arith, h))

pub listed_past : (values : List Value) (ns : List ℕ) (place number : ℕ) (v : Value) → slice_get ns place ≡ Some number → length values ≤ number → v ≡ fitted Unsigned 0 (pos 0)
    → slice_get (map (value_at values) ns) place ≡ Some v
listed_past values ns place number v h past is = slice_get-map (value_at values) ns place ∙ ap (option_map (value_at values)) h ∙ ap Some (past_end values number past ∙ sym is)
