-- Elements that indices pick.
use Rattle.std.proofs.Common.{◌≡◌, ◌==◌, ℕ, ◌+◌, ◌*◌, ◌^◌, ◌<◌, ◌≤◌, Bool, true, false, true≢false, nat_lt, if◌then◌else◌, List, [], ◌∷◌, length, slice_index, get_or, Option, Some, None, pos, All, refl, sym, subst, ap, ◌∙◌, arith, ⊎_elim}
use Rattle.std.proofs.lemmas.Bool.{le-ltb}
use Rattle.std.proofs.lemmas.List.{append-nil}
use Rattle.bit_words.specs.declared.value.Kind.TheVariants.{Unsigned}
use Rattle.prim_ops.specs.Values.{fitted}
use Rattle.ground_net.specs.Grounds.{element_count, place}
use Rattle.ground_net.specs.Shapes.{Shape, are_index_shapes, is_unsigned}
use Rattle.ground_net.specs.Words.{value_at}
use Rattle.ground_net.proofs.Shaping.{both_true}
use Rattle.flat_code.specs.declared.instr.Location.{Location}
use Rattle.flat_code.specs.Meaning.{location_shape, location_value, location_values, place_by}
use Rattle.flat_code.specs.Fine.{InRegion, among, location_shapes, location_slots, slots_of}
use Rattle.code_draft.specs.declared.draft.Draft.{Draft}
use Rattle.code_draft.specs.Drafts.{Makes, Stands, written_in}
use Rattle.code_draft.specs.Segments.{Segment}
use Rattle.code_draft.proofs.Growing.{grows_then, one_known, one_among}
use Rattle.code_draft.proofs.Joining.{segment_weaker}
use Rattle.code_draft.proofs.Stepping.{location_few}
use Rattle.code_draft.specs.declared.loading.Reading.{Reading}
use Rattle.code_draft.specs.declared.sources.Elements.{Elements}
use Rattle.code_draft.specs.Sources.{elements_shape, element_value}
use Rattle.code_draft.specs.Rows.{IsElementAt, IsPicked, element_at_place, slots_of_load}
use Rattle.code_draft.specs.Places.{Tells, Finds, Adds}
use Rattle.code_draft.proofs.Placing.{bits_at, index_pos, adds_segment, adds_then, small_adds}

-- One index

one_length : (i : Location) (ls : List ℕ) → are_index_shapes (location_shapes (i ∷ [])) ls ≡ true → (n : ℕ) × (ls ≡ n ∷ []) × (is_unsigned (location_shape i) ≡ true)
one_length i [] h = absurd (true≢false (sym h))
one_length i (n ∷ []) h = (n, refl, (both_true (is_unsigned (location_shape i)) true h).0)
one_length i (n ∷ m ∷ ls) h = absurd (true≢false (sym (both_true (is_unsigned (location_shape i)) false h).1))

pub first_unsigned : (i : Location) (ls : List ℕ) → are_index_shapes (location_shapes (i ∷ [])) ls ≡ true → i.kind ≡ Unsigned
first_unsigned i ls h = by_kind i.kind (one_length i ls h).2
  where
    by_kind : (k : Rattle.bit_words.specs.declared.value.Kind.Kind) → is_unsigned (Rattle.ground_net.specs.Shapes.shaped k 0) ≡ true → k ≡ Unsigned
    by_kind Unsigned h = refl
    by_kind Rattle.bit_words.specs.declared.value.Kind.TheVariants.Signed h = absurd (true≢false (sym h))

either_place : (e : Elements) (words : List ℕ) (b : Bool) (k m : ℕ) → m ≡ k → nat_lt k e.region.depth ≡ b
    → element_at_place e words (if b then Some m else None) ≡ (if nat_lt k e.region.depth then value_at (elements_shape e) words (e.region.base + k * e.region.stride) else fitted e.kind e.width (pos 0))
either_place e words true k m same test = ap (λ n. element_at_place e words (Some n)) same
either_place e words false k m same test = sym (ap (λ b. if b then value_at (elements_shape e) words (e.region.base + k * e.region.stride) else fitted e.kind e.width (pos 0)) test)

one_picked : (e : Elements) (i : Location) (ls : List ℕ) (words F : List ℕ) → are_index_shapes (location_shapes (i ∷ [])) ls ≡ true → element_count ls ≡ e.region.depth
    → element_at_place e words (place_by (location_values F (i ∷ [])) ls) ≡ element_value e words (location_value F i)
one_picked e i ls words F shape counted =
    let one = one_length i ls shape in
    let n : ℕ = one.0 in
    let k = (location_value F i).bits in
    let count : n * 1 ≡ e.region.depth = sym (ap element_count one.1) ∙ counted in
    let depth : n ≡ e.region.depth = omega (arith, count) in
    let same : k * 1 + 0 ≡ k = omega arith in
    ap (λ xs. element_at_place e words (place_by (location_values F (i ∷ [])) xs)) one.1
    ∙ (ap (λ z. element_at_place e words (place (z ∷ []) (n ∷ []))) (index_pos F i one.2)
    ∙ (ap (λ m. element_at_place e words (if nat_lt k m then Some (k * 1 + 0) else None)) depth ∙ either_place e words (nat_lt k e.region.depth) k (k * 1 + 0) same refl))

pub one_makes : (a b : Draft) (s : Location) (is : List Location) (r : Reading) (ls : List ℕ) → is ≡ r.address ∷ [] → are_index_shapes (location_shapes is) ls ≡ true → element_count ls ≡ r.elements.region.depth
    → (Stands a r.address → r.address.kind ≡ Unsigned → Makes a b s (IsElementAt r)) → All (Stands a) is → Makes a b s (IsPicked r.elements is ls)
one_makes a b s is r ls one shape counted last there =
    let fits : are_index_shapes (location_shapes (r.address ∷ [])) ls ≡ true = subst (λ xs. are_index_shapes (location_shapes xs) ls ≡ true) one shape in
    let m = last (subst (All (Stands a)) one there 0 r.address (omega arith)) (first_unsigned r.address ls fits) in
    record {
      grows = m.grows;
      stands = m.stands;
      holds = λ words inputs F v sol wanted. m.holds words inputs F v sol (
        wanted.0 ∙ (ap (λ xs. element_at_place r.elements words (place_by (location_values F xs) ls)) one ∙ one_picked r.elements r.address ls words F fits counted),
        subst (All (λ (x : Location). slice_index F x.low < 2 ^ x.width)) one wanted.1 0 r.address (omega arith),
      );
    }

pub one_segment : (a b : Draft) (s x : Location) (is : List Location) (n : ℕ) → is ≡ x ∷ [] → slots_of_load (length is) ≤ n → Segment a b (location_slots x) (location_slots s) 4 → Segment a b (slots_of is) (location_slots s) n
one_segment a b s x is n one le g =
    let room : 4 ≤ n = subst (λ xs. slots_of_load (length xs) ≤ n) one le in
    let few = location_few s in
    subst (λ xs. Segment a b xs (location_slots s) n) (sym (append-nil (location_slots x)) ∙ sym (ap slots_of one))
    (segment_weaker a b (location_slots x) (location_slots s) (location_slots x) (location_slots s) 4 n g (λ k h. h) (λ k h. h) room (omega (arith, few, room)))

-- Several indices

told_element : (e : Elements) (words : List ℕ) (o : Option ℕ) (number count : ℕ) → Tells e.region.depth count o number
    → element_at_place e words o ≡ (if nat_lt number e.region.depth then value_at (elements_shape e) words (e.region.base + number * e.region.stride) else fitted e.kind e.width (pos 0))
told_element e words (Some p) number count t = sym (ap (λ n. element_at_place e words (Some n)) t.0)
told_element e words None number count t = sym (ap (λ b. if b then value_at (elements_shape e) words (e.region.base + number * e.region.stride) else fitted e.kind e.width (pos 0)) (le-ltb number e.region.depth t.0))

told_small : (all count number : ℕ) (o : Option ℕ) → count ≡ all → all < 2 ^ 32 → Tells all count o number → number < 2 ^ 64
told_small all count number (Some p) same few t = let is = t.0 in let below = t.1 in omega (arith, is, below, same, few)
told_small all count number None same few t = let up = t.1 in omega (arith, up, same, few)

pub place_stands : (a b : Draft) (is : List Location) (ls : List ℕ) (all slot : ℕ) (x : Location) → x.low ≡ slot → x.high ≡ slot → x.width ≡ 64 → Finds a b is ls all slot → Stands b x
place_stands a b is ls all slot x low high wide f =
    let within = f.within in
    let one : location_slots x ≡ slot ∷ [] = ap (λ w. if nat_lt 64 w then x.low ∷ x.high ∷ [] else x.low ∷ []) wide ∙ ap (λ k. k ∷ []) low in
    record {
      within = record { low = omega (arith, low, within); high = omega (arith, high, within) };
      written = subst (Rattle.flat_code.specs.Fine.AreKnown (written_in b)) (sym one) (one_known (written_in b) slot f.written);
    }

pub several_make : (a b c : Draft) (s : Location) (is : List Location) (r : Reading) (ls : List ℕ) (slot : ℕ) → r.address.low ≡ slot → r.address.width ≡ 64 → element_count ls ≡ r.elements.region.depth → r.elements.region.depth < 2 ^ 32
    → Finds a b is ls r.elements.region.depth slot → Makes b c s (IsElementAt r) → Makes a c s (IsPicked r.elements is ls)
several_make a b c s is r ls slot low wide counted few f m = record {
  grows = grows_then a b c f.grows m.grows;
  stands = m.stands;
  holds = λ words inputs F v sol wanted.
      let e = r.elements in
      let told = f.holds words inputs F (m.grows.back words inputs F sol) wanted.1 in
      let small = told_small e.region.depth (element_count ls) (slice_index F slot) (place_by (location_values F is) ls) counted few told in
      let cut : slice_index F r.address.low < 2 ^ r.address.width = subst (λ k. slice_index F k < 2 ^ r.address.width) (sym low) (subst (λ w. slice_index F slot < 2 ^ w) (sym wide) small) in
      let bits : (location_value F r.address).bits ≡ slice_index F slot = bits_at F r.address (omega (arith, wide)) cut ∙ ap (slice_index F) low in
      m.holds words inputs F v sol (
        wanted.0 ∙ (told_element e words (place_by (location_values F is) ls) (slice_index F slot) (element_count ls) told
            ∙ ap (λ n. if nat_lt n e.region.depth then value_at (elements_shape e) words (e.region.base + n * e.region.stride) else fitted e.kind e.width (pos 0)) (sym bits)),
        cut,
      );
}

pub several_segment : (a b c : Draft) (s x : Location) (is : List Location) (slot n : ℕ) → (length is ≡ 1 → ⊥) → slots_of_load (length is) ≤ n → x.low ≡ slot → x.width ≡ 64 → a.slots ≤ slot → slot < b.slots
    → b.slots ≤ a.slots + (7 * length is + 1) → c.slots ≤ b.slots + 4 → Adds a b (slots_of is) → Segment b c (location_slots x) (location_slots s) 4 → Segment a c (slots_of is) (location_slots s) n
several_segment a b c s x is slot n several le low wide later within more further f g =
    let one : location_slots x ≡ slot ∷ [] = ap (λ w. if nat_lt 64 w then x.low ∷ x.high ∷ [] else x.low ∷ []) wide ∙ ap (λ k. k ∷ []) low in
    let room : 7 * length is + 5 ≤ n = by_test (length is == 1) refl le in
    let from = f.slots in
    let up = g.slots in
    let few = location_few s in
    small_adds a c (slots_of is) (location_slots s) n
    (adds_then a b c (slots_of is) (location_slots x) (slots_of is) f (adds_segment b c (location_slots x) (location_slots s) 4 g) (λ k lt h. h)
    (λ k lt h. let here = one_among k slot (subst (λ xs. among xs k ≡ true) one h) in absurd (omega (arith, here, lt, later))))
    (omega (arith, more, further, room))
    (λ k h. ⊎_elim
    (λ own. let lower = own.0 in (omega (arith, lower, from), own.1))
    (λ out. let here = one_among k slot (subst (λ xs. among xs k ≡ true) one out) in (omega (arith, here, later), omega (arith, here, within, up)))
    (g.there k h))
    (omega (arith, few, room))
  where
    by_test : (t : Bool) → (length is == 1) ≡ t → (if t then 4 else 7 * length is + 5) ≤ n → 7 * length is + 5 ≤ n
    by_test true e h = absurd (several (Rattle.code_draft.proofs.Standing.same_number (length is) 1 e))
    by_test false e h = h

pub one_item : (xs : List Location) (x : Location) → length xs ≡ 1 → x ≡ get_or xs 0 x → xs ≡ x ∷ []
one_item [] x e is = absurd (omega (arith, e))
one_item (y ∷ []) x e is = ap (λ z. z ∷ []) (sym is)
one_item (y ∷ z ∷ xs) x e is = absurd (omega (arith, e))
