-- Leaves in a row, of which an index picks one.
use Rattle.std.proofs.Common.{◌≡◌, ◌==◌, ◌&&◌, ℕ, suc, get_or, slice_get, slice_index, ◌^◌, ◌<◌, ◌+◌, ◌*◌, ◌≤◌, max, pos, true, true≢false, List, [], ◌∷◌, ◌++◌, map, flat_map, length, Option, Some, None, option_map, option_and_then, refl, sym, subst, ap, ap₂, ◌∙◌, arith, ⊎_elim, inl, inr, if◌then◌else◌, All}
use Rattle.std.specs.Prelude.{IsSome, IfSome, sum, sum_by}
use Rattle.std.specs.List.{list_all}
use Rattle.std.proofs.lemmas.Bool.{lt-ltb, le-ltb, cases_lt}
use Rattle.std.proofs.lemmas.Grind.{common_steps, flat_map-append}
use Rattle.std.proofs.lemmas.List.{length-map}
use Rattle.std.proofs.lemmas.List.Sums.{sum-map}
use Rattle.std.proofs.lemmas.Option.{slice_get-get_or, slice_get-map, slice_get_past}
use Rattle.bit_words.specs.declared.value.Value.{Value}
use Rattle.bit_words.specs.Values.{integer_of}
use Rattle.prim_ops.specs.Values.{fitted}
use Rattle.ground_net.specs.declared.ground.Ground.{Ground}
use Rattle.ground_net.specs.declared.ground.Ground.TheVariants.{Indexed}
use Rattle.ground_net.specs.Grounds.{Instant, value, mentions, element_count, place, indexed, or_zero}
use Rattle.ground_net.specs.Shapes.{Shape, Table, shape, all_of, shape_of_value, are_index_shapes, shape_of_items, same_shape}
use Rattle.ground_net.specs.Words.{value_at, high_at}
use Rattle.ground_net.proofs.Layers.{values, all_mentions, value-Indexed, mentions-Indexed}
use Rattle.ground_net.proofs.Shaping.{and_then, both_true, if_some, fitted_shape}
use Rattle.flat_code.specs.declared.instr.Location.{Location}
use Rattle.flat_code.specs.Meaning.{location_values, place_by}
use Rattle.flat_code.specs.Fine.{among, further_words, location_shapes, location_slots, slots_of, InRegion}
use Rattle.code_draft.specs.declared.draft.Draft.{Draft}
use Rattle.code_draft.specs.Drafts.{IsDraft, Stands, Makes}
use Rattle.code_draft.specs.Segments.{Segment}
use Rattle.code_draft.proofs.Growing.{grows_then}
use Rattle.code_draft.proofs.Joining.{segment_then, segment_weaker}
use Rattle.code_draft.proofs.Segmenting.{among_left}
use Rattle.code_draft.proofs.Stepping.{location_few}
use Rattle.code_draft.specs.declared.sources.Elements.{Elements}
use Rattle.code_draft.specs.declared.sources.Source.TheVariants as source
use Rattle.code_draft.specs.declared.sources.Sources.{Sources}
use Rattle.code_draft.specs.Rows.{IsWordAt, StandInRow, IsRow, IsPicked, element_at_place, slots_of_load}
use Rattle.code_emit.specs.Emits.{source_shape, elements_shape, AreSources, shapes_in, sources_table, Sees, Emits, EmitsAll}
use Rattle.code_emit.specs.Counts.{tips}
use Rattle.code_emit.specs.Spans.{leaf_slots, ground_slots, Spans, SpansAll}
use Rattle.code_emit.proofs.Counting.{tips-Indexed}
use Rattle.code_emit.proofs.Shaped.{some_same, locations_are, indexed_parts}
use Rattle.code_emit.proofs.Spanning.{slots_each}

-- What stands in a row

module _ (S : Sources) (e : Elements) (words : List ℕ) (inputs : List Value) (F : List ℕ) (instant : Instant) (sees : Sees S words inputs F instant) where
  leaf_is : (x n : ℕ) → IsWordAt S e x n → instant.leaf x ≡ value_at (elements_shape e) words n
  leaf_is x n w = sees.leaf x (source.Word w.kept) w.there ∙ ap₂ (λ s k. value_at s words k) w.shape w.at

  leaf_shape : (x n : ℕ) → IsWordAt S e x n → shape_of_value (instant.leaf x) ≡ elements_shape e
  leaf_shape x n w = ap shape_of_value (leaf_is x n w) ∙ fitted_shape e.kind e.width (pos (slice_index words n + high_at (elements_shape e) words n * 2 ^ 64)) e.narrow

  first_zero : (ns : List ℕ) → StandInRow S ns e → or_zero (map instant.leaf ns) None ≡ fitted e.kind e.width (pos 0)
  first_zero [] row = let some = row.several in absurd (omega (arith, some))
  first_zero (x ∷ ns) row = ap (λ (s : Shape). fitted s.kind s.width (pos 0)) (leaf_shape x (e.region.base + 0 * e.region.stride) (row.each 0 x refl))

  pub row_value : (ns : List ℕ) (o : Option ℕ) → StandInRow S ns e → indexed o (map instant.leaf ns) ≡ element_at_place e words o
  row_value ns None row = first_zero ns row
  row_value ns (Some k) row = ⊎_elim
      (λ lt.
      let counted = row.counted in
      let x = get_or ns k 0 in
      let there : slice_get ns k ≡ Some x = slice_get-get_or ns k 0 (omega (arith, lt, counted)) in
      ap (or_zero (map instant.leaf ns)) (slice_get-map instant.leaf ns k ∙ ap (option_map instant.leaf) there) ∙ leaf_is x (e.region.base + k * e.region.stride) (row.each k x there)
      ∙ ap (λ b. if b then value_at (elements_shape e) words (e.region.base + k * e.region.stride) else fitted e.kind e.width (pos 0)) (sym (lt-ltb k e.region.depth lt)))
      (λ le.
      let counted = row.counted in
      ap (or_zero (map instant.leaf ns)) (slice_get-map instant.leaf ns k ∙ ap (option_map instant.leaf) (slice_get_past ns k (omega (arith, le, counted)))) ∙ first_zero ns row
      ∙ ap (λ b. if b then value_at (elements_shape e) words (e.region.base + k * e.region.stride) else fitted e.kind e.width (pos 0)) (sym (le-ltb k e.region.depth le)))
      (cases_lt k e.region.depth)

row_region : (S : Sources) (e : Elements) (ns : List ℕ) (d : Draft) → StandInRow S ns e → AreSources S d → InRegion d.words e.width e.region
row_region S e ns d row srcs p lt =
    let counted = row.counted in
    let w = row.each p (get_or ns p 0) (slice_get-get_or ns p 0 (omega (arith, lt, counted))) in
    subst (λ n. n + further_words e.width < d.words) w.at (subst (λ (t : Shape). w.kept.number + further_words t.width < d.words) w.shape (srcs.leaves (get_or ns p 0) (source.Word w.kept) w.there))

-- an answer that is there
pub found : {A : Type 0} (P : A → Type 0) (o : Option A) (x : A) → o ≡ Some x → IfSome o P → P x
found P o x e h = subst (λ p. IfSome p P) e h

-- Whole expressions

same_number : (a b : ℕ) → (a == b) ≡ true → a ≡ b
same_number a b h = grind (arith, common_steps)

all_long : (os : List (Option Shape)) (ss : List Shape) → all_of os ≡ Some ss → length os ≡ length ss
all_long [] ss e = let none : [] ≡ ss = some_same e in ap length none
all_long (o ∷ os) ss e =
    let first = and_then (λ s. option_and_then (λ more. Some (s ∷ more)) (all_of os)) o ss e in
    let rest = and_then (λ more. Some (first.0 ∷ more)) (all_of os) ss first.2 in
    ap suc (all_long os rest.0 rest.1) ∙ ap length (some_same rest.2)

-- the first shape of several
items_first : (o : Option Shape) (os : List (Option Shape)) (ss : List Shape) (s t : Shape) → all_of (o ∷ os) ≡ Some ss → o ≡ Some s → shape_of_items ss ≡ Some t → t ≡ s
items_first o os [] s t e f h =
    let first = and_then (λ x. option_and_then (λ more. Some (x ∷ more)) (all_of os)) o [] e in
    let rest = and_then (λ more. Some (first.0 ∷ more)) (all_of os) [] first.2 in
    let long : suc (length rest.0) ≡ 0 = ap length (some_same rest.2) in
    absurd (omega (arith, long))
items_first o os (u ∷ more) s t e f h =
    let first = and_then (λ x. option_and_then (λ more. Some (x ∷ more)) (all_of os)) o (u ∷ more) e in
    let rest = and_then (λ more. Some (first.0 ∷ more)) (all_of os) (u ∷ more) first.2 in
    let same : first.0 ≡ u = head_same (some_same rest.2) in
    let test = if_some (list_all (λ v. same_shape v u) more) (Some u) t h in
    sym (some_same test.1) ∙ (sym same ∙ some_same (sym first.1 ∙ f))
  where
    head_same : {x y : Shape} {xs ys : List Shape} → x ∷ xs ≡ y ∷ ys → x ≡ y
    head_same e = cc

module _ (S : Sources) (g : Ground) (ns : List ℕ) (is : List Ground) (ls : List ℕ) (some : IsSome (shape g (sources_table S))) (e : g ≡ Indexed ns is ls) (front : List Location) (el : Elements)
    (shapes : all_of (shapes_in (sources_table S) is) ≡ Some (location_shapes front)) (row : IsRow S ns front el) where
  abbrev table : Table
  table = sources_table S

  abbrev parts : (i : List Shape) × (ss : List Shape) × (all_of (shapes_in table is) ≡ Some i) × (all_of (map table.leaf ns) ≡ Some ss) × ((are_index_shapes i ls && (length ss == element_count ls)) ≡ true) × (shape_of_items ss ≡ shape g table)
  parts = indexed_parts table g some ns is ls e

  tests : (are_index_shapes (location_shapes front) ls ≡ true) × (length ns ≡ element_count ls)
  tests =
      let p = parts in
      let both = both_true (are_index_shapes p.0 ls) (length p.1 == element_count ls) p.4 in
      let same : p.0 ≡ location_shapes front = locations_are (shapes_in table is) p.0 (location_shapes front) p.2 shapes in
      (subst (λ i. are_index_shapes i ls ≡ true) same both.0, sym (length-map ns table.leaf) ∙ (all_long (map table.leaf ns) p.1 p.3 ∙ same_number (length p.1) (element_count ls) both.1))

  pub row_indices : are_index_shapes (location_shapes front) ls ≡ true
  row_indices = tests.0

  pub row_counted : element_count ls ≡ el.region.depth
  row_counted = sym (row.row.counted ∙ tests.1)

  pub row_some : 0 < el.region.depth
  row_some = let several = row.row.several in let counted = row.row.counted in omega (arith, several, counted)

  pub row_shape : shape g table ≡ Some (elements_shape el)
  row_shape = by_leaves ns parts.1 parts.3 row.row (shape g table) some parts.5
    where
      by_leaves : (xs : List ℕ) (ss : List Shape) → all_of (map table.leaf xs) ≡ Some ss → StandInRow S xs el → (o : Option Shape) → IsSome o → shape_of_items ss ≡ o → o ≡ Some (elements_shape el)
      by_leaves [] ss all row o there is = let few = row.several in absurd (omega (arith, few))
      by_leaves (x ∷ xs) ss all row (Some t) there is =
          let w = row.each 0 x refl in
          ap Some (items_first (table.leaf x) (map table.leaf xs) ss (elements_shape el) t all (ap (option_map source_shape) w.there ∙ ap Some w.shape) is)
      by_leaves (x ∷ xs) ss all row None there is = absurd (true≢false (sym there))

  indexed_value : (words : List ℕ) (inputs : List Value) (F : List ℕ) (instant : Instant) → Sees S words inputs F instant → location_values F front ≡ values is instant
      → value g instant ≡ element_at_place el words (place_by (location_values F front) ls)
  indexed_value words inputs F instant sees are =
      ap (λ h. value h instant) e ∙ (value-Indexed ns is ls instant
      ∙ (ap (λ us. indexed (place (map integer_of us) ls) (map instant.leaf ns)) (sym are) ∙ row_value S el words inputs F instant sees ns (place_by (location_values F front) ls) row.row))

  pub row_emits : (a b c : Draft) (s : Location) → EmitsAll S is a b front
      → (IsDraft b → All (Stands b) front → InRegion b.words el.width el.region → Makes b c s (IsPicked el front ls)) → Emits S g a c s
  row_emits a b c s all last is_draft srcs =
      let first = all is_draft srcs in
      let region = subst (λ m. InRegion m el.width el.region) (sym first.grows.words) (row_region S el ns a row.row srcs) in
      let m = last first.grows.is first.stand region in
      record {
        grows = grows_then a b c first.grows m.grows;
        stands = m.stands;
        holds = λ words inputs F v sol wanted.
            let instant = wanted.0 in
            let sees = wanted.1 in
            let back = m.grows.back words inputs F sol in
            m.holds words inputs F v sol (wanted.2 ∙ indexed_value words inputs F instant sees (first.holds words inputs F instant back sees), first.cut words inputs F instant back sees);
      }

  pub row_spans : (a b c : Draft) (s : Location) → SpansAll S is a b front → ((n : ℕ) → slots_of_load (length front) ≤ n → Segment b c (slots_of front) (location_slots s) n) → Spans S g a c s
  row_spans a b c s all load before =
      let O = flat_map (ground_slots S) is in
      let K = slots_of front in
      let Q = location_slots s in
      let f = all before in
      let next = load (2 * length ns) row.room in
      let lower = f.slots in
      let upper = next.slots in
      let few = location_few s in
      let held = f.few in
      let count : tips g ≡ max 1 (sum (map tips is) + length ns) = ap tips e ∙ tips-Indexed ns is ls in
      let sums = sum-map tips is in
      let several = row.row.several in
      let both : Segment a c O Q (2 * tips g) = segment_then a b c O K K Q O Q (2 * sum_by tips is) (2 * length ns) (2 * tips g) f next (record {
        lower = lower;
        upper = upper;
        first_outer = λ k lt h. h;
        second_outer = λ k lt h. ⊎_elim (λ own. let low = own.0 in absurd (omega (arith, low, lt))) (λ out. out) (f.there k h);
        inside = λ k low up h. h;
        kept_first = λ k low up h. ⊎_elim (λ own. let out = own.0 in absurd (omega (arith, out, up))) (λ kept. kept) (next.there k h);
        kept_second = λ k low up h. h;
      })
      (λ k h. ⊎_elim
      (λ own. let low = own.0 in inl (omega (arith, low, lower), own.1))
      (λ kept. ⊎_elim (λ own. let up = own.1 in inl (own.0, omega (arith, up, upper))) (λ out. inr out) (f.there k kept))
      (next.there k h))
      (omega (arith, count, sums)) (omega (arith, held, count, sums)) (omega (arith, few, count, several)) in
      let told : mentions g ≡ all_mentions is ++ ns = ap mentions e ∙ mentions-Indexed ns is ls in
      segment_weaker a c O Q (ground_slots S g) Q (2 * tips g) (2 * tips g) both
      (λ k h. subst (λ xs. among (flat_map (leaf_slots S) xs) k ≡ true) (sym told)
      (subst (λ xs. among xs k ≡ true) (sym (flat_map-append (leaf_slots S) (all_mentions is) ns))
      (among_left (flat_map (leaf_slots S) (all_mentions is)) (flat_map (leaf_slots S) ns) k (subst (λ xs. among xs k ≡ true) (slots_each S is) h))))
      (λ k h. h) (omega arith) (omega (arith, few, count, several))
