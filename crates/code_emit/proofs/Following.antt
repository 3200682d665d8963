-- Code behind code that keeps the slots of its operands.
use Rattle.std.proofs.Common.{◌≡◌, ℕ, suc, ◌+◌, ◌*◌, ◌<◌, ◌≤◌, max, Bool, true, false, true≢false, nat_le, if◌then◌else◌, List, [], ◌∷◌, ◌++◌, length, map, flat_map, Option, Some, None, option_and_then, refl, sym, subst, ap, ◌∙◌, arith, ⊎_elim, inl, inr}
use Rattle.std.specs.Prelude.{IsSome, sum, sum_by}
use Rattle.std.proofs.lemmas.Bool.{le-ltb}
use Rattle.std.proofs.lemmas.Bool.Decides.{nat_tests}
use Rattle.std.proofs.lemmas.List.{append-nil, length-map}
use Rattle.std.proofs.lemmas.List.Sums.{sum-map, sum_by-cons}
use Rattle.prim_ops.specs.declared.operation.PrimOp.{PrimOp}
use Rattle.ground_net.specs.declared.ground.Ground.{Ground}
use Rattle.ground_net.specs.declared.ground.Ground.TheVariants.{Op, Mux}
use Rattle.ground_net.specs.Grounds.{mentions}
use Rattle.ground_net.proofs.Layers.{all_mentions, mentions-Op, mentions-Mux}
use Rattle.ground_net.specs.Shapes.{Shape, Table, shape, all_of, shape_of_choice, shape_of_row, is_row, width_of_row}
use Rattle.ground_net.proofs.Shaping.{and_then}
use Rattle.flat_code.specs.declared.instr.Location.{Location}
use Rattle.flat_code.specs.Fine.{among, location_slots, slots_of, location_shapes}
use Rattle.flat_code.specs.Meaning.{location_shape}
use Rattle.code_draft.specs.declared.draft.Draft.{Draft}
use Rattle.code_draft.specs.Segments.{Segment, Step}
use Rattle.code_draft.proofs.Segmenting.{among_left, among_right, among_either, none_among, both_so}
use Rattle.code_draft.proofs.Joining.{segment_then, segment_weaker, step_then}
use Rattle.code_draft.proofs.Stepping.{location_few}
use Rattle.code_emit.specs.Ways.{Reckons}
use Rattle.code_emit.proofs.Behind.{then_step}
use Rattle.code_draft.specs.declared.sources.Sources.{Sources}
use Rattle.code_emit.specs.Emits.{shapes_in}
use Rattle.code_emit.specs.Counts.{tips}
use Rattle.code_emit.specs.Spans.{leaf_slots, ground_slots, Spans, SpansAll, ComeBefore, Follows, are_words}
use Rattle.code_emit.proofs.Counting.{tips_some, tips-Op, tips-Mux}
use Rattle.code_emit.proofs.Shaped.{some_same}
use Rattle.code_emit.proofs.Spanning.{grounds_before, slots_each}

-- Choices one behind the other

pub chain_segment : (old d e : Draft) (rest : List Location) (c v last s : Location) → (ComeBefore old.slots (slots_of rest) → Segment old d (slots_of rest) (location_slots last) 2)
    → Step d e (slots_of (c ∷ v ∷ last ∷ [])) (location_slots s) 2 → ComeBefore old.slots (slots_of (c ∷ v ∷ rest)) → Segment old e (slots_of (c ∷ v ∷ rest)) (location_slots s) 2
chain_segment old d e rest c v last s before next come =
    let O = slots_of rest in
    let C = location_slots c in
    let V = location_slots v in
    let L = location_slots last in
    let W = slots_of (c ∷ v ∷ rest) in
    let from_c : (k : ℕ) → among C k ≡ true → among W k ≡ true = λ k h. among_left C (V ++ O) k h in
    let from_v : (k : ℕ) → among V k ≡ true → among W k ≡ true = λ k h. among_right C (V ++ O) k (among_left V O k h) in
    let from_rest : (k : ℕ) → among O k ≡ true → among W k ≡ true = λ k h. among_right C (V ++ O) k (among_right V O k h) in
    then_step old d e O L (slots_of (c ∷ v ∷ last ∷ [])) (location_slots s) W 2 2 2 (before (λ k h. come k (from_rest k h))) next
    (λ k h. ⊎_elim
    (λ first. inr (come k (from_c k first), from_c k first))
    (λ more. ⊎_elim
    (λ second. inr (come k (from_v k second), from_v k second))
    (λ third. ⊎_elim (λ at. inl at) (λ none. none_among k none) (among_either L [] k third))
    (among_either V (L ++ []) k more))
    (among_either C (V ++ (L ++ [])) k h))
    from_rest (omega arith) (omega arith)

words_long : (ss : List Location) → are_words ss ≡ true → length (slots_of ss) ≡ length ss
words_long [] e = refl
words_long (s ∷ ss) e =
    let both = both_so (nat_le s.width 64) (are_words ss) e in
    let one : location_slots s ≡ s.low ∷ [] = ap (λ b. if b then s.low ∷ s.high ∷ [] else s.low ∷ []) (le-ltb 64 s.width (at_most s.width both.0)) in
    ap (λ xs. length (xs ++ slots_of ss)) one ∙ ap suc (words_long ss both.1)
  where
    at_most : (w : ℕ) → nat_le w 64 ≡ true → w ≤ 64
    at_most w h = grind (arith, nat_tests)

pub choice_some : (ss : List Location) → IsSome (shape_of_choice (location_shapes ss)) → 1 ≤ length ss
choice_some [] h = absurd (true≢false (sym h))
choice_some (s ∷ ss) h = omega arith

pub step_follows : (ss : List Location) (old new : Draft) (s : Location) → 1 ≤ length ss → Step old new (slots_of ss) (location_slots s) 2 → Follows ss old new s
step_follows ss old new s some st start outer n before room seg = step_then start old new outer (slots_of ss) (location_slots s) n 2 n seg st (omega arith) (omega (arith, some, room))

-- code of which two slots are live at once, beside the slots of the operands
pub segment_follows : (ss : List Location) (old new : Draft) (s : Location) → length (slots_of ss) + 2 ≤ 2 * length ss → (ComeBefore old.slots (slots_of ss) → Segment old new (slots_of ss) (location_slots s) 2) → Follows ss old new s
segment_follows ss old new s fits h start outer n before room seg =
    let K = slots_of ss in
    let Q = location_slots s in
    let lower = seg.slots in
    let g = h (λ k e. ⊎_elim (λ own. own.1) (λ out. let lt = before k out in omega (arith, lt, lower)) (seg.there k e)) in
    let upper = g.slots in
    let few = location_few s in
    segment_then start old new outer K K Q outer Q n 2 n seg g (record {
      lower = lower;
      upper = upper;
      first_outer = λ k lt e. e;
      second_outer = λ k lt e. ⊎_elim (λ own. let low = own.0 in absurd (omega (arith, low, lt))) (λ out. out) (seg.there k e);
      inside = λ k low up e. e;
      kept_first = λ k low up e. ⊎_elim (λ own. let out = own.0 in absurd (omega (arith, out, up))) (λ kept. kept) (g.there k e);
      kept_second = λ k low up e. e;
    })
    (λ k e. ⊎_elim
    (λ own. let low = own.0 in inl (omega (arith, low, lower), own.1))
    (λ kept. ⊎_elim (λ own. let up = own.1 in inl (own.0, omega (arith, up, upper))) (λ out. inr out) (seg.there k kept))
    (g.there k e))
    (omega arith) (omega (arith, fits, room)) (omega (arith, few, fits, room))

pub chain_follows : (ss : List Location) (old new : Draft) (s : Location) → are_words ss ≡ true → 3 < length ss → (ComeBefore old.slots (slots_of ss) → Segment old new (slots_of ss) (location_slots s) 2) → Follows ss old new s
chain_follows ss old new s words many h = let long = words_long ss words in segment_follows ss old new s (omega (arith, long, many)) h

-- Operations

abbrev shape_there : Option Shape → Type 0
shape_there o = IsSome o

none_there : {A : Type 0} (b : Bool) → shape_there (if b then None else None) → A
none_there true h = absurd (true≢false (sym h))
none_there false h = absurd (true≢false (sym h))

pub row_some : (prim : PrimOp) (params : List ℕ) (ss : List Location) → IsSome (shape_of_row prim params (location_shapes ss)) → 1 ≤ length ss
row_some prim params [] h = none_there (is_row prim [] params (width_of_row prim [] params)) h
row_some prim params (s ∷ ss) h = omega arith

pub reckons_follow : (ss : List Location) (old new : Draft) (s : Location) → 1 ≤ length ss → Reckons ss old new s → Follows ss old new s
reckons_follow ss old new s some r = ⊎_elim
    (λ st. step_follows ss old new s some st)
    (λ both. let two = both.0.two in let each = both.0.one_each in segment_follows ss old new s (omega (arith, two, each)) (λ come. both.1))
    r

-- a value of one that follows
pub follows_then : (ss : List Location) (a b c : Draft) (m s : Location) → 1 ≤ length ss → Follows ss a b m → Follows (m ∷ []) b c s → Follows ss a c s
follows_then ss a b c m s some first next start outer n before room seg =
    next start outer n before (omega (arith, some, room)) (subst (λ xs. Segment start b outer xs n) (sym (append-nil (location_slots m))) (first start outer n before room seg))

-- Expressions

all_long : (os : List (Option Shape)) (ss : List Shape) → all_of os ≡ Some ss → length os ≡ length ss
all_long [] ss e = let none : [] ≡ ss = some_same e in ap length none
all_long (o ∷ os) ss e =
    let first = and_then (λ s. option_and_then (λ more. Some (s ∷ more)) (all_of os)) o ss e in
    let rest = and_then (λ more. Some (first.0 ∷ more)) (all_of os) ss first.2 in
    ap suc (all_long os rest.0 rest.1) ∙ ap length (some_same rest.2)

locations_long : (table : Table) (gs : List Ground) (ss : List Location) → all_of (shapes_in table gs) ≡ Some (location_shapes ss) → length gs ≡ length ss
locations_long table gs ss e = sym (length-map gs (λ g. shape g table)) ∙ (all_long (shapes_in table gs) (location_shapes ss) e ∙ length-map ss location_shape)

tips_each : (gs : List Ground) → length gs ≤ sum_by tips gs
tips_each [] = omega arith
tips_each (g ∷ gs) =
    let one = tips_some g in
    let rest = tips_each gs in
    let both = sum_by-cons tips g gs in
    omega (arith, one, rest, both)

-- an expression whose operation follows the code of its parts
module _ (S : Sources) (table : Table) (g : Ground) (gs : List Ground) (a b c : Draft) (ss : List Location) (s : Location) (shapes : all_of (shapes_in table gs) ≡ Some (location_shapes ss)) (all : SpansAll S gs a b ss)
    (last : Follows ss b c s) where
  followed_spans : sum_by tips gs ≤ tips g → mentions g ≡ all_mentions gs → Spans S g a c s
  followed_spans le told before =
      let O = flat_map (ground_slots S) gs in
      let Q = location_slots s in
      let some = tips_some g in
      let few = location_few s in
      let each = tips_each gs in
      let same = locations_long table gs ss shapes in
      subst (λ xs. Segment a c xs Q (2 * tips g)) (slots_each S gs ∙ ap (flat_map (leaf_slots S)) (sym told))
      (segment_weaker a c O Q O Q (2 * sum_by tips gs) (2 * tips g) (last a O (2 * sum_by tips gs) (grounds_before S a.slots gs before) (omega (arith, each, same)) (all before))
      (λ k h. h) (λ k h. h) (omega (arith, le)) (omega (arith, few, some)))

  counted : tips g ≡ max 1 (sum (map tips gs)) → sum_by tips gs ≤ tips g
  counted e = let sums = sum-map tips gs in omega (arith, e, sums)

  pub mux_spans : g ≡ Mux gs → Spans S g a c s
  mux_spans e = followed_spans (counted (ap tips e ∙ tips-Mux gs)) (ap mentions e ∙ mentions-Mux gs)

  pub op_spans : (prim : PrimOp) (params : List ℕ) → g ≡ Op prim gs params → Spans S g a c s
  op_spans prim params e = followed_spans (counted (ap tips e ∙ tips-Op prim gs params)) (ap mentions e ∙ mentions-Op prim gs params)

  pub nested_spans : (o : PrimOp) (ps : List ℕ) (p : PrimOp) (qs : List ℕ) → g ≡ Op o (Op p gs qs ∷ []) ps → Spans S g a c s
  nested_spans o ps p qs e = followed_spans
      (let outer = ap tips e ∙ tips-Op o (Op p gs qs ∷ []) ps in
      let inner = tips-Op p gs qs in
      let sums = sum-map tips gs in
      omega (arith, outer, inner, sums))
      (ap mentions e ∙ (mentions-Op o (Op p gs qs ∷ []) ps ∙ (append-nil (mentions (Op p gs qs)) ∙ mentions-Op p gs qs)))
