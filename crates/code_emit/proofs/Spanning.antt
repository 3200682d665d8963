-- The code of expressions as segments.
use Rattle.std.proofs.Common.{◌≡◌, ℕ, ◌+◌, ◌*◌, ◌<◌, ◌≤◌, max, true, List, [], ◌∷◌, ◌++◌, map, flat_map, Some, refl, sym, subst, ap, ◌∙◌, arith, ⊎_elim}
use Rattle.std.specs.Prelude.{sum, sum_by}
use Rattle.std.proofs.lemmas.Grind.{flat_map-append}
use Rattle.std.proofs.lemmas.List.{length-append}
use Rattle.std.proofs.lemmas.List.Concat.{flat_map-cons}
use Rattle.std.proofs.lemmas.List.Sums.{sum-map, sum_by-append}
use Rattle.bit_words.specs.declared.value.Kind.{Kind}
use Rattle.ground_net.specs.declared.ground.Ground.{Ground}
use Rattle.ground_net.specs.declared.ground.Ground.TheVariants.{Leaf, Select, Load, Fit}
use Rattle.ground_net.specs.Grounds.{mentions}
use Rattle.ground_net.proofs.Layers.{all_mentions, mentions-Leaf, mentions-Select, mentions-Load, mentions-Fit}
use Rattle.flat_code.specs.declared.instr.Location.{Location}
use Rattle.flat_code.specs.Fine.{among, location_slots, slots_of}
use Rattle.code_draft.specs.declared.draft.Draft.{Draft}
use Rattle.code_draft.specs.Segments.{Segment, Step}
use Rattle.code_draft.proofs.Segmenting.{among_left, among_either, none_among}
use Rattle.code_draft.proofs.Joining.{AreBefore, step_then, both_then, segment_weaker, segment_not, segment_then}
use Rattle.code_draft.proofs.Stepping.{location_few}
use Rattle.code_draft.specs.declared.sources.Source.{Source}
use Rattle.code_draft.specs.declared.sources.Sources.{Sources}
use Rattle.code_emit.specs.Emits.{leaf_source}
use Rattle.code_emit.specs.Counts.{tips}
use Rattle.code_emit.specs.Spans.{source_slots, found_slots, leaf_slots, ground_slots, AreFoundBefore, Spans, SpansAll, Evaluates, EvaluatesAll}
use Rattle.code_emit.proofs.Counting.{tips_some, tips-Select, tips-Load, tips-Fit}

-- Slots of lists of leaves and expressions

pub among_each : {X : Type 0} (f : X → List ℕ) (xs : List X) (k : ℕ) (P : Type 0) → ((x : X) → among (f x) k ≡ true → P) → among (flat_map f xs) k ≡ true → P
among_each f [] k P h e = none_among k e
among_each f (x ∷ xs) k P h e = ⊎_elim (λ here. h x here) (λ later. among_each f xs k P h later) (among_either (f x) (flat_map f xs) k e)

pub ground_before : (S : Sources) (n : ℕ) (g : Ground) → AreFoundBefore S n → AreBefore n (ground_slots S g)
ground_before S n g before k e = among_each (leaf_slots S) (mentions g) k (k < n) (λ x h. before x k h) e

pub grounds_before : (S : Sources) (n : ℕ) (gs : List Ground) → AreFoundBefore S n → AreBefore n (flat_map (ground_slots S) gs)
grounds_before S n gs before k e = among_each (ground_slots S) gs k (k < n) (λ g h. ground_before S n g before k h) e

pub found_later : (S : Sources) (n m : ℕ) → n ≤ m → AreFoundBefore S n → AreFoundBefore S m
found_later S n m le before x k e = let lt = before x k e in omega (arith, lt, le)

pub slots_each : (S : Sources) (gs : List Ground) → flat_map (ground_slots S) gs ≡ flat_map (leaf_slots S) (all_mentions gs)
slots_each S [] = refl
slots_each S (g ∷ gs) = ap (λ xs. ground_slots S g ++ xs) (slots_each S gs)
    ∙ (sym (flat_map-append (leaf_slots S) (mentions g) (all_mentions gs)) ∙ ap (flat_map (leaf_slots S)) (sym (flat_map-cons (λ l. l) (mentions g) (map mentions gs))))

-- Lists

pub none_spans : (S : Sources) (d : Draft) → SpansAll S [] d d []
none_spans S d before = segment_not d [] 0

pub both_span : (S : Sources) (gs hs : List Ground) (a b c : Draft) (ss ts : List Location) → SpansAll S gs a b ss → SpansAll S hs b c ts → SpansAll S (gs ++ hs) a c (ss ++ ts)
both_span S gs hs a b c ss ts front back before =
    let f = front before in
    let g = back (found_later S a.slots b.slots f.slots before) in
    let O = flat_map (ground_slots S) gs in
    let P = flat_map (ground_slots S) hs in
    let all = both_then a b c O (slots_of ss) P (slots_of ts) (2 * sum_by tips gs) (2 * sum_by tips hs) f g (grounds_before S a.slots gs before) (grounds_before S a.slots hs before) in
    let count : 2 * sum_by tips gs + 2 * sum_by tips hs ≡ 2 * sum_by tips (gs ++ hs) = let sums = sum_by-append tips gs hs in omega (arith, sums) in
    subst (λ xs. Segment a c xs (slots_of (ss ++ ts)) (2 * sum_by tips (gs ++ hs))) (sym (flat_map-append (ground_slots S) gs hs))
    (subst (λ xs. Segment a c (O ++ P) xs (2 * sum_by tips (gs ++ hs))) (sym (flat_map-append location_slots ss ts))
    (subst (Segment a c (O ++ P) (slots_of ss ++ slots_of ts)) count all))

pub single_spans : (S : Sources) (g : Ground) (a b : Draft) (s : Location) → Spans S g a b s → SpansAll S (g ∷ []) a b (s ∷ [])
single_spans S g a b s h before =
    let f = h before in
    let few = f.few in
    let long = length-append (location_slots s) [] in
    segment_weaker a b (ground_slots S g) (location_slots s) (ground_slots S g ++ []) (location_slots s ++ []) (2 * tips g) (2 * sum_by tips (g ∷ [])) f
    (λ k e. among_left (ground_slots S g) [] k e)
    (λ k e. ⊎_elim (λ here. here) (λ none. none_among k none) (among_either (location_slots s) [] k e))
    (omega arith) (omega (arith, few, long))

pub one_more_spans : (S : Sources) (gs : List Ground) (g : Ground) (a b c : Draft) (ss : List Location) (s : Location) → SpansAll S gs a b ss → Spans S g b c s → SpansAll S (gs ++ g ∷ []) a c (ss ++ s ∷ [])
one_more_spans S gs g a b c ss s all one = both_span S gs (g ∷ []) a b c ss (s ∷ []) all (single_spans S g b c s one)

-- Expressions

-- a step that reads nothing but a leaf's slots
pub step_spans : (S : Sources) (g : Ground) (a b : Draft) (s : Location) (outer : List ℕ) → ((k : ℕ) → among outer k ≡ true → among (ground_slots S g) k ≡ true) → Step a b outer (location_slots s) 2 → Spans S g a b s
step_spans S g a b s outer out st before =
    let some = tips_some g in
    let few = location_few s in
    segment_weaker a b outer (location_slots s) (ground_slots S g) (location_slots s) 2 (2 * tips g) st.segment out (λ k e. e) (omega (arith, some)) (omega (arith, few, some))

pub fetched_spans : (S : Sources) (g : Ground) (a b : Draft) (s : Location) → Step a b [] (location_slots s) 2 → Spans S g a b s
fetched_spans S g a b s st = step_spans S g a b s [] (λ k e. none_among k e) st

pub leaf_spans : (S : Sources) (g : Ground) (x : ℕ) (src : Source) (a b : Draft) (s : Location) → g ≡ Leaf x → leaf_source S x ≡ Some src → Step a b (source_slots src) (location_slots s) 2 → Spans S g a b s
leaf_spans S g x src a b s e at st = step_spans S g a b s (source_slots src) (λ k h.
    subst (λ xs. among (flat_map (leaf_slots S) xs) k ≡ true) (sym (ap mentions e ∙ mentions-Leaf x))
    (among_left (leaf_slots S x) [] k (subst (λ o. among (found_slots o) k ≡ true) (sym at) h))) st

-- a step on what was emitted
module _ (S : Sources) (g : Ground) (gs : List Ground) (a b c : Draft) (ss : List Location) (s : Location) (all : SpansAll S gs a b ss) (last : Step b c (slots_of ss) (location_slots s) 2) where
  pub parts_span : sum_by tips gs ≤ tips g → mentions g ≡ all_mentions gs → Spans S g a c s
  parts_span le same before =
      let some = tips_some g in
      subst (λ xs. Segment a c xs (location_slots s) (2 * tips g)) (slots_each S gs ∙ ap (flat_map (leaf_slots S)) (sym same))
      (step_then a b c (flat_map (ground_slots S) gs) (slots_of ss) (location_slots s) (2 * sum_by tips gs) 2 (2 * tips g) (all before) last (omega (arith, le)) (omega (arith, some)))

  counted : tips g ≡ max 1 (sum (map tips gs)) → sum_by tips gs ≤ tips g
  counted e = let sums = sum-map tips gs in omega (arith, e, sums)

  pub load_spans : (m k : ℕ) → g ≡ Load m k gs → Spans S g a c s
  load_spans m k e = parts_span (counted (ap tips e ∙ tips-Load m k gs)) (ap mentions e ∙ mentions-Load m k gs)

  pub fit_spans : (kind : Kind) (width : ℕ) → g ≡ Fit kind width gs → Spans S g a c s
  fit_spans kind width e = parts_span (counted (ap tips e ∙ tips-Fit kind width gs)) (ap mentions e ∙ mentions-Fit kind width gs)

mentions_both : (is gs : List Ground) → all_mentions (is ++ gs) ≡ all_mentions is ++ all_mentions gs
mentions_both is gs = ap (flat_map (λ l. l)) (maps_both is gs) ∙ flat_map-append (λ l. l) (map mentions is) (map mentions gs)
  where
    maps_both : (is gs : List Ground) → map mentions (is ++ gs) ≡ map mentions is ++ map mentions gs
    maps_both [] gs = refl
    maps_both (i ∷ is) gs = ap (λ xs. mentions i ∷ xs) (maps_both is gs)

pub select_spans : (S : Sources) (g : Ground) (is gs : List Ground) (a b c : Draft) (ss : List Location) (s : Location) → g ≡ Select is gs → SpansAll S (is ++ gs) a b ss → Step b c (slots_of ss) (location_slots s) 2 → Spans S g a c s
select_spans S g is gs a b c ss s e all last =
    parts_span S g (is ++ gs) a b c ss s all last
    (let count = ap tips e ∙ tips-Select is gs in
    let first = sum-map tips is in
    let next = sum-map tips gs in
    let both = sum_by-append tips is gs in
    omega (arith, count, first, next, both))
    (ap mentions e ∙ (mentions-Select is gs ∙ sym (mentions_both is gs)))

-- a step where a try before it left the code as it was
pub step_after : (old d new : Draft) (outer kept : List ℕ) → d ≡ old → Step d new outer kept 2 → Step old new outer kept 2
step_after old d new outer kept same st = subst (λ x. Step x new outer kept 2) same st

-- Groups of expressions that are evaluated and not kept

-- code, and other code that reads nothing but what is kept of it
pub told_segment : (a b c : Draft) (O K : List ℕ) (m : ℕ) → Segment a b O K m → Segment b c K [] 0 → Segment a c O [] m
told_segment a b c O K m f g =
    let few = f.few in
    segment_then a b c O K K [] O [] m 0 m f g (record {
      lower = f.slots;
      upper = g.slots;
      first_outer = λ k lt e. e;
      second_outer = λ k lt e. ⊎_elim (λ own. let low = own.0 in absurd (omega (arith, low, lt))) (λ out. out) (f.there k e);
      inside = λ k low up e. e;
      kept_first = λ k low up e. none_among k e;
      kept_second = λ k low up e. none_among k e;
    }) (λ k e. none_among k e) (omega arith) (omega (arith, few)) (omega arith)

pub group_told : (S : Sources) (gs : List Ground) (a b c : Draft) (ss : List Location) → SpansAll S gs a b ss → Segment b c (slots_of ss) [] 0 → EvaluatesAll S (gs ∷ []) a c
group_told S gs a b c ss all told before = (c, told_segment a b c (flat_map (ground_slots S) gs) (slots_of ss) (2 * sum_by tips gs) (all before) told, refl)

pub one_told : (S : Sources) (g : Ground) (a b c : Draft) (s : Location) → Spans S g a b s → Segment b c (location_slots s) [] 0 → EvaluatesAll S ((g ∷ []) ∷ []) a c
one_told S g a b c s spans told = group_told S (g ∷ []) a b c (s ∷ []) (single_spans S g a b s spans)
    (segment_weaker b c (location_slots s) [] (location_slots s ++ []) [] 0 0 told (λ k e. among_left (location_slots s) [] k e) (λ k e. e) (omega arith) (omega arith))

pub evaluates_then : (S : Sources) (gs hs : List (List Ground)) (a b c : Draft) → Evaluates S gs a b → Evaluates S hs b c → Evaluates S (gs ++ hs) a c
evaluates_then S [] hs a b c f g = subst (λ d. Evaluates S hs d c) f g
evaluates_then S (group ∷ gs) hs a b c f g = (f.0, f.1, evaluates_then S gs hs f.0 b c f.2 g)

pub evaluated_slots : (S : Sources) (gs : List (List Ground)) (a b : Draft) → Evaluates S gs a b → a.slots ≤ b.slots
evaluated_slots S [] a b f = let same : b.slots ≡ a.slots = ap (λ (d : Draft). d.slots) f in omega (arith, same)
evaluated_slots S (group ∷ gs) a b f = let first = f.1.slots in let rest = evaluated_slots S gs f.0 b f.2 in omega (arith, first, rest)

pub none_evaluated : (S : Sources) (d : Draft) → EvaluatesAll S [] d d
none_evaluated S d before = refl

pub more_evaluated : (S : Sources) (gs hs : List (List Ground)) (a b c : Draft) → EvaluatesAll S gs a b → EvaluatesAll S hs b c → EvaluatesAll S (gs ++ hs) a c
more_evaluated S gs hs a b c f g before =
    let first = f before in
    evaluates_then S gs hs a b c first (g (found_later S a.slots b.slots (evaluated_slots S gs a b first) before))
