-- Registers are evaluated one after the other.
use Rattle.std.proofs.Common.{◌≡◌, ℕ, ◌+◌, ◌<◌, ◌≤◌, List, [], ◌∷◌, ◌++◌, take, get_or, length, flat_map, slice_get, Some, sym, subst, ap, ◌∙◌, arith}
use Rattle.std.proofs.lemmas.List.{take_more, append-nil}
use Rattle.std.proofs.lemmas.Grind.{flat_map-append}
use Rattle.ground_net.specs.declared.ground.Ground.{Ground}
use Rattle.ground_net.specs.declared.ground.Ground.TheVariants.{Mux}
use Rattle.ground_net.specs.declared.net.Net.{Net}
use Rattle.ground_net.specs.declared.net.NetRegister.{NetRegister}
use Rattle.ground_net.specs.Reads.{driver_of}
use Rattle.code_memories.specs.Nexts.{next_ground}
use Rattle.flat_code.specs.declared.instr.Location.{Location}
use Rattle.flat_code.specs.Fine.{location_slots}
use Rattle.code_draft.specs.declared.draft.Draft.{Draft}
use Rattle.code_draft.specs.Segments.{Segment}
use Rattle.code_draft.specs.declared.sources.Sources.{Sources}
use Rattle.code_emit.specs.Counts.{nodes, tips}
use Rattle.code_emit.specs.Spans.{Spans, EvaluatesAll}
use Rattle.std.proofs.lemmas.List.Elements.{All-cons, All-nil, All-append}
use Rattle.code_emit.proofs.Counting.{tips-Mux, tips_few, tips_some}
use Rattle.code_emit.proofs.Spanning.{found_later, one_told, evaluates_then, evaluated_slots, none_evaluated, more_evaluated}
use Rattle.code_memories.specs.SinkGroups.{found_groups, register_groups, EvaluatesOnly}

pub register_evaluated : (net : Net) (S : Sources) (n : ℕ) (register : NetRegister) (g : Ground) (old mid new : Draft) (s : Location) → slice_get net.registers n ≡ Some register
    → g ≡ next_ground register (driver_of net register.leaf) → Spans S g old mid s → Segment mid new (location_slots s) [] 0 → EvaluatesAll S (register_groups net n) old new
register_evaluated net S n register g old mid new s there same spans told =
    subst (λ gs. EvaluatesAll S gs old new) (ap (λ h. (h ∷ []) ∷ []) same ∙ sym (ap (found_groups net) there)) (one_told S g old mid new s spans told)

pub registers_evaluated : (net : Net) (S : Sources) (xs : List (ℕ × ℕ)) (k : ℕ) (a b c : Draft) → k < length xs → EvaluatesAll S (flat_map (λ (both : ℕ × ℕ). register_groups net both.0) (take k xs)) a b
    → EvaluatesAll S (register_groups net (get_or xs k (0, 0)).0) b c → EvaluatesAll S (flat_map (λ (both : ℕ × ℕ). register_groups net both.0) (take (k + 1) xs)) a c
registers_evaluated net S xs k a b c lt first next =
    let x : ℕ × ℕ = get_or xs k (0, 0) in
    let before : List (List Ground) = flat_map (λ (both : ℕ × ℕ). register_groups net both.0) (take k xs) in
    subst (λ gs. EvaluatesAll S gs a c)
    (ap (λ gs. before ++ gs) (sym (append-nil (register_groups net x.0)))
    ∙ (sym (flat_map-append (λ (both : ℕ × ℕ). register_groups net both.0) (take k xs) (x ∷ [])) ∙ ap (flat_map (λ (both : ℕ × ℕ). register_groups net both.0)) (sym (take_more xs k (0, 0) lt))))
    (more_evaluated S before (register_groups net x.0) a b c first next)

-- a choice of three has no more tips than its parts have nodes
pub choice_few : (a b c : Ground) → tips (Mux (a ∷ b ∷ c ∷ [])) ≤ nodes a + nodes b + nodes c
choice_few a b c =
    let count = tips-Mux (a ∷ b ∷ c ∷ []) in
    let first = tips_few a in
    let second = tips_few b in
    let third = tips_few c in
    let some = tips_some a in
    omega (arith, count, first, second, third, some)

-- Such groups, and more of them

pub none_such : (S : Sources) (such : List Ground → Type 0) (d : Draft) → EvaluatesOnly S such d d
none_such S such d before = ([], All-nil such, none_evaluated S d before)

pub one_such : (S : Sources) (such : List Ground → Type 0) (gs : List Ground) (a b : Draft) → such gs → EvaluatesAll S (gs ∷ []) a b → EvaluatesOnly S such a b
one_such S such gs a b h f before = (gs ∷ [], All-cons such gs [] h (All-nil such), f before)

pub more_such : (S : Sources) (such : List Ground → Type 0) (a b c : Draft) → EvaluatesOnly S such a b → EvaluatesOnly S such b c → EvaluatesOnly S such a c
more_such S such a b c f g before =
    let first = f before in
    let next = g (found_later S a.slots b.slots (evaluated_slots S first.0 a b first.2) before) in
    (first.0 ++ next.0, All-append such first.0 next.0 first.1 next.1, evaluates_then S first.0 next.0 a b c first.2 next.2)

pub such_too : (S : Sources) (such other : List Ground → Type 0) (a b : Draft) → ((gs : List Ground) → such gs → other gs) → EvaluatesOnly S such a b → EvaluatesOnly S other a b
such_too S such other a b h f before = let first = f before in (first.0, λ k d lt. h (get_or first.0 k d) (first.1 k d lt), first.2)
