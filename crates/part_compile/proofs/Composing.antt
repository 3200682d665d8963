-- The code of a part from its layers, and the codes of parts one after the other.
use Rattle.std.proofs.Common.{◌≡◌, ◌↔◌, ℕ, zero, suc, ◌+◌, ◌<◌, ◌≤◌, true, false, List, [], ◌∷◌, ◌++◌, map, take, length, slice_get, slice_index, get_or, Option, Some, None, sym, subst, ap, ◌∙◌, arith, All}
use Rattle.std.specs.Prelude.{Contains, IsTrue}
use Rattle.std.proofs.lemmas.List.{take_more, length-append, length-map}
use Rattle.std.proofs.lemmas.List.Elements.{Contains-get_or}
use Rattle.std.proofs.lemmas.Simd.{map-map}
use Rattle.std.proofs.lemmas.Option.{slice_get_within, get_or_from_slice_get}
use Rattle.bit_words.specs.declared.value.Value.{Value}
use Rattle.ground_net.specs.declared.ground.Ground.{Ground}
use Rattle.ground_net.specs.declared.net.Net.{Net}
use Rattle.ground_net.specs.declared.net.CutPart.{CutPart}
use Rattle.ground_net.specs.Reads.{IsAssigned, IsOrder}
use Rattle.ground_net.specs.Nets.{IsNet}
use Rattle.ground_net.specs.Cycles.{captures}
use Rattle.ground_net.specs.Words.{state_words, captured_word}
use Rattle.flat_code.specs.declared.code.Code.{Code}
use Rattle.flat_code.specs.declared.code.Span.{Span}
use Rattle.flat_code.specs.declared.instr.Instr.{Instr}
use Rattle.flat_code.specs.Fine.{AreFine, IsPort, IsWide, nothing, written}
use Rattle.flat_code.specs.Orders.{Single}
use Rattle.flat_code.specs.Meaning.{changed}
use Rattle.flat_code.specs.Codes.{KeepsAll, published_by, outputs_by}
use Rattle.cone_cutter.specs.Splits.{IsUnion}
use Rattle.cone_cutter.proofs.Assembly.{cone_assigned, assigned_within}
use Rattle.code_draft.specs.declared.draft.Draft.{Draft}
use Rattle.code_draft.specs.Drafts.{IsDraft}
use Rattle.code_draft.specs.declared.sources.Sources.{Sources}
use Rattle.code_emit.specs.Emits.{sources_table}
use Rattle.partition_code.specs.Sequences.{Goes, Assigns, turned_table}
use Rattle.code_draft.specs.Finishing.{IsCodeOf as HasDraftsEffects}
use Rattle.part_compile.specs.declared.captured.CapturedRead.{CapturedRead}
use Rattle.part_compile.specs.declared.words.FirstWords.{FirstWords}
use Rattle.part_compile.specs.FirstWords.{AreFirst, told_of}
use Rattle.part_compile.specs.Complete.{AreAllOf}
use Rattle.part_compile.proofs.Among.{among}
use Rattle.part_compile.specs.Knowing.{Knows}
use Rattle.part_compile.proofs.InTurn.{part_known}
use Rattle.part_compile.specs.Parts.{IsPart}
use Rattle.part_compile.proofs.Composed.{publishes, shows}
use Rattle.partition_code.specs.Codes.{register_words, is_among, HasWordAmong, IsCodeOf, AreCodesOf}
use Rattle.part_compile.specs.declared.work.Made.{Made}
use Rattle.part_compile.specs.PartRows.{sinks_of, IsWork, SoFar}
use Rattle.part_compile.specs.Pieces.{HasDrivers}
use Rattle.part_compile.specs.Frames.{TakesFewSlots, TakeFewSlots}
use Rattle.part_compile.proofs.StateWords.{behind_registers, behind_all}

false_true : false ≡ true → ⊥
false_true e = cc

some_same : {A : Type 0} {x y : A} → Some x ≡ Some y → x ≡ y
some_same e = cc

none_some : {A : Type 0} {x : A} → None ≡ Some x → ⊥
none_some e = cc

-- no code is in order
pub empty_is : (d : Draft) → d.instrs ≡ [] → d.ports ≡ [] → d.wides ≡ [] → IsDraft d
empty_is d instrs ports wides = record {
  fine = subst (AreFine d.slots d.words (length d.ports) (length d.wides)) (sym instrs) (λ k x lt. absurd (omega (arith, lt)));
  single = subst (Single nothing d.ports d.wides) (sym instrs) tt;
  below = λ k e. absurd (false_true (ap (λ (is : List Instr). written nothing d.wides is k) (sym instrs) ∙ e));
  ports = subst (All (IsPort d.slots d.words)) (sym ports) (λ k x lt. absurd (omega (arith, lt)));
  wides = subst (All (IsWide d.slots d.words)) (sym wides) (λ k x lt. absurd (omega (arith, lt)));
}

pub at_both : {A B : Type 0} (P : A → B → Type 0) (a c : A) (b d : B) → a ≡ c → b ≡ d → P a b → P c d
at_both P a c b d e f p = subst (λ x. P x d) e (subst (P a) f p)

pub reads_long : (net : Net) (reads : List CapturedRead) → reads ≡ map told_of (captures net) → length reads ≡ length (captures net)
reads_long net reads e = ap length e ∙ length-map (captures net) told_of

-- the word behind the last captured read
pub words_counted : (net : Net) (words : FirstWords) (reads : List CapturedRead) (xs : List ℕ) → AreFirst net words → reads ≡ map told_of (captures net) → xs ≡ words.captured → slice_index xs (length reads) ≡ state_words net
words_counted net words reads xs first e same =
    let long = reads_long net reads e in
    ap (λ l. slice_index l (length reads)) same ∙ (first.captured (length reads) (omega (arith, long)) ∙ (ap (captured_word net) long ∙ behind_all net))

-- the word behind the last register
pub registers_counted : (net : Net) (words : FirstWords) (xs : List ℕ) → AreFirst net words → xs ≡ words.registers → slice_index xs (length net.registers) ≡ register_words net
registers_counted net words xs first same =
    ap (λ l. slice_index l (length net.registers)) same ∙ (first.registers (length net.registers) (omega arith) ∙ behind_registers net)

-- and it is a word of the state, or the one behind the last
pub registers_first : (net : Net) (n m : ℕ) → n ≡ register_words net → m ≡ state_words net → n ≤ m
registers_first net n m e f = omega (arith, e, f)

-- The same code, but of registers it publishes the words that change alone.
pub record PublishesChanges (net : Net) (code new : Code) : Type 0 where
  pub kept : KeepsAll code new
  pub publications : (words : List ℕ) (inputs : List Value) → published_by new words inputs ≡ changed (register_words net) words (published_by code words inputs)
  pub outputs : (words : List ℕ) (inputs : List Value) → outputs_by new words inputs ≡ outputs_by code words inputs

module _ (net : Net) (w : IsNet net) (watch : List ℕ) (part : CutPart) where
  module _ (sequence : List ℕ) (union : IsUnion net watch sequence part) where
    pub are_assignments : (x : ℕ) → Contains part.assignments x → IsAssigned net.leaves x
    are_assignments x c = let n = union.exactly.only x c in cone_assigned net n.inside.sink x n.inside.inside

    pub have_drivers : HasDrivers net part
    have_drivers x c = w.assigned x (are_assignments x c)

    pub all_within : (n : ℕ) → n ≡ length net.leaves → All (λ x. x < n) part.assignments
    all_within n e k d lt =
        let within = assigned_within net.leaves (get_or part.assignments k d) (are_assignments (get_or part.assignments k d) (Contains-get_or part.assignments k d lt)) in
        omega (arith, within, e)

    pub goes_on : (first later : Sources) (start assigned : Draft) (ds : List (Option Ground)) (xs : List ℕ) → AreAllOf net first → start.instrs ≡ [] → start.ports ≡ [] → start.wides ≡ [] → start.words ≡ state_words net → ds ≡ net.drivers
        → xs ≡ part.assignments → Assigns ds xs first start later assigned → Goes net.drivers part.assignments first start later assigned
    goes_on first later start assigned ds xs all instrs ports wides counted de xe assigns =
        at_both (λ gs ys. Assigns gs ys first start later assigned) ds net.drivers xs part.assignments de xe assigns (empty_is start instrs ports wides) (among net w start counted first all.of)

    pub is_work : (first later : Sources) → IsOrder net sequence → AreAllOf net first → sources_table later ≡ turned_table (sources_table first) net.drivers part.assignments → IsWork net watch part later
    is_work first later order all e = record {
      within = union.only;
      needed = λ k x sink c there inside. union.exactly.all x (record { sink = k; there = c; inside = record { sink = sink; there = there; inside = inside } });
      known = subst (Knows net (Contains part.assignments)) (sym e) (part_known net w watch sequence part first order union all);
    }

  pub code_is : (first later : Sources) (start assigned : Draft) (made : Made) (code new : Code) → AreAllOf net first → start.instrs ≡ [] → start.words ≡ state_words net → Goes net.drivers part.assignments first start later assigned
      → ((x : ℕ) → Contains part.assignments x → IsAssigned net.leaves x) → SoFar net watch later assigned part.sinks made → HasDraftsEffects code made.draft made.shown → code.positions ≡ made.positions → code.owned ≡ made.owned
      → code.words ≡ made.draft.words → PublishesChanges net code new → IsCodeOf net watch part new
  code_is first later start assigned made code new all none counted goes are so whole positions owned words now =
      let shown = map (slice_index watch) made.positions in
      let these = sinks_of net watch part.sinks in
      let p : IsPart net part.assignments (sinks_of net watch part.sinks) (map (slice_index watch) made.positions) code = record {
        first = first;
        of = all.of;
        later = later;
        empty = start;
        none = none;
        assigned = assigned;
        goes = goes;
        are = are;
        told = made.draft;
        tells = so.tells;
        locations = made.shown;
        whole = whole;
        shows = λ ws is F instant sol sees. so.values ws is F instant sol sees ∙ sym (map-map instant.leaf (slice_index watch) made.positions);
      } in
      record {
        words = now.kept.words ∙ (words ∙ (so.tells.words ∙ (goes.grows.words ∙ counted)));
        positions = now.kept.positions ∙ (positions ∙ so.positions);
        owned = λ i. subst (λ (spans : List Span). IsTrue (is_among spans i) ↔ HasWordAmong net these i) (sym (now.kept.owned ∙ owned)) (so.owned i);
        publications = λ ws is rho cycle. now.publications ws is
            ∙ ap (changed (register_words net) ws) (publishes net part.assignments these shown code ws is cycle.given rho w p cycle.plain cycle.matched cycle.settled);
        outputs = λ ws is rho cycle. now.outputs ws is ∙ (shows net part.assignments these shown code ws is cycle.given rho w p cycle.plain cycle.matched cycle.settled
            ∙ (map-map rho (slice_index watch) made.positions ∙ ap (map (λ k. rho (slice_index watch k))) (sym (now.kept.positions ∙ positions))));
      }

-- One code after the other

push_at : {A B : Type 0} (P : A → B → Type 0) (x : A) (y : B) (xs : List A) (ys : List B) → length ys ≡ length xs → P x y
    → ((k : ℕ) (a : A) (b : B) → slice_get xs k ≡ Some a → slice_get ys k ≡ Some b → P a b) → (k : ℕ) (a : A) (b : B) → slice_get (xs ++ x ∷ []) k ≡ Some a → slice_get (ys ++ y ∷ []) k ≡ Some b → P a b
push_at P x y [] [] e p h zero a b at be = subst (P a) (some_same be) (subst (λ z. P z y) (some_same at) p)
push_at P x y [] [] e p h (suc k) a b at be = absurd (none_some at)
push_at P x y [] (v ∷ ys) e p h k a b at be = absurd (omega (arith, e))
push_at P x y (u ∷ xs) [] e p h k a b at be = absurd (omega (arith, e))
push_at P x y (u ∷ xs) (v ∷ ys) e p h zero a b at be = h 0 a b at be
push_at P x y (u ∷ xs) (v ∷ ys) e p h (suc k) a b at be = push_at P x y xs ys (omega (arith, e)) p (λ j c d at be. h (suc j) c d at be) k a b at be

pub codes_none : (net : Net) (watch : List ℕ) (codes : List Code) → codes ≡ [] → AreCodesOf net watch [] codes
codes_none net watch codes e = record { counted = ap length e; each = λ p a c at here. absurd (none_some at) }

pub codes_more : (net : Net) (watch : List ℕ) (parts : List CutPart) (i : ℕ) (part : CutPart) (codes : List Code) (code : Code) → slice_get parts i ≡ Some part → AreCodesOf net watch (take i parts) codes → IsCodeOf net watch part code
    → AreCodesOf net watch (take (i + 1) parts) (codes ++ code ∷ [])
codes_more net watch parts i part codes code there so is =
    let more : take (i + 1) parts ≡ take i parts ++ part ∷ [] = take_more parts i part (slice_get_within parts i part there) ∙ ap (λ p. take i parts ++ p ∷ []) (get_or_from_slice_get parts i part part there) in
    subst (λ ps. AreCodesOf net watch ps (codes ++ code ∷ [])) (sym more) (record {
      counted = length-append codes (code ∷ []) ∙ (ap (λ n. n + 1) so.counted ∙ sym (length-append (take i parts) (part ∷ [])));
      each = λ p a c. push_at (IsCodeOf net watch) part code (take i parts) codes so.counted is (λ k. so.each k) p a c;
    })

pub few_none : (net : Net) (watch : List ℕ) (codes : List Code) → TakeFewSlots net watch [] codes
few_none net watch codes = λ p a c at here. absurd (none_some at)

pub few_more : (net : Net) (watch : List ℕ) (parts : List CutPart) (i : ℕ) (part : CutPart) (codes : List Code) (code : Code) → slice_get parts i ≡ Some part → length codes ≡ length (take i parts) → TakeFewSlots net watch (take i parts) codes
    → TakesFewSlots net watch part code → TakeFewSlots net watch (take (i + 1) parts) (codes ++ code ∷ [])
few_more net watch parts i part codes code there counted so few =
    let more : take (i + 1) parts ≡ take i parts ++ part ∷ [] = take_more parts i part (slice_get_within parts i part there) ∙ ap (λ p. take i parts ++ p ∷ []) (get_or_from_slice_get parts i part part there) in
    subst (λ ps. TakeFewSlots net watch ps (codes ++ code ∷ [])) (sym more) (push_at (TakesFewSlots net watch) part code (take i parts) codes counted few so)
