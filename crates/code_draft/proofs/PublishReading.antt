-- Instructions that publish a slot read it, and write none.
use Rattle.std.proofs.Common.{◌≡◌, ℕ, ◌<◌, ◌≤◌, Bool, true, false, nat_lt, if◌then◌else◌, List, [], ◌∷◌, ◌++◌, All, refl, sym, subst, ap, ◌∙◌, arith, append_assoc, true≢false}
use Rattle.std.proofs.lemmas.Bool.{lt-ltb}
use Rattle.std.proofs.lemmas.List.Elements.{All-cons, All-nil}
use Rattle.flat_code.specs.declared.instr.Op.TheVariants as op
use Rattle.flat_code.specs.declared.instr.Instr.{Instr}
use Rattle.flat_code.specs.declared.instr.Port.{Port}
use Rattle.flat_code.specs.declared.instr.Location.{Location}
use Rattle.flat_code.specs.declared.instr.Wide.{Wide}
use Rattle.flat_code.specs.Fine.{among, nothing, reads_on, reads_of, writes_on, writes_of, location_slots}
use Rattle.code_draft.specs.declared.draft.Draft.{Draft}
use Rattle.code_draft.specs.Drafts.{with_instr}
use Rattle.code_draft.specs.Segments.{GoesOn, Segment}
use Rattle.code_draft.proofs.Growing.{one_among, among_first, among_second}
use Rattle.code_draft.proofs.Segmenting.{none_among, map_all, few_written}
use Rattle.code_draft.proofs.Joining.{goes_same}

-- An instruction that reads one of these slots, or none, and writes none.
pub record Silent (outer : List ℕ) (i : Instr) : Type 0 where
  pub reads : (ports : List Port) (wides : List Wide) (k : ℕ) → among (reads_of ports wides i) k ≡ true → among outer k ≡ true
  pub writes : (wides : List Wide) → writes_of wides i ≡ []

-- code that writes no slot
pub silent_segment : (d new : Draft) (outer : List ℕ) (is : List Instr) → new.instrs ≡ d.instrs ++ is → GoesOn d new.ports new.wides → d.slots ≤ new.slots → All (Silent outer) is → Segment d new outer [] 0
silent_segment d new outer is code tables slots all = record {
  instrs = is;
  is = code;
  tables = tables;
  slots = slots;
  each = λ ports wides on.
      let writes : All (λ i. (k : ℕ) → among (writes_of wides i) k ≡ true → among [] k ≡ true) is =
      map_all (Silent outer) (λ i. (k : ℕ) → among (writes_of wides i) k ≡ true → among [] k ≡ true) is (λ i h k e. subst (λ xs. among xs k ≡ true) (h.writes wides) e) all in
      record {
        reads = map_all (Silent outer) (λ i. (k : ℕ) → k < d.slots → among (reads_of ports wides i) k ≡ true → among outer k ≡ true) is (λ i h k lt e. h.reads ports wides k e) all;
        writes = map_all (λ i. (k : ℕ) → among (writes_of wides i) k ≡ true → among [] k ≡ true) (λ i. (k : ℕ) → among (writes_of wides i) k ≡ true → (d.slots ≤ k) × (k < new.slots)) is
            (λ i h k e. none_among k (h k e)) writes;
        few = λ after ok. few_written ports wides 0 d.slots after [] (omega arith) is nothing writes (λ k e. absurd (true≢false (sym e)));
      };
  there = λ k e. none_among k e;
  few = omega arith;
}

pub publish_silent : (outer : List ℕ) (i : Instr) → i.op ≡ op.Publish → among outer i.first ≡ true → Silent outer i
publish_silent outer i e at = record {
  reads = λ ports wides k h. subst (λ j. among outer j ≡ true) (sym (one_among k i.first (subst (λ xs. among xs k ≡ true) (ap (λ o. reads_on o ports wides i) e) h))) at;
  writes = λ wides. ap (λ o. writes_on o wides i) e;
}

low_there : (s : Location) → among (location_slots s) s.low ≡ true
low_there s = by_width (nat_lt 64 s.width)
  where
    by_width : (b : Bool) → among (if b then s.low ∷ s.high ∷ [] else s.low ∷ []) s.low ≡ true
    by_width true = among_first s.low (s.high ∷ [])
    by_width false = among_first s.low []

high_there : (s : Location) → 64 < s.width → among (location_slots s) s.high ≡ true
high_there s many = ap (λ b. among (if b then s.low ∷ s.high ∷ [] else s.low ∷ []) s.high) (lt-ltb 64 s.width many) ∙ among_second s.low s.high

-- one word, and two
pub one_published : (d new : Draft) (s : Location) (i : Instr) → new ≡ with_instr d i → i.op ≡ op.Publish → i.first ≡ s.low → Segment d new (location_slots s) [] 0
one_published d new s i code e first =
    subst (λ x. Segment d x (location_slots s) [] 0) (sym code)
    (silent_segment d (with_instr d i) (location_slots s) (i ∷ []) refl (goes_same d) (omega arith)
    (All-cons (Silent (location_slots s)) i [] (publish_silent (location_slots s) i e (ap (among (location_slots s)) first ∙ low_there s)) (All-nil (Silent (location_slots s)))))

pub two_published : (d new : Draft) (s : Location) (i j : Instr) → 64 < s.width → new ≡ with_instr (with_instr d i) j → i.op ≡ op.Publish → j.op ≡ op.Publish → i.first ≡ s.low → j.first ≡ s.high
    → Segment d new (location_slots s) [] 0
two_published d new s i j many code e f first next =
    subst (λ x. Segment d x (location_slots s) [] 0) (sym code)
    (silent_segment d (with_instr (with_instr d i) j) (location_slots s) (i ∷ j ∷ []) (append_assoc d.instrs (i ∷ []) (j ∷ [])) (goes_same d) (omega arith)
    (All-cons (Silent (location_slots s)) i (j ∷ []) (publish_silent (location_slots s) i e (ap (among (location_slots s)) first ∙ low_there s))
    (All-cons (Silent (location_slots s)) j [] (publish_silent (location_slots s) j f (ap (among (location_slots s)) next ∙ high_there s many)) (All-nil (Silent (location_slots s))))))
