-- Instructions that only read, behind a segment.
use Rattle.std.proofs.Common.{◌≡◌, ℕ, ◌<◌, ◌≤◌, true, ◌&&◌, List, [], ◌∷◌, ◌++◌, length, All, ap, ◌∙◌, arith, ⊎_elim, append_assoc}
use Rattle.std.proofs.lemmas.List.Elements.{All-append}
use Rattle.flat_code.specs.declared.instr.Instr.{Instr}
use Rattle.flat_code.specs.declared.instr.Port.{Port}
use Rattle.flat_code.specs.declared.instr.Wide.{Wide}
use Rattle.flat_code.specs.Fine.{Known, among, more, nothing, reads_of, writes_of, written}
use Rattle.code_draft.specs.declared.draft.Draft.{Draft}
use Rattle.code_draft.specs.Segments.{is_read, FewLive, Segment}
use Rattle.code_draft.proofs.Segmenting.{either, both_so, none_among, head_all, tail_all, map_all, read_cases, written_cases, few_append}
use Rattle.code_draft.proofs.Joining.{goes_then}
use Rattle.code_draft.specs.Pieces.{IsReader, OnlyReads}

module _ (ports : List Port) (wides : List Wide) (n first last : ℕ) (slots : List ℕ) (few : length slots ≤ n) (after : Known)
    (none : (k : ℕ) → first ≤ k → k < last → after k ≡ true → ⊥) where
  -- what the rest reads
  read_rest : (is : List Instr) (k : ℕ) → All (IsReader ports wides slots) is → first ≤ k → k < last → is_read ports wides after is k ≡ true → among slots k ≡ true
  read_rest is k all low high e = ⊎_elim (λ s. s) (λ a. absurd (none k low high a))
      (read_cases ports wides after (λ j. among slots j ≡ true) is (map_all (IsReader ports wides slots) (λ i. (j : ℕ) → among (reads_of ports wides i) j ≡ true → among slots j ≡ true) is (λ i h. h.reads) all) k e)

  -- only these slots are live
  few_read : (is : List Instr) (known : Known) → ((k : ℕ) → known k ≡ true → k < last) → All (IsReader ports wides slots) is → FewLive n first known ports wides after is
  few_read [] known inside all = tt
  few_read (i ∷ is) known inside all =
      let here = head_all (IsReader ports wides slots) i is all in
      let rest = tail_all (IsReader ports wides slots) i is all in (
        record {
          slots = slots;
          few = few;
          all = λ k low e. ⊎_elim
              (λ w. absurd (here.quiet k w))
              (λ b. let parts = both_so (known k) (is_read ports wides after is k) b in read_rest is k rest low (inside k parts.0) parts.1)
              (either (among (writes_of wides i) k) (known k && is_read ports wides after is k) e);
        },
        few_read is (more (writes_of wides i) known) (λ k e. ⊎_elim (λ w. absurd (here.quiet k w)) (λ h. inside k h) (either (among (writes_of wides i) k) (known k) e)) rest,
      )

pub segment_read : (outer kept : List ℕ) (n : ℕ) (a b c : Draft) → Segment a b outer kept n → OnlyReads b c kept → Segment a c outer [] n
segment_read outer kept n a b c s r =
    let from = s.slots in
    let same = r.same in
    record {
      instrs = s.instrs ++ r.instrs;
      is = r.is ∙ (ap (λ is. is ++ r.instrs) s.is ∙ append_assoc a.instrs s.instrs r.instrs);
      tables = goes_then a b c.ports c.wides s.tables r.tables;
      slots = omega (arith, from, same);
      each = λ ports wides on.
          let st = s.each ports wides (goes_then b c ports wides r.tables on) in
          let readers = r.each ports wides on in
          record {
            reads = All-append (λ i. (k : ℕ) → k < a.slots → among (reads_of ports wides i) k ≡ true → among outer k ≡ true) s.instrs r.instrs st.reads
                (map_all (IsReader ports wides kept) (λ i. (k : ℕ) → k < a.slots → among (reads_of ports wides i) k ≡ true → among outer k ≡ true) r.instrs
                (λ i h k lt e. ⊎_elim (λ own. let low = own.0 in absurd (omega (arith, lt, low))) (λ o. o) (s.there k (h.reads k e))) readers);
            writes = All-append (λ i. (k : ℕ) → among (writes_of wides i) k ≡ true → (a.slots ≤ k) × (k < c.slots)) s.instrs r.instrs
                (map_all (λ i. (k : ℕ) → among (writes_of wides i) k ≡ true → (a.slots ≤ k) × (k < b.slots)) (λ i. (k : ℕ) → among (writes_of wides i) k ≡ true → (a.slots ≤ k) × (k < c.slots)) s.instrs
                (λ i h k e. let own = h k e in let low = own.0 in let high = own.1 in (low, omega (arith, high, same))) st.writes)
                (map_all (IsReader ports wides kept) (λ i. (k : ℕ) → among (writes_of wides i) k ≡ true → (a.slots ≤ k) × (k < c.slots)) r.instrs (λ i h k e. absurd (h.quiet k e)) readers);
            few = λ after ok. few_append ports wides n a.slots after s.instrs r.instrs nothing
                (st.few (is_read ports wides after r.instrs)
                (λ k low high e. read_rest ports wides n a.slots c.slots kept s.few after (λ j l h d. none_among j (ok j l h d)) r.instrs k readers low (omega (arith, high, same)) e))
                (few_read ports wides n a.slots c.slots kept s.few after (λ j l h d. none_among j (ok j l h d)) r.instrs (written nothing wides s.instrs)
                (λ k e. ⊎_elim (λ own. let high = own.1 in omega (arith, high, same)) (λ no. none_among k no)
                (written_cases (λ j. (a.slots ≤ j) × (j < b.slots)) wides s.instrs nothing st.writes k e))
                readers);
          };
      there = λ k e. none_among k e;
      few = omega arith;
    }
