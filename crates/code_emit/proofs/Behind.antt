-- Steps behind segments, and instructions that read older slots one after the other.
use Rattle.std.proofs.Common.{◌≡◌, ℕ, ◌<◌, ◌≤◌, true, true≢false, List, ◌++◌, length, All, sym, subst, ap, ◌∙◌, arith, ⊎_elim, ◌⊎◌, inl, inr, append_assoc}
use Rattle.flat_code.specs.declared.instr.Instr.{Instr}
use Rattle.flat_code.specs.declared.instr.Port.{Port}
use Rattle.flat_code.specs.declared.instr.Wide.{Wide}
use Rattle.flat_code.specs.Fine.{among, nothing, reads_of, writes_of, written}
use Rattle.code_draft.specs.declared.draft.Draft.{Draft}
use Rattle.code_draft.specs.Segments.{FewLive, GoesOn, Segment, Step}
use Rattle.code_draft.proofs.Segmenting.{map_all, few_written}
use Rattle.code_draft.proofs.Joining.{Joins, goes_then, stretch_then, fresh_few}

-- A step on what code keeps and on what stands there before
pub then_step : (a b c : Draft) (O K P Q W : List ℕ) (m n t : ℕ) → Segment a b O K m → Step b c P Q n → ((k : ℕ) → among P k ≡ true → (among K k ≡ true) ⊎ ((k < a.slots) × (among W k ≡ true)))
    → ((k : ℕ) → among O k ≡ true → among W k ≡ true) → m ≤ t → n ≤ t → Segment a c W Q t
then_step a b c O K P Q W m n t f s within outer le next =
    let g = s.segment in
    let lower = f.slots in
    let upper = g.slots in
    let in_first : (k : ℕ) → a.slots ≤ k → among P k ≡ true → among K k ≡ true = λ k low e. ⊎_elim (λ h. h) (λ h. let lt = h.0 in absurd (omega (arith, lt, low))) (within k e) in
    let join : Joins a.slots b.slots c.slots O K P Q W Q = record {
      lower = lower;
      upper = upper;
      first_outer = λ k lt e. outer k e;
      second_outer = λ k lt e. ⊎_elim (λ h. ⊎_elim (λ own. let low = own.0 in absurd (omega (arith, low, lt))) (λ out. outer k out) (f.there k h)) (λ h. h.1) (within k e);
      inside = λ k low up e. in_first k low e;
      kept_first = λ k low up e. ⊎_elim (λ h. let out = h.0 in absurd (omega (arith, out, up))) (λ h. in_first k low h) (g.there k e);
      kept_second = λ k low up e. e;
    } in
    record {
      instrs = f.instrs ++ g.instrs;
      is = g.is ∙ (ap (λ xs. xs ++ g.instrs) f.is ∙ append_assoc a.instrs f.instrs g.instrs);
      tables = goes_then a b c.ports c.wides f.tables g.tables;
      slots = omega (arith, lower, upper);
      each = λ ports wides on.
          let first = f.each ports wides (goes_then b c ports wides g.tables on) in
          let second = g.each ports wides on in
          stretch_then a.slots b.slots c.slots O K P Q W Q m n t join ports wides f.instrs g.instrs first second le (λ after ok. ⊎_elim
          (λ none. subst (λ xs. FewLive t a.slots (written nothing wides f.instrs) ports wides after xs) (sym none) tt)
          (λ own. fresh_few a.slots b.slots c.slots O K P Q W Q m n t join ports wides f.instrs g.instrs first second next (s.once ports wides on) own after ok)
          s.fresh);
      there = λ k e. ⊎_elim
          (λ h. let low = h.0 in inl (omega (arith, low, lower), h.1))
          (λ h. ⊎_elim
          (λ kept. ⊎_elim (λ own. let up = own.1 in inl (own.0, omega (arith, up, upper))) (λ out. inr (outer k out)) (f.there k kept))
          (λ old. inr old.1)
          (within k h))
          (g.there k e);
      few = (let some = g.few in omega (arith, some, next));
    }

-- instructions that write few slots, of which each may read older ones
pub small_segment : (d new : Draft) (outer kept own : List ℕ) (n : ℕ) (is : List Instr) → new.instrs ≡ d.instrs ++ is → GoesOn d new.ports new.wides → d.slots ≤ new.slots
    → ((k : ℕ) → among own k ≡ true → (d.slots ≤ k) × (k < new.slots)) → length own ≤ n → ((k : ℕ) → among kept k ≡ true → among own k ≡ true) → length kept ≤ n
    → ((ports : List Port) (wides : List Wide) → All (λ i. (k : ℕ) → k < d.slots → among (reads_of ports wides i) k ≡ true → among outer k ≡ true) is)
    → ((ports : List Port) (wides : List Wide) → All (λ i. (k : ℕ) → among (writes_of wides i) k ≡ true → among own k ≡ true) is) → Segment d new outer kept n
small_segment d new outer kept own n is code tables slots range few kept_own kept_few reads writes = record {
  instrs = is;
  is = code;
  tables = tables;
  slots = slots;
  each = λ ports wides on. record {
    reads = reads ports wides;
    writes = map_all (λ i. (k : ℕ) → among (writes_of wides i) k ≡ true → among own k ≡ true) (λ i. (k : ℕ) → among (writes_of wides i) k ≡ true → (d.slots ≤ k) × (k < new.slots)) is (λ i h k e. range k (h k e))
        (writes ports wides);
    few = λ after ok. few_written ports wides n d.slots after own few is nothing (writes ports wides) (λ k e. absurd (true≢false (sym e)));
  };
  there = λ k e. inl (range k (kept_own k e));
  few = kept_few;
}
