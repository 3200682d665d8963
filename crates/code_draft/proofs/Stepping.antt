-- The single steps of growing as segments.
use Rattle.std.proofs.Common.{◌≡◌, ◌==◌, ℕ, ◌+◌, ◌<◌, ◌≤◌, Bool, true, false, nat_lt, if◌then◌else◌, List, [], ◌∷◌, ◌++◌, length, slice_get, Some, refl, sym, subst, ap, ◌∙◌, arith, ⊎_elim, length-append, append_assoc, true≢false}
use Rattle.std.proofs.lemmas.List.{append-nil}
use Rattle.std.proofs.lemmas.List.Elements.{All-cons, All-nil}
use Rattle.std.proofs.lemmas.Option.{slice_get-get_or}
use Rattle.std.proofs.Math.Seq.{get_or-append_seam}
use Rattle.bit_words.specs.declared.value.Kind.{Kind}
use Rattle.flat_code.specs.declared.instr.Op.{Op}
use Rattle.flat_code.specs.declared.instr.Op.TheVariants as op
use Rattle.flat_code.specs.declared.instr.Instr.{Instr}
use Rattle.flat_code.specs.declared.instr.Form.{Form}
use Rattle.flat_code.specs.declared.instr.Port.{Port}
use Rattle.flat_code.specs.declared.instr.Location.{Location}
use Rattle.flat_code.specs.declared.instr.Wide.{Wide}
use Rattle.flat_code.specs.Fine.{among, reads_on, reads_of, writes_on, writes_of, wide_reads, wide_writes, slots_of, location_slots, further_words}
use Rattle.code_draft.specs.declared.draft.Draft.{Draft}
use Rattle.code_draft.specs.Drafts.{with_instr, with_wide, with_slots, location_from, computes, at_slot}
use Rattle.code_draft.specs.Segments.{GoesOn, Step}
use Rattle.code_draft.proofs.Growing.{two_among, one_among, among_first, among_second}
use Rattle.code_draft.proofs.Worked.{not_so, writes_one, same_reads}
use Rattle.code_draft.proofs.Segmenting.{either, left_so, none_among}
use Rattle.code_draft.proofs.Joining.{goes_same, small_step}

-- Slots of locations

pub location_few : (s : Location) → length (location_slots s) ≤ 2
location_few s = by_width (nat_lt 64 s.width)
  where
    by_width : (b : Bool) → length (if b then s.low ∷ s.high ∷ [] else s.low ∷ []) ≤ 2
    by_width true = omega arith
    by_width false = omega arith

pub location_both : (s : Location) (k : ℕ) → among (location_slots s) k ≡ true → among (s.low ∷ s.high ∷ []) k ≡ true
location_both s k = by_width (nat_lt 64 s.width)
  where
    by_width : (b : Bool) → among (if b then s.low ∷ s.high ∷ [] else s.low ∷ []) k ≡ true → among (s.low ∷ s.high ∷ []) k ≡ true
    by_width true e = e
    by_width false e = ⊎_elim (λ h. left_so (k == s.low) (among (s.high ∷ []) k) h) (λ h. absurd (true≢false (sym h))) (either (k == s.low) false e)

location_range : (d : Draft) (s : Location) (kind : Kind) (width : ℕ) → location_from d.slots kind width s → (k : ℕ) → among (s.low ∷ s.high ∷ []) k ≡ true → (d.slots ≤ k) × (k < d.slots + (further_words width + 1))
location_range d s kind width at k e =
    let low = at.1 in
    let high = at.2 in
    ⊎_elim (λ h. (omega (arith, h, low), omega (arith, h, low))) (λ h. (omega (arith, h, high), omega (arith, h, high))) (two_among k s.low s.high e)

-- An instruction that reads no slot and writes its target.
pub record Quiet (i : Instr) : Type 0 where
  pub reads : (ports : List Port) (wides : List Wide) → reads_of ports wides i ≡ []
  pub writes : (wides : List Wide) → writes_of wides i ≡ i.target ∷ []

pub quiet_constant : (i : Instr) → i.op ≡ op.Constant → Quiet i
quiet_constant i e = record { reads = λ ports wides. ap (λ o. reads_on o ports wides i) e; writes = λ wides. ap (λ o. writes_on o wides i) e }

pub quiet_load : (i : Instr) → i.op ≡ op.Load → Quiet i
quiet_load i e = record { reads = λ ports wides. ap (λ o. reads_on o ports wides i) e; writes = λ wides. ap (λ o. writes_on o wides i) e }

pub quiet_input : (i : Instr) → i.op ≡ op.Input → Quiet i
quiet_input i e = record { reads = λ ports wides. ap (λ o. reads_on o ports wides i) e; writes = λ wides. ap (λ o. writes_on o wides i) e }

pub quiet_high : (i : Instr) → i.op ≡ op.InputHigh → Quiet i
quiet_high i e = record { reads = λ ports wides. ap (λ o. reads_on o ports wides i) e; writes = λ wides. ap (λ o. writes_on o wides i) e }

quiet_among : {A : Type 0} (i : Instr) (ports : List Port) (wides : List Wide) → Quiet i → (k : ℕ) → among (reads_of ports wides i) k ≡ true → A
quiet_among i ports wides q k e = none_among k (subst (λ xs. among xs k ≡ true) (q.reads ports wides) e)

quiet_target : (i : Instr) (wides : List Wide) (own : List ℕ) → Quiet i → among own i.target ≡ true → (k : ℕ) → among (writes_of wides i) k ≡ true → among own k ≡ true
quiet_target i wides own q at k e = subst (λ j. among own j ≡ true) (sym (one_among k i.target (subst (λ xs. among xs k ≡ true) (q.writes wides) e))) at

-- Fetches of one word and of two.
module _ (d : Draft) (s : Location) (kind : Kind) (width : ℕ) (at : location_from d.slots kind width s) where
  abbrev One : Instr → Draft
  One i = with_instr (with_slots d (further_words width + 1)) i

  pub one_fetched : (i : Instr) → Quiet i → i.target ≡ s.low → Step d (One i) [] (location_slots s) 2
  one_fetched i q to =
      let own = s.low ∷ s.high ∷ [] in
      let target : among own i.target ≡ true = ap (among own) to ∙ among_first s.low (s.high ∷ []) in
      small_step d (One i) [] (location_slots s) own 2 (i ∷ []) refl (goes_same d) (omega arith) (location_range d s kind width at) (omega arith) (location_both s) (location_few s)
      (λ ports wides on. All-cons (λ j. (k : ℕ) → k < d.slots → among (reads_of ports wides j) k ≡ true → among [] k ≡ true) i [] (λ k lt e. quiet_among i ports wides q k e)
      (All-nil (λ j. (k : ℕ) → k < d.slots → among (reads_of ports wides j) k ≡ true → among [] k ≡ true)))
      (λ ports wides on. All-nil (λ j. (k : ℕ) → among (reads_of ports wides j) k ≡ true → d.slots ≤ k))
      (λ ports wides on. All-cons (λ j. (k : ℕ) → among (writes_of wides j) k ≡ true → among own k ≡ true) i [] (quiet_target i wides own q target)
      (All-nil (λ j. (k : ℕ) → among (writes_of wides j) k ≡ true → among own k ≡ true)))

  pub two_fetched : (i j : Instr) → Quiet i → Quiet j → i.target ≡ s.low → j.target ≡ s.high → Step d (with_instr (One i) j) [] (location_slots s) 2
  two_fetched i j q r to up =
      let own = s.low ∷ s.high ∷ [] in
      let low : among own i.target ≡ true = ap (among own) to ∙ among_first s.low (s.high ∷ []) in
      let high : among own j.target ≡ true = ap (among own) up ∙ among_second s.low s.high in
      small_step d (with_instr (One i) j) [] (location_slots s) own 2 (i ∷ j ∷ []) (append_assoc d.instrs (i ∷ []) (j ∷ [])) (goes_same d) (omega arith) (location_range d s kind width at) (omega arith) (location_both s)
      (location_few s)
      (λ ports wides on. All-cons (λ x. (k : ℕ) → k < d.slots → among (reads_of ports wides x) k ≡ true → among [] k ≡ true) i (j ∷ []) (λ k lt e. quiet_among i ports wides q k e)
      (All-cons (λ x. (k : ℕ) → k < d.slots → among (reads_of ports wides x) k ≡ true → among [] k ≡ true) j [] (λ k lt e. quiet_among j ports wides r k e)
      (All-nil (λ x. (k : ℕ) → k < d.slots → among (reads_of ports wides x) k ≡ true → among [] k ≡ true))))
      (λ ports wides on. All-cons (λ x. (k : ℕ) → among (reads_of ports wides x) k ≡ true → d.slots ≤ k) j [] (λ k e. quiet_among j ports wides r k e)
      (All-nil (λ x. (k : ℕ) → among (reads_of ports wides x) k ≡ true → d.slots ≤ k)))
      (λ ports wides on. All-cons (λ x. (k : ℕ) → among (writes_of wides x) k ≡ true → among own k ≡ true) i (j ∷ []) (quiet_target i wides own q low)
      (All-cons (λ x. (k : ℕ) → among (writes_of wides x) k ≡ true → among own k ≡ true) j [] (quiet_target j wides own r high)
      (All-nil (λ x. (k : ℕ) → among (writes_of wides x) k ≡ true → among own k ≡ true))))

  -- A wide value.
  pub wide_step : (form : Form) (operands : List Location) (i : Instr) → i.op ≡ op.Wide → i.first ≡ length d.wides
      → Step d (with_instr (with_wide (with_slots d (further_words width + 1)) (record { form = form; operands = operands; target = s })) i) (slots_of operands) (location_slots s) 2
  wide_step form operands i e first =
      let w : Wide = record { form = form; operands = operands; target = s } in
      let new = with_instr (with_wide (with_slots d (further_words width + 1)) w) i in
      let own = s.low ∷ s.high ∷ [] in
      small_step d new (slots_of operands) (location_slots s) own 2 (i ∷ []) refl (record { further_ports = []; further_wides = w ∷ []; ports_on = sym (append-nil d.ports); wides_on = refl }) (omega arith)
      (location_range d s kind width at) (omega arith) (location_both s) (location_few s)
      (λ ports wides on. All-cons (λ j. (k : ℕ) → k < d.slots → among (reads_of ports wides j) k ≡ true → among (slots_of operands) k ≡ true) i []
      (λ k lt r. subst (λ xs. among xs k ≡ true) (ap (λ o. reads_on o ports wides i) e ∙ ap wide_reads (entry w new wides ports on)) r)
      (All-nil (λ j. (k : ℕ) → k < d.slots → among (reads_of ports wides j) k ≡ true → among (slots_of operands) k ≡ true)))
      (λ ports wides on. All-nil (λ j. (k : ℕ) → among (reads_of ports wides j) k ≡ true → d.slots ≤ k))
      (λ ports wides on. All-cons (λ j. (k : ℕ) → among (writes_of wides j) k ≡ true → among own k ≡ true) i []
      (λ k r. location_both s k (subst (λ xs. among xs k ≡ true) (ap (λ o. writes_on o wides i) e ∙ ap wide_writes (entry w new wides ports on)) r))
      (All-nil (λ j. (k : ℕ) → among (writes_of wides j) k ≡ true → among own k ≡ true)))
    where
      last_of : (ws zs : List Wide) (w : Wide) → slice_get (ws ++ w ∷ zs) (length ws) ≡ Some w
      last_of ws zs w =
          let long = length-append ws (w ∷ zs) in
          slice_get-get_or (ws ++ w ∷ zs) (length ws) w (omega (arith, long)) ∙ ap Some (get_or-append_seam ws w zs w)

      entry : (w : Wide) (new : Draft) (wides : List Wide) (ports : List Port) → GoesOn (with_instr (with_wide (with_slots d (further_words width + 1)) w) i) ports wides → slice_get wides i.first ≡ Some w
      entry w new wides ports on =
          ap (slice_get wides) first ∙ (ap (λ ws. slice_get ws (length d.wides)) (on.wides_on ∙ append_assoc d.wides (w ∷ []) on.further_wides) ∙ last_of d.wides on.further_wides w)

-- A word that is computed.

plain_reads : (o : Op) (ports ports2 : List Port) (wides wides2 : List Wide) (i : Instr) → computes o ≡ true → reads_on o ports wides i ≡ reads_on o ports2 wides2 i
plain_reads op.PublishAt ports ports2 wides wides2 i e = not_so e
plain_reads op.Wide ports ports2 wides wides2 i e = not_so e
plain_reads _ ports ports2 wides wides2 i e = refl

-- what an instruction reads that computes a word, over any tables
pub computed_reads : (i : Instr) (slot : ℕ) (outer : List ℕ) → computes i.op ≡ true → ((k : ℕ) → among (reads_of [] [] i) k ≡ true → among outer k ≡ true) → (ports : List Port) (wides : List Wide) (k : ℕ)
    → among (reads_of ports wides (at_slot slot i)) k ≡ true → among outer k ≡ true
computed_reads i slot outer plain out ports wides k e = out k (subst (λ xs. among xs k ≡ true) (same_reads i.op ports wides i slot ∙ plain_reads i.op ports [] wides [] i plain) e)

pub computed_writes : (i : Instr) (slot : ℕ) (wides : List Wide) → computes i.op ≡ true → writes_of wides (at_slot slot i) ≡ slot ∷ []
computed_writes i slot wides plain = writes_one i.op wides (at_slot slot i) plain

pub computed_step : (d : Draft) (i : Instr) (outer : List ℕ) → computes i.op ≡ true → ((k : ℕ) → among (reads_of [] [] i) k ≡ true → among outer k ≡ true)
    → Step d (with_instr (with_slots d 1) (at_slot d.slots i)) outer (d.slots ∷ []) 2
computed_step d i outer plain out =
    let j = at_slot d.slots i in
    let own = d.slots ∷ [] in
    small_step d (with_instr (with_slots d 1) j) outer own own 2 (j ∷ []) refl (goes_same d) (omega arith) (λ k e. let is = one_among k d.slots e in (omega (arith, is), omega (arith, is))) (omega arith) (λ k e. e)
    (omega arith)
    (λ ports wides on. All-cons (λ x. (k : ℕ) → k < d.slots → among (reads_of ports wides x) k ≡ true → among outer k ≡ true) j [] (λ k lt e. computed_reads i d.slots outer plain out ports wides k e)
    (All-nil (λ x. (k : ℕ) → k < d.slots → among (reads_of ports wides x) k ≡ true → among outer k ≡ true)))
    (λ ports wides on. All-nil (λ x. (k : ℕ) → among (reads_of ports wides x) k ≡ true → d.slots ≤ k))
    (λ ports wides on. All-cons (λ x. (k : ℕ) → among (writes_of wides x) k ≡ true → among own k ≡ true) j []
    (λ k e. subst (λ xs. among xs k ≡ true) (computed_writes i d.slots wides plain) e)
    (All-nil (λ x. (k : ℕ) → among (writes_of wides x) k ≡ true → among own k ≡ true)))
