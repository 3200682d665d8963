-- The steps of pairs: at most two of the words that they compute are live at once.
use Rattle.std.proofs.Common.{◌≡◌, ℕ, ◌+◌, ◌<◌, true, List, [], ◌∷◌, refl, sym, subst, ap, ap₂, ◌∙◌, arith, ⊎_elim, inl, append_assoc}
use Rattle.std.proofs.lemmas.List.Elements.{All-cons, All-nil}
use Rattle.flat_code.specs.declared.instr.Op.TheVariants as op
use Rattle.flat_code.specs.declared.instr.Instr.{Instr}
use Rattle.flat_code.specs.declared.instr.Location.{Location}
use Rattle.flat_code.specs.Fine.{among, reads_of, writes_of, slots_of}
use Rattle.code_draft.specs.declared.draft.Draft.{Draft}
use Rattle.code_draft.specs.Drafts.{with_instr, with_slots, at_slot}
use Rattle.code_draft.specs.Segments.{Segment}
use Rattle.code_draft.proofs.Growing.{two_among}
use Rattle.code_draft.proofs.Segmenting.{among_left, among_right}
use Rattle.code_draft.proofs.Joining.{goes_same, step_then}
use Rattle.code_draft.proofs.Stepping.{computed_reads, computed_writes, computed_step}
use Rattle.code_emit.specs.declared.pairs.Pair.{Pair}
use Rattle.code_emit.specs.Working.{working, from_slots}
use Rattle.code_emit.specs.Ways.{Given, IsPair}
use Rattle.code_emit.proofs.Reading.{given_reads, last_reads}
use Rattle.code_emit.proofs.Behind.{then_step, small_segment}

-- the code with one computed word more
abbrev pub next_of : Draft → Instr → Draft
next_of d i = with_instr (with_slots d 1) (at_slot d.slots i)

module _ (locations : List Location) (R : Given) (p : Pair) (pair : IsPair p locations R) where
  -- both words
  two_words : (d : Draft) → Segment d (next_of (next_of d p.first) p.second) (slots_of locations) (d.slots ∷ (d.slots + 1) ∷ []) 2
  two_words d =
      let n = d.slots in
      let x = at_slot n p.first in
      let y = at_slot (n + 1) p.second in
      let own = n ∷ (n + 1) ∷ [] in
      let outer = slots_of locations in
      let f = given_reads locations R p.first pair.first_computes in
      let g = given_reads locations R p.second pair.second_computes in
      small_segment d (next_of (next_of d p.first) p.second) outer own own 2 (x ∷ y ∷ []) (append_assoc d.instrs (x ∷ []) (y ∷ [])) (goes_same d) (omega arith)
      (λ k e. ⊎_elim (λ is. (omega (arith, is), omega (arith, is))) (λ is. (omega (arith, is), omega (arith, is))) (two_among k n (n + 1) e))
      (omega arith) (λ k e. e) (omega arith)
      (λ ports wides. All-cons (λ z. (k : ℕ) → k < n → among (reads_of ports wides z) k ≡ true → among outer k ≡ true) x (y ∷ []) (λ k lt e. computed_reads p.first n outer f.0 f.1 ports wides k e)
      (All-cons (λ z. (k : ℕ) → k < n → among (reads_of ports wides z) k ≡ true → among outer k ≡ true) y [] (λ k lt e. computed_reads p.second (n + 1) outer g.0 g.1 ports wides k e)
      (All-nil (λ z. (k : ℕ) → k < n → among (reads_of ports wides z) k ≡ true → among outer k ≡ true))))
      (λ ports wides. All-cons (λ z. (k : ℕ) → among (writes_of wides z) k ≡ true → among own k ≡ true) x (y ∷ [])
      (λ k e. among_left (n ∷ []) ((n + 1) ∷ []) k (subst (λ xs. among xs k ≡ true) (computed_writes p.first n wides f.0) e))
      (All-cons (λ z. (k : ℕ) → among (writes_of wides z) k ≡ true → among own k ≡ true) y []
      (λ k e. among_right (n ∷ []) ((n + 1) ∷ []) k (subst (λ xs. among xs k ≡ true) (computed_writes p.second (n + 1) wides g.0) e))
      (All-nil (λ z. (k : ℕ) → among (writes_of wides z) k ≡ true → among own k ≡ true))))

  -- and what is computed of them
  third_word : (d : Draft) → Segment d (next_of (next_of (next_of d p.first) p.second) (from_slots d.slots (d.slots + 1) p.last)) (slots_of locations) ((d.slots + 1 + 1) ∷ []) 2
  third_word d =
      let n = d.slots in
      let own = n ∷ (n + 1) ∷ [] in
      let between = next_of (next_of d p.first) p.second in
      let last = from_slots n (n + 1) p.last in
      let h = last_reads p.last n (n + 1) pair.last_computes in
      then_step d between (next_of between last) (slots_of locations) own own ((n + 1 + 1) ∷ []) (slots_of locations) 2 2 2 (two_words d) (computed_step between last own h.0 h.1) (λ k e. inl e) (λ k e. e)
      (omega arith) (omega arith)

  pub pair_segment : (d e f g : Draft) (j k slot : ℕ) → e ≡ next_of d p.first → j ≡ d.slots → f ≡ next_of e p.second → k ≡ e.slots → g ≡ next_of f (from_slots j k p.last) → slot ≡ f.slots
      → Segment d g (slots_of locations) (slot ∷ []) 2
  pair_segment d e f g j k slot first at_first second at_second third at_third =
      let one = next_of d p.first in
      let two = next_of one p.second in
      let three = next_of two (from_slots d.slots (d.slots + 1) p.last) in
      let both : f ≡ two = second ∙ ap (λ x. next_of x p.second) first in
      let up : k ≡ d.slots + 1 = at_second ∙ ap (λ (x : Draft). x.slots) first in
      let all : g ≡ three = third ∙ (ap (λ x. next_of x (from_slots j k p.last)) both ∙ ap₂ (λ m n. next_of two (from_slots m n p.last)) at_first up) in
      let place : slot ≡ d.slots + 1 + 1 = at_third ∙ ap (λ (x : Draft). x.slots) both in
      subst (λ x. Segment d x (slots_of locations) (slot ∷ []) 2) (sym all) (subst (λ n. Segment d three (slots_of locations) (n ∷ []) 2) (sym place) (third_word d))

-- the other bit
pub turned_segment : (d g h : Draft) (outer : List ℕ) (third slot : ℕ) → Segment d g outer (third ∷ []) 2 → h ≡ next_of g (working op.Not 0 third 0 0 1) → slot ≡ g.slots → Segment d h outer (slot ∷ []) 2
turned_segment d g h outer third slot seg code place =
    let i = working op.Not 0 third 0 0 1 in
    subst (λ x. Segment d x outer (slot ∷ []) 2) (sym code)
    (subst (λ n. Segment d (next_of g i) outer (n ∷ []) 2) (sym place)
    (step_then d g (next_of g i) outer (third ∷ []) (g.slots ∷ []) 2 2 2 seg (computed_step g i (third ∷ []) refl (λ k e. e)) (omega arith) (omega arith)))
