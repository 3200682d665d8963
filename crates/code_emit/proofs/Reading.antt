-- What ways of making words read: they work on every draft where the operands stand, and so also on one that has written nothing else.
use Rattle.std.proofs.Common.{◌≡◌, ◌==◌, ℕ, zero, suc, ◌+◌, ◌<◌, ◌≤◌, true, false, nat_lt, if◌then◌else◌, List, [], ◌∷◌, map, length, get_or, All, sym, subst, ap, ◌∙◌, arith, ⊎_elim, ◌⊎◌, inl, inr, true≢false, append_assoc}
use Rattle.std.proofs.lemmas.Bool.{le-ltb}
use Rattle.std.proofs.lemmas.Grind.{common_steps}
use Rattle.std.proofs.lemmas.List.Elements.{All-cons, All-nil}
use Rattle.bit_words.specs.declared.value.Kind.{Kind}
use Rattle.ground_net.specs.Shapes.{Shape}
use Rattle.flat_code.specs.declared.instr.Op.TheVariants as op
use Rattle.flat_code.specs.declared.instr.Instr.{Instr}
use Rattle.flat_code.specs.declared.instr.Location.{Location}
use Rattle.flat_code.specs.Fine.{Known, AreKnown, IsLocation, among, more, nothing, written, reads_of, writes_of, slots_of, location_slots}
use Rattle.flat_code.proofs.Frames.{location_more}
use Rattle.code_draft.specs.declared.draft.Draft.{Draft}
use Rattle.code_draft.specs.Drafts.{Stands, Computes, written_in, computes, with_instr, with_slots, at_slot}
use Rattle.code_draft.specs.Segments.{Step}
use Rattle.code_draft.proofs.Growing.{one_among, among_first, among_second}
use Rattle.code_draft.proofs.Segmenting.{either, left_so, right_so, among_left, among_right, none_among, head_all, tail_all}
use Rattle.code_draft.proofs.Joining.{goes_same, step_not, small_step}
use Rattle.code_draft.proofs.Stepping.{location_few, computed_reads, computed_writes, computed_step}
use Rattle.code_emit.specs.Working.{from_slot, from_slots, at_one_slot}
use Rattle.code_emit.specs.Ways.{Given, Rests, Operates, Follow}

-- Known slots

among_at : (xs : List ℕ) (j d : ℕ) → j < length xs → among xs (get_or xs j d) ≡ true
among_at [] j d lt = absurd (omega (arith, lt))
among_at (x ∷ xs) zero d lt = among_first x xs
among_at (x ∷ xs) (suc j) d lt = right_so (get_or xs j d == x) (among xs (get_or xs j d)) (among_at xs j d (omega (arith, lt)))

among_known : (known : Known) (xs : List ℕ) → ((k : ℕ) → among xs k ≡ true → known k ≡ true) → AreKnown known xs
among_known known xs h = λ j d lt. h (get_or xs j d) (among_at xs j d lt)

same_number : (a b : ℕ) → (a == b) ≡ true → a ≡ b
same_number a b e = grind (arith, common_steps)

known_among : (known : Known) (xs : List ℕ) (k : ℕ) → AreKnown known xs → among xs k ≡ true → known k ≡ true
known_among known [] k a e = none_among k e
known_among known (x ∷ xs) k a e = ⊎_elim
    (λ h. ap known (same_number k x h) ∙ head_all (λ j. known j ≡ true) x xs a)
    (λ h. known_among known xs k (tail_all (λ j. known j ≡ true) x xs a) h)
    (either (k == x) (among xs k) e)

-- Code that writes these slots, and nothing else

abbrev constant_at : ℕ → Instr
constant_at k = record { op = op.Constant; shift = 0; first = 0; second = 0; third = 0; target = k; mask = 0 }

abbrev holding : ℕ → List ℕ → Draft
holding n xs = record { instrs = map constant_at xs; ports = []; wides = []; slots = n; words = 0 }

writes_these : (xs : List ℕ) (known : Known) (k : ℕ) → (among xs k ≡ true) ⊎ (known k ≡ true) → written known [] (map constant_at xs) k ≡ true
writes_these [] known k e = ⊎_elim (λ h. none_among k h) (λ h. h) e
writes_these (x ∷ xs) known k e = ⊎_elim
    (λ h. ⊎_elim
    (λ here. writes_these xs (more (x ∷ []) known) k (inr (left_so (among (x ∷ []) k) (known k) (left_so (k == x) false here))))
    (λ later. writes_these xs (more (x ∷ []) known) k (inl later))
    (either (k == x) (among xs k) h))
    (λ h. writes_these xs (more (x ∷ []) known) k (inr (right_so (among (x ∷ []) k) (known k) h)))
    e

writes_only : (xs : List ℕ) (known : Known) (k : ℕ) → written known [] (map constant_at xs) k ≡ true → (among xs k ≡ true) ⊎ (known k ≡ true)
writes_only [] known k e = inr e
writes_only (x ∷ xs) known k e = ⊎_elim
    (λ h. inl (right_so (k == x) (among xs k) h))
    (λ h. ⊎_elim (λ here. inl (ap (λ j. among (x ∷ xs) j) (one_among k x here) ∙ among_first x xs)) (λ before. inr before) (either (among (x ∷ []) k) (known k) h))
    (writes_only xs (more (x ∷ []) known) k e)

only_these : (n : ℕ) (xs : List ℕ) (k : ℕ) → written_in (holding n xs) k ≡ true → among xs k ≡ true
only_these n xs k e = ⊎_elim (λ h. h) (λ h. absurd (true≢false (sym h))) (writes_only xs nothing k e)

-- so many slots that all of these are there
room_for : (ss : List Location) → (n : ℕ) × All (IsLocation n) ss
room_for [] = (0, All-nil (IsLocation 0))
room_for (s ∷ ss) =
    let rest = room_for ss in
    let m : ℕ = rest.0 in
    let n : ℕ = m + (s.low + s.high + 1) in
    (n, All-cons (IsLocation n) s ss (record { low = omega arith; high = omega arith }) (λ k t lt. location_more m n (get_or ss k t) (omega arith) (rest.1 k t lt)))

all_stand : (n : ℕ) (xs : List ℕ) (ss : List Location) → All (IsLocation n) ss → ((k : ℕ) → among (slots_of ss) k ≡ true → among xs k ≡ true) → All (Stands (holding n xs)) ss
all_stand n xs [] a h = All-nil (Stands (holding n xs))
all_stand n xs (s ∷ ss) a h = All-cons (Stands (holding n xs)) s ss
    (record {
      within = head_all (IsLocation n) s ss a;
      written = among_known (written_in (holding n xs)) (location_slots s) (λ k e. writes_these xs nothing k (inl (h k (among_left (location_slots s) (slots_of ss) k e))));
    })
    (all_stand n xs ss (tail_all (IsLocation n) s ss a) (λ k e. h k (among_right (location_slots s) (slots_of ss) k e)))

-- the last of three instructions reads the slots of the two before it only
pub last_reads : (i : Instr) (k l : ℕ) → ((d : Draft) (k l : ℕ) → written_in d k ≡ true → written_in d l ≡ true → Computes d (from_slots k l i))
    → (computes i.op ≡ true) × ((m : ℕ) → among (reads_of [] [] (from_slots k l i)) m ≡ true → among (k ∷ l ∷ []) m ≡ true)
last_reads i k l on =
    let xs = k ∷ l ∷ [] in
    let d = holding 0 xs in
    let c = on d k l (writes_these xs nothing k (inl (among_first k (l ∷ [])))) (writes_these xs nothing l (inl (among_second k l))) in
    (c.plain, λ m e. only_these 0 xs m (known_among (written_in d) (reads_of [] [] (from_slots k l i)) m c.known e))

module _ (locations : List Location) (R : Given) where
  abbrev own_room : ℕ
  own_room = (room_for locations).0

  abbrev lone : Draft
  lone = holding own_room (slots_of locations)

  they_stand : All (Stands lone) locations
  they_stand = all_stand own_room (slots_of locations) locations (room_for locations).1 (λ k e. e)

  -- the slot of a word that is there is one of the operands' slots
  pub rests_there : (slot : ℕ) → Rests slot locations R → among (slots_of locations) slot ≡ true
  rests_there slot r = only_these own_room (slots_of locations) slot (r.written lone they_stand)

  -- an instruction reads the operands' slots only
  pub given_reads : (i : Instr) → ((d : Draft) → All (Stands d) locations → Computes d i) → (computes i.op ≡ true) × ((k : ℕ) → among (reads_of [] [] i) k ≡ true → among (slots_of locations) k ≡ true)
  given_reads i on =
      let c = on lone they_stand in
      (c.plain, λ k e. only_these own_room (slots_of locations) k (known_among (written_in lone) (reads_of [] [] i) k c.known e))

  pub operates_reads : (i : Instr) → Operates i locations R → (computes i.op ≡ true) × ((k : ℕ) → among (reads_of [] [] i) k ≡ true → among (slots_of locations) k ≡ true)
  operates_reads i o = given_reads i o.computes

  -- and so does the first one of two, while the second one reads the slot of the first one only
  pub first_reads : (i next : Instr) → Follow i next locations R → (computes i.op ≡ true) × ((k : ℕ) → among (reads_of [] [] i) k ≡ true → among (slots_of locations) k ≡ true)
  first_reads i next f = given_reads i f.computes

  pub second_reads : (i next : Instr) (slot : ℕ) → Follow i next locations R → (computes next.op ≡ true) × ((k : ℕ) → among (reads_of [] [] (from_slot slot next)) k ≡ true → among (slot ∷ []) k ≡ true)
  second_reads i next slot f =
      let d = holding 0 (slot ∷ []) in
      let c = f.then_computes d slot (writes_these (slot ∷ []) nothing slot (inl (among_first slot []))) in
      (c.plain, λ k e. only_these 0 (slot ∷ []) k (known_among (written_in d) (reads_of [] [] (from_slot slot next)) k c.known e))

  module _ (kind : Kind) (width slot : ℕ) (s : Location) (few : width ≤ 64) (at : at_one_slot kind width slot s) where
    pub one_slot : location_slots s ≡ slot ∷ []
    one_slot =
        let narrow : nat_lt 64 s.width ≡ false = ap (nat_lt 64) (ap (λ (t : Shape). t.width) at.0) ∙ le-ltb 64 width few in
        ap (λ b. if b then s.low ∷ s.high ∷ [] else s.low ∷ []) narrow ∙ ap (λ k. k ∷ []) at.1

    -- The steps of the three ways
    pub rests_step : (d : Draft) → Rests slot locations R → Step d d (slots_of locations) (location_slots s) 2
    rests_step d r = step_not d (slots_of locations) (location_slots s) 2
        (λ k e. ap (among (slots_of locations)) (one_among k slot (subst (λ xs. among xs k ≡ true) one_slot e)) ∙ rests_there slot r)
        (location_few s)

    pub word_step : (d new : Draft) (i : Instr) → Operates i locations R → new ≡ with_instr (with_slots d 1) (at_slot d.slots i) → slot ≡ d.slots → Step d new (slots_of locations) (location_slots s) 2
    word_step d new i o code place =
        let h = operates_reads i o in
        subst (λ x. Step d x (slots_of locations) (location_slots s) 2) (sym code)
        (subst (λ xs. Step d (with_instr (with_slots d 1) (at_slot d.slots i)) (slots_of locations) xs 2) (sym (one_slot ∙ ap (λ k. k ∷ []) place))
        (computed_step d i (slots_of locations) h.0 h.1))

    pub twice_step : (d between new : Draft) (i next : Instr) (k : ℕ) → Follow i next locations R → between ≡ with_instr (with_slots d 1) (at_slot d.slots i) → k ≡ d.slots
        → new ≡ with_instr (with_slots between 1) (at_slot between.slots (from_slot k next)) → slot ≡ between.slots → Step d new (slots_of locations) (location_slots s) 2
    twice_step d between new i next k f first here second there =
        let mid = with_instr (with_slots d 1) (at_slot d.slots i) in
        let last = with_instr (with_slots mid 1) (at_slot (d.slots + 1) (from_slot d.slots next)) in
        let code : new ≡ last = second ∙ (ap (λ b. with_instr (with_slots b 1) (at_slot b.slots (from_slot k next))) first ∙ ap (λ j. with_instr (with_slots mid 1) (at_slot (d.slots + 1) (from_slot j next))) here) in
        let place : slot ≡ d.slots + 1 = there ∙ ap (λ b. b.slots) first in
        subst (λ x. Step d x (slots_of locations) (location_slots s) 2) (sym code)
        (subst (λ xs. Step d last (slots_of locations) xs 2) (sym (one_slot ∙ ap (λ j. j ∷ []) place)) (two_words d i next f))
      where
        two_words : (d : Draft) (i next : Instr) → Follow i next locations R
            → Step d (with_instr (with_slots (with_instr (with_slots d 1) (at_slot d.slots i)) 1) (at_slot (d.slots + 1) (from_slot d.slots next))) (slots_of locations) ((d.slots + 1) ∷ []) 2
        two_words d i next f =
            let n = d.slots in
            let x = at_slot n i in
            let y = at_slot (n + 1) (from_slot n next) in
            let own = n ∷ (n + 1) ∷ [] in
            let outer = slots_of locations in
            let h = first_reads i next f in
            let g = second_reads i next n f in
            small_step d (with_instr (with_slots (with_instr (with_slots d 1) x) 1) y) outer ((n + 1) ∷ []) own 2 (x ∷ y ∷ []) (append_assoc d.instrs (x ∷ []) (y ∷ [])) (goes_same d) (omega arith)
            (λ k e. ⊎_elim (λ a. let is = same_number k n a in (omega (arith, is), omega (arith, is))) (λ b. let is = one_among k (n + 1) b in (omega (arith, is), omega (arith, is)))
            (either (k == n) (among ((n + 1) ∷ []) k) e))
            (omega arith) (λ k e. right_so (k == n) (among ((n + 1) ∷ []) k) e) (omega arith)
            (λ ports wides on. All-cons (λ z. (k : ℕ) → k < n → among (reads_of ports wides z) k ≡ true → among outer k ≡ true) x (y ∷ []) (λ k lt e. computed_reads i n outer h.0 h.1 ports wides k e)
            (All-cons (λ z. (k : ℕ) → k < n → among (reads_of ports wides z) k ≡ true → among outer k ≡ true) y []
            (λ k lt e. let is = one_among k n (computed_reads (from_slot n next) (n + 1) (n ∷ []) g.0 g.1 ports wides k e) in absurd (omega (arith, is, lt)))
            (All-nil (λ z. (k : ℕ) → k < n → among (reads_of ports wides z) k ≡ true → among outer k ≡ true))))
            (λ ports wides on. All-cons (λ z. (k : ℕ) → among (reads_of ports wides z) k ≡ true → n ≤ k) y []
            (λ k e. let is = one_among k n (computed_reads (from_slot n next) (n + 1) (n ∷ []) g.0 g.1 ports wides k e) in omega (arith, is))
            (All-nil (λ z. (k : ℕ) → among (reads_of ports wides z) k ≡ true → n ≤ k)))
            (λ ports wides on. All-cons (λ z. (k : ℕ) → among (writes_of wides z) k ≡ true → among own k ≡ true) x (y ∷ [])
            (λ k e. among_left (n ∷ []) ((n + 1) ∷ []) k (subst (λ xs. among xs k ≡ true) (computed_writes i n wides h.0) e))
            (All-cons (λ z. (k : ℕ) → among (writes_of wides z) k ≡ true → among own k ≡ true) y []
            (λ k e. among_right (n ∷ []) ((n + 1) ∷ []) k (subst (λ xs. among xs k ≡ true) (computed_writes (from_slot n next) (n + 1) wides g.0) e))
            (All-nil (λ z. (k : ℕ) → among (writes_of wides z) k ≡ true → among own k ≡ true))))
