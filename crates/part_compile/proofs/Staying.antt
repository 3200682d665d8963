-- Slots that are live behind the instructions of a piece.
use Rattle.std.proofs.Common.{◌≡◌, ℕ, ◌+◌, ◌<◌, ◌≤◌, true, ◌||◌, ◌&&◌, List, [], ◌∷◌, ◌++◌, length, All, ◌⊎◌, inl, inr, refl, sym, ap, ◌∙◌, arith, ⊎_elim, length-append}
use Rattle.std.proofs.lemmas.Bool.{and_parts, and_from}
use Rattle.std.proofs.lemmas.List.Elements.{All-head, All-tail}
use Rattle.flat_code.specs.declared.instr.Instr.{Instr}
use Rattle.flat_code.specs.declared.instr.Port.{Port}
use Rattle.flat_code.specs.declared.instr.Location.{Location}
use Rattle.flat_code.specs.declared.instr.Wide.{Wide}
use Rattle.flat_code.specs.Fine.{Known, among, more, reads_of, writes_of, written}
use Rattle.code_place.specs.Live.{is_read as is_read_or_shown, is_live_behind, most_live}
use Rattle.code_place.proofs.Counting.{many_le}
use Rattle.code_place.proofs.Moving.{either, left, right, among_append}
use Rattle.code_draft.specs.Segments.{is_read, is_live, AtMost, FewLive}
use Rattle.part_compile.proofs.Counts.{many_among}

-- what is written behind instructions was written before or is their own
pub written_below : (wides : List Wide) (first last : ℕ) (is : List Instr) (known : Known) → All (λ i. (k : ℕ) → among (writes_of wides i) k ≡ true → (first ≤ k) × (k < last)) is
    → ((k : ℕ) → known k ≡ true → k < last) → (k : ℕ) → written known wides is k ≡ true → k < last
written_below wides first last [] known writes before k e = before k e
written_below wides first last (i ∷ is) known writes before k e =
    written_below wides first last is (more (writes_of wides i) known) (All-tail (λ j. (m : ℕ) → among (writes_of wides j) m ≡ true → (first ≤ m) × (m < last)) i is writes)
    (λ m d. ⊎_elim
    (λ w. (All-head (λ j. (m : ℕ) → among (writes_of wides j) m ≡ true → (first ≤ m) × (m < last)) i is writes m w).1)
    (λ b. before m b)
    (either (among (writes_of wides i) m) (known m) d))
    k e

module _ (ports : List Port) (wides : List Wide) where
  -- an outer slot is read by one of these instructions, or behind them
  pub read_cases : (first : ℕ) (outer : List ℕ) (after : Known) (is : List Instr) (k : ℕ) → All (λ i. (k : ℕ) → k < first → among (reads_of ports wides i) k ≡ true → among outer k ≡ true) is → k < first
      → is_read ports wides after is k ≡ true → (among outer k ≡ true) ⊎ (after k ≡ true)
  read_cases first outer after [] k reads lt e = inr e
  read_cases first outer after (i ∷ is) k reads lt e = ⊎_elim
      (λ r. inl (All-head (λ j. (m : ℕ) → m < first → among (reads_of ports wides j) m ≡ true → among outer m ≡ true) i is reads k lt r))
      (λ l. read_cases first outer after is k (All-tail (λ j. (m : ℕ) → m < first → among (reads_of ports wides j) m ≡ true → among outer m ≡ true) i is reads) lt l)
      (either (among (reads_of ports wides i) k) (is_read ports wides after is k) e)

  -- two instructions lists, one behind the other
  pub read_behind : (shown : List Location) (xs ys : List Instr) (k : ℕ) → is_read_or_shown ports wides shown (xs ++ ys) k ≡ is_read ports wides (is_read_or_shown ports wides shown ys) xs k
  read_behind shown [] ys k = refl
  read_behind shown (i ∷ xs) ys k = ap (λ b. among (reads_of ports wides i) k || b) (read_behind shown xs ys k)

  -- Own slots, and further ones that were written before

  module _ (n count first last : ℕ) (further : List ℕ) (shown : List Location) (ys : List Instr) where
    abbrev after : Known
    after = is_read_or_shown ports wides shown ys

    own_live : (known own before : Known) (i : Instr) (is : List Instr) → ((k : ℕ) → known k ≡ true → (own k ≡ true) ⊎ (before k ≡ true))
        → ((k : ℕ) → own k ≡ true → first ≤ k) → ((k : ℕ) → among (writes_of wides i) k ≡ true → first ≤ k)
        → ((k : ℕ) → before k ≡ true → is_read ports wides after is k ≡ true → among further k ≡ true) → (m : AtMost count first (is_live own ports wides after i is))
        → (k : ℕ) → is_live_behind known ports wides shown i (is ++ ys) k ≡ true → among (m.slots ++ further) k ≡ true
    own_live known own before i is known_by inside writes needs m k e = among_append m.slots further k ∙ ⊎_elim
        (λ w. left (among m.slots k) (among further k) (m.all k (writes k w) (left (among (writes_of wides i) k) (own k && is_read ports wides after is k) w)))
        (λ b.
        let parts = and_parts (known k) (is_read_or_shown ports wides shown (is ++ ys) k) b in
        let later = sym (read_behind shown is ys k) ∙ parts.1 in
        ⊎_elim
        (λ o. left (among m.slots k) (among further k)
        (m.all k (inside k o) (right (among (writes_of wides i) k) (own k && is_read ports wides after is k) (and_from (own k) (is_read ports wides after is k) o later))))
        (λ f. right (among m.slots k) (among further k) (needs k f later))
        (known_by k parts.0))
        (either (among (writes_of wides i) k) (known k && is_read_or_shown ports wides shown (is ++ ys) k) e)

    -- no more than these are live behind the instructions of a piece, and the rest goes on
    pub live_le : (bound : ℕ) (is : List Instr) (known own before : Known) → ((k : ℕ) → known k ≡ true → (own k ≡ true) ⊎ (before k ≡ true)) → ((k : ℕ) → own k ≡ true → first ≤ k)
        → All (λ i. (k : ℕ) → among (writes_of wides i) k ≡ true → (first ≤ k) × (k < last)) is → ((k : ℕ) → before k ≡ true → is_read ports wides after is k ≡ true → among further k ≡ true)
        → FewLive count first own ports wides after is → count + length further ≤ bound → most_live n (written known wides is) ports wides shown ys ≤ bound
        → most_live n known ports wides shown (is ++ ys) ≤ bound
    live_le bound [] known own before known_by inside writes needs few le rest = rest
    live_le bound (i ∷ is) known own before known_by inside writes needs few le rest =
        let first_writes : (k : ℕ) → among (writes_of wides i) k ≡ true → first ≤ k =
        λ k w. (All-head (λ j. (m : ℕ) → among (writes_of wides j) m ≡ true → (first ≤ m) × (m < last)) i is writes k w).0
        in
        let later_needs : (k : ℕ) → before k ≡ true → is_read ports wides after is k ≡ true → among further k ≡ true =
        λ k b e. needs k b (right (among (reads_of ports wides i) k) (is_read ports wides after is k) e)
        in
        let later = live_le bound is (more (writes_of wides i) known) (more (writes_of wides i) own) before
        (λ k e. ⊎_elim
        (λ w. inl (left (among (writes_of wides i) k) (own k) w))
        (λ h. ⊎_elim (λ o. inl (right (among (writes_of wides i) k) (own k) o)) (λ b. inr b) (known_by k h))
        (either (among (writes_of wides i) k) (known k) e))
        (λ k e. ⊎_elim (λ w. first_writes k w) (λ o. inside k o) (either (among (writes_of wides i) k) (own k) e))
        (All-tail (λ j. (m : ℕ) → among (writes_of wides j) m ≡ true → (first ≤ m) × (m < last)) i is writes)
        later_needs few.1 le rest
        in
        let m = few.0 in
        let most = m.few in
        let all = many_le n (is_live_behind known ports wides shown i (is ++ ys)) (among (m.slots ++ further)) (own_live known own before i is known_by inside first_writes later_needs m) in
        let here = many_among n (m.slots ++ further) in
        let long = length-append m.slots further in
        omega (arith, later, most, all, here, long, le)
