-- Segments one after the other.
use Rattle.std.proofs.Common.{◌≡◌, ℕ, ◌+◌, ◌<◌, ◌≤◌, true, List, [], ◌++◌, length, All, refl, sym, subst, ap, ◌∙◌, arith, ⊎_elim, ◌⊎◌, inl, inr, length-append, true≢false, append_assoc}
use Rattle.std.proofs.lemmas.List.{append-nil}
use Rattle.std.proofs.lemmas.List.Elements.{All-append, All-nil}
use Rattle.flat_code.specs.declared.instr.Instr.{Instr}
use Rattle.flat_code.specs.declared.instr.Port.{Port}
use Rattle.flat_code.specs.declared.instr.Wide.{Wide}
use Rattle.flat_code.specs.Fine.{Known, among, nothing, reads_of, writes_of, written}
use Rattle.code_draft.specs.declared.draft.Draft.{Draft}
use Rattle.code_draft.specs.Segments.{is_read, FewLive, GoesOn, Stretch, Segment, Step, behind_first}
use Rattle.code_draft.proofs.Segmenting.{among_left, among_right, among_either, none_among, map_all, read_behind, read_cases, written_cases, few_weaker, few_append, few_written, few_behind}

-- Tables

pub goes_same : (d : Draft) → GoesOn d d.ports d.wides
goes_same d = record { further_ports = []; further_wides = []; ports_on = sym (append-nil d.ports); wides_on = sym (append-nil d.wides) }

pub goes_then : (a b : Draft) (ports : List Port) (wides : List Wide) → GoesOn a b.ports b.wides → GoesOn b ports wides → GoesOn a ports wides
goes_then a b ports wides f g = record {
  further_ports = f.further_ports ++ g.further_ports;
  further_wides = f.further_wides ++ g.further_wides;
  ports_on = g.ports_on ∙ (ap (λ xs. xs ++ g.further_ports) f.ports_on ∙ append_assoc a.ports f.further_ports g.further_ports);
  wides_on = g.wides_on ∙ (ap (λ xs. xs ++ g.further_wides) f.wides_on ∙ append_assoc a.wides f.further_wides g.further_wides);
}

-- What is read and kept by code of slots from a to b, that of slots from there to c, and both.
pub record Joins (a b c : ℕ) (O K P Q W R : List ℕ) : Type 0 where
  pub lower : a ≤ b
  pub upper : b ≤ c
  pub first_outer : (k : ℕ) → k < a → among O k ≡ true → among W k ≡ true
  pub second_outer : (k : ℕ) → k < a → among P k ≡ true → among W k ≡ true
  pub inside : (k : ℕ) → a ≤ k → k < b → among P k ≡ true → among K k ≡ true
  pub kept_first : (k : ℕ) → a ≤ k → k < b → among R k ≡ true → among K k ≡ true
  pub kept_second : (k : ℕ) → b ≤ k → k < c → among R k ≡ true → among Q k ≡ true

abbrev IsKept : ℕ → ℕ → List ℕ → Known → Type 0
IsKept a c R after = (k : ℕ) → a ≤ k → k < c → after k ≡ true → among R k ≡ true

module _ (a b c : ℕ) (O K P Q W R : List ℕ) (m n t : ℕ) (join : Joins a b c O K P Q W R) (ports : List Port) (wides : List Wide) (is js : List Instr) (first : Stretch a b O K m ports wides is)
    (second : Stretch b c P Q n ports wides js) where
  -- what the second stretch reads of the first one's slots, or what is read behind it
  read_kept : (after : Known) → IsKept a c R after → (k : ℕ) → a ≤ k → k < b → is_read ports wides after js k ≡ true → among K k ≡ true
  read_kept after ok k low up r =
      let upper = join.upper in
      ⊎_elim
      (λ h. join.inside k low up (h up))
      (λ h. join.kept_first k low up (ok k low (omega (arith, up, upper)) h))
      (read_cases ports wides after (λ k. k < b → among P k ≡ true) js
      (map_all (λ i. (k : ℕ) → k < b → among (reads_of ports wides i) k ≡ true → among P k ≡ true) (λ i. (k : ℕ) → among (reads_of ports wides i) k ≡ true → k < b → among P k ≡ true) js (λ i h k e lt. h k lt e)
      second.reads)
      k r)

  only_below : (k : ℕ) → b ≤ k → written nothing wides is k ≡ true → nothing k ≡ true
  only_below k up w = ⊎_elim
      (λ lt. absurd (omega (arith, up, lt)))
      (λ e. e)
      (written_cases (λ k. k < b) wides is nothing
      (map_all (λ i. (k : ℕ) → among (writes_of wides i) k ≡ true → (a ≤ k) × (k < b)) (λ i. (k : ℕ) → among (writes_of wides i) k ≡ true → k < b) is (λ i h k e. (h k e).1) first.writes)
      k w)

  above : All (λ j. (k : ℕ) → among (writes_of wides j) k ≡ true → b ≤ k) js
  above = map_all (λ i. (k : ℕ) → among (writes_of wides i) k ≡ true → (b ≤ k) × (k < c)) (λ i. (k : ℕ) → among (writes_of wides i) k ≡ true → b ≤ k) js (λ i h k e. (h k e).0) second.writes

  own_few : (after : Known) → IsKept a c R after → FewLive n b nothing ports wides after js
  own_few after ok = let lower = join.lower in second.few after (λ k low up e. join.kept_second k low up (ok k (omega (arith, lower, low)) up e))

  pub stretch_then : m ≤ t → ((after : Known) → IsKept a c R after → FewLive t a (written nothing wides is) ports wides after js) → Stretch a c W R t ports wides (is ++ js)
  stretch_then le rest =
      let lower = join.lower in
      let upper = join.upper in
      record {
        reads = All-append (λ i. (k : ℕ) → k < a → among (reads_of ports wides i) k ≡ true → among W k ≡ true) is js
            (map_all (λ i. (k : ℕ) → k < a → among (reads_of ports wides i) k ≡ true → among O k ≡ true) (λ i. (k : ℕ) → k < a → among (reads_of ports wides i) k ≡ true → among W k ≡ true) is
            (λ i h k lt e. join.first_outer k lt (h k lt e)) first.reads)
            (map_all (λ i. (k : ℕ) → k < b → among (reads_of ports wides i) k ≡ true → among P k ≡ true) (λ i. (k : ℕ) → k < a → among (reads_of ports wides i) k ≡ true → among W k ≡ true) js
            (λ i h k lt e. join.second_outer k lt (h k (omega (arith, lt, lower)) e)) second.reads);
        writes = All-append (λ i. (k : ℕ) → among (writes_of wides i) k ≡ true → (a ≤ k) × (k < c)) is js
            (map_all (λ i. (k : ℕ) → among (writes_of wides i) k ≡ true → (a ≤ k) × (k < b)) (λ i. (k : ℕ) → among (writes_of wides i) k ≡ true → (a ≤ k) × (k < c)) is
            (λ i h k e. let in_first = (h k e).1 in ((h k e).0, omega (arith, in_first, upper))) first.writes)
            (map_all (λ i. (k : ℕ) → among (writes_of wides i) k ≡ true → (b ≤ k) × (k < c)) (λ i. (k : ℕ) → among (writes_of wides i) k ≡ true → (a ≤ k) × (k < c)) js
            (λ i h k e. let in_second = (h k e).0 in (omega (arith, in_second, lower), (h k e).1)) second.writes);
        few = λ after ok.
            few_append ports wides t a after is js nothing
            (few_weaker ports wides m t a (is_read ports wides after js) is nothing le (first.few (is_read ports wides after js) (λ k low up e. read_kept after ok k low up e)))
            (rest after ok);
      }

  -- what the first stretch keeps is held while the second one runs
  pub held_few : length K + n ≤ t → (after : Known) → IsKept a c R after → FewLive t a (written nothing wides is) ports wides after js
  held_few room after ok =
      few_behind ports wides a b n t K room after js (written nothing wides is) nothing (λ k up e. only_below k up e) above
      (λ k low up e. read_kept after ok k low up (read_behind ports wides after js k e)) (own_few after ok)

  -- nothing of it is held where only the first instruction of the second one reads it
  pub fresh_few : n ≤ t → All (λ i. (k : ℕ) → among (reads_of ports wides i) k ≡ true → b ≤ k) (behind_first js) → ((k : ℕ) → among R k ≡ true → b ≤ k) → (after : Known) → IsKept a c R after
      → FewLive t a (written nothing wides is) ports wides after js
  fresh_few le once fresh after ok =
      let upper = join.upper in
      few_behind ports wides a b n t [] (omega (arith, le)) after js (written nothing wides is) nothing (λ k up e. only_below k up e) above
      (λ k low up e. ⊎_elim
      (λ h. absurd (omega (arith, h, up)))
      (λ h. let out = fresh k (ok k low (omega (arith, up, upper)) h) in absurd (omega (arith, out, up)))
      (read_cases ports wides after (λ k. b ≤ k) (behind_first js) once k e))
      (own_few after ok)

abbrev IsThere : Draft → Draft → List ℕ → List ℕ → Type 0
IsThere old new outer kept = (k : ℕ) → among kept k ≡ true → ((old.slots ≤ k) × (k < new.slots)) ⊎ (among outer k ≡ true)

-- Code that goes on from code that goes on: what the first one keeps is held while the second one runs.
pub segment_then : (a b c : Draft) (O K P Q W R : List ℕ) (m n t : ℕ) → Segment a b O K m → Segment b c P Q n → Joins a.slots b.slots c.slots O K P Q W R → IsThere a c W R → m ≤ t → length K + n ≤ t → length R ≤ t
    → Segment a c W R t
segment_then a b c O K P Q W R m n t f g join there le room few = record {
  instrs = f.instrs ++ g.instrs;
  is = g.is ∙ (ap (λ xs. xs ++ g.instrs) f.is ∙ append_assoc a.instrs f.instrs g.instrs);
  tables = goes_then a b c.ports c.wides f.tables g.tables;
  slots = (let lower = f.slots in let upper = g.slots in omega (arith, lower, upper));
  each = λ ports wides on.
      let first = f.each ports wides (goes_then b c ports wides g.tables on) in
      let second = g.each ports wides on in
      stretch_then a.slots b.slots c.slots O K P Q W R m n t join ports wides f.instrs g.instrs first second le (held_few a.slots b.slots c.slots O K P Q W R m n t join ports wides f.instrs g.instrs first second room);
  there = there;
  few = few;
}

-- Code and then a step on what it keeps.
pub step_then : (a b c : Draft) (O K Q : List ℕ) (m n t : ℕ) → Segment a b O K m → Step b c K Q n → m ≤ t → n ≤ t → Segment a c O Q t
step_then a b c O K Q m n t f s le next =
    let g = s.segment in
    let lower = f.slots in
    let upper = g.slots in
    let join : Joins a.slots b.slots c.slots O K K Q O Q = record {
      lower = lower;
      upper = upper;
      first_outer = λ k lt e. e;
      second_outer = λ k lt e. ⊎_elim (λ h. let low = h.0 in absurd (omega (arith, low, lt))) (λ h. h) (f.there k e);
      inside = λ k low up e. e;
      kept_first = λ k low up e. ⊎_elim (λ h. let out = h.0 in absurd (omega (arith, out, up))) (λ h. h) (g.there k e);
      kept_second = λ k low up e. e;
    } in
    record {
      instrs = f.instrs ++ g.instrs;
      is = g.is ∙ (ap (λ xs. xs ++ g.instrs) f.is ∙ append_assoc a.instrs f.instrs g.instrs);
      tables = goes_then a b c.ports c.wides f.tables g.tables;
      slots = omega (arith, lower, upper);
      each = λ ports wides on.
          let first = f.each ports wides (goes_then b c ports wides g.tables on) in
          let second = g.each ports wides on in
          stretch_then a.slots b.slots c.slots O K K Q O Q m n t join ports wides f.instrs g.instrs first second le (λ after ok. ⊎_elim
          (λ none. subst (λ xs. FewLive t a.slots (written nothing wides f.instrs) ports wides after xs) (sym none) tt)
          (λ own. fresh_few a.slots b.slots c.slots O K K Q O Q m n t join ports wides f.instrs g.instrs first second next (s.once ports wides on) own after ok)
          s.fresh);
      there = λ k e. ⊎_elim
          (λ h. let low = h.0 in inl (omega (arith, low, lower), h.1))
          (λ h. ⊎_elim (λ own. let up = own.1 in inl (own.0, omega (arith, up, upper))) (λ out. inr out) (f.there k h))
          (g.there k e);
      few = (let some = g.few in omega (arith, some, next));
    }

-- slots before these
abbrev pub AreBefore : ℕ → List ℕ → Type 0
AreBefore n xs = (k : ℕ) → among xs k ≡ true → k < n

-- Code and other code that reads nothing of it: both keep what they keep.
pub both_then : (a b c : Draft) (O K P Q : List ℕ) (m n : ℕ) → Segment a b O K m → Segment b c P Q n → AreBefore a.slots O → AreBefore a.slots P → Segment a c (O ++ P) (K ++ Q) (m + n)
both_then a b c O K P Q m n f g before next =
    let lower = f.slots in
    let upper = g.slots in
    let held = f.few in
    let more = g.few in
    let long = length-append K Q in
    segment_then a b c O K P Q (O ++ P) (K ++ Q) m n (m + n) f g (record {
      lower = lower;
      upper = upper;
      first_outer = λ k lt e. among_left O P k e;
      second_outer = λ k lt e. among_right O P k e;
      inside = λ k low up e. let out = next k e in absurd (omega (arith, out, low));
      kept_first = λ k low up e. ⊎_elim
          (λ h. h)
          (λ h. ⊎_elim (λ own. let out = own.0 in absurd (omega (arith, out, up))) (λ out. let lt = next k out in absurd (omega (arith, lt, low))) (g.there k h))
          (among_either K Q k e);
      kept_second = λ k low up e. ⊎_elim
          (λ h. ⊎_elim (λ own. let lt = own.1 in absurd (omega (arith, lt, low))) (λ out. let lt = before k out in absurd (omega (arith, lt, low, lower))) (f.there k h))
          (λ h. h)
          (among_either K Q k e);
    })
    (λ k e. ⊎_elim
    (λ h. ⊎_elim (λ own. let up = own.1 in inl (own.0, omega (arith, up, upper))) (λ out. inr (among_left O P k out)) (f.there k h))
    (λ h. ⊎_elim (λ own. let low = own.0 in inl (omega (arith, low, lower), own.1)) (λ out. inr (among_right O P k out)) (g.there k h))
    (among_either K Q k e))
    (omega arith) (omega (arith, held)) (omega (arith, held, more, long))

-- Fewer kept slots, more outer ones, and a greater number.
pub segment_weaker : (a b : Draft) (O K W R : List ℕ) (m t : ℕ) → Segment a b O K m → ((k : ℕ) → among O k ≡ true → among W k ≡ true) → ((k : ℕ) → among R k ≡ true → among K k ≡ true) → m ≤ t → length R ≤ t
    → Segment a b W R t
segment_weaker a b O K W R m t f outer kept le few = record {
  instrs = f.instrs;
  is = f.is;
  tables = f.tables;
  slots = f.slots;
  each = λ ports wides on.
      let s = f.each ports wides on in
      record {
        reads = map_all (λ i. (k : ℕ) → k < a.slots → among (reads_of ports wides i) k ≡ true → among O k ≡ true) (λ i. (k : ℕ) → k < a.slots → among (reads_of ports wides i) k ≡ true → among W k ≡ true) f.instrs
            (λ i h k lt e. outer k (h k lt e)) s.reads;
        writes = s.writes;
        few = λ after ok. few_weaker ports wides m t a.slots after f.instrs nothing le (s.few after (λ k low up e. kept k (ok k low up e)));
      };
  there = λ k e. ⊎_elim (λ own. inl own) (λ out. inr (outer k out)) (f.there k (kept k e));
  few = few;
}

-- no code
pub segment_not : (d : Draft) (outer : List ℕ) (n : ℕ) → Segment d d outer [] n
segment_not d outer n = record {
  instrs = [];
  is = sym (append-nil d.instrs);
  tables = goes_same d;
  slots = omega arith;
  each = λ ports wides on. record {
    reads = All-nil (λ i. (k : ℕ) → k < d.slots → among (reads_of ports wides i) k ≡ true → among outer k ≡ true);
    writes = All-nil (λ i. (k : ℕ) → among (writes_of wides i) k ≡ true → (d.slots ≤ k) × (k < d.slots));
    few = λ after ok. tt;
  };
  there = λ k e. none_among k e;
  few = omega arith;
}

-- Steps

-- what stands there already
pub step_not : (d : Draft) (outer kept : List ℕ) (n : ℕ) → ((k : ℕ) → among kept k ≡ true → among outer k ≡ true) → length kept ≤ n → Step d d outer kept n
step_not d outer kept n out few = record {
  segment = record {
    instrs = [];
    is = sym (append-nil d.instrs);
    tables = goes_same d;
    slots = omega arith;
    each = λ ports wides on. record {
      reads = All-nil (λ i. (k : ℕ) → k < d.slots → among (reads_of ports wides i) k ≡ true → among outer k ≡ true);
      writes = All-nil (λ i. (k : ℕ) → among (writes_of wides i) k ≡ true → (d.slots ≤ k) × (k < d.slots));
      few = λ after ok. tt;
    };
    there = λ k e. inr (out k e);
    few = few;
  };
  once = λ ports wides on. All-nil (λ i. (k : ℕ) → among (reads_of ports wides i) k ≡ true → d.slots ≤ k);
  fresh = inl refl;
}

-- instructions that write few slots
module _ (d new : Draft) (outer kept own : List ℕ) (n : ℕ) (is : List Instr) (code : new.instrs ≡ d.instrs ++ is) (tables : GoesOn d new.ports new.wides) (slots : d.slots ≤ new.slots)
    (range : (k : ℕ) → among own k ≡ true → (d.slots ≤ k) × (k < new.slots)) (few : length own ≤ n) (kept_own : (k : ℕ) → among kept k ≡ true → among own k ≡ true) (kept_few : length kept ≤ n) where
  pub small_step : ((ports : List Port) (wides : List Wide) → GoesOn new ports wides → All (λ i. (k : ℕ) → k < d.slots → among (reads_of ports wides i) k ≡ true → among outer k ≡ true) is)
      → ((ports : List Port) (wides : List Wide) → GoesOn new ports wides → All (λ i. (k : ℕ) → among (reads_of ports wides i) k ≡ true → d.slots ≤ k) (behind_first is))
      → ((ports : List Port) (wides : List Wide) → GoesOn new ports wides → All (λ i. (k : ℕ) → among (writes_of wides i) k ≡ true → among own k ≡ true) is) → Step d new outer kept n
  small_step reads once writes = record {
    segment = record {
      instrs = is;
      is = code;
      tables = tables;
      slots = slots;
      each = λ ports wides on. record {
        reads = reads ports wides on;
        writes = map_all (λ i. (k : ℕ) → among (writes_of wides i) k ≡ true → among own k ≡ true) (λ i. (k : ℕ) → among (writes_of wides i) k ≡ true → (d.slots ≤ k) × (k < new.slots)) is
            (λ i h k e. range k (h k e)) (writes ports wides on);
        few = λ after ok. few_written ports wides n d.slots after own few is nothing (writes ports wides on) (λ k e. absurd (true≢false (sym e)));
      };
      there = λ k e. inl (range k (kept_own k e));
      few = kept_few;
    };
    once = once;
    fresh = inr (λ k e. (range k (kept_own k e)).0);
  }
