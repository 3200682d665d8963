-- Parts of a well formed stimulus are well formed, and its rows have the kinds and widths of the inputs.
use Rattle.std.proofs.Common.{◌≡◌, ℕ, zero, suc, ◌+◌, ◌-◌, ◌<◌, ◌≤◌, Bool, true, false, ◌&&◌, cond, eqb, leb, ltb, List, [], ◌∷◌, ◌++◌, map, filter, reverse, Option, Some, None, slice_get, refl, sym, ap, ap₂, ◌∙◌, subst, arith}
use Rattle.std.specs.Prelude.{⊤, find, All, AllPairs}
use Rattle.std.specs.List.{enumerate_from, range_with_len}
use Rattle.std.proofs.lemmas.Bool.{ltb-true, leb-true, eqb-true, false≢true}
use Rattle.std.proofs.lemmas.List.Elements.{All-nil, All-head, All-tail, All-cons, All-push, All-same}
use Rattle.std.proofs.lemmas.List.{reverse-append}
use Rattle.bit_words.specs.declared.value.Value.{Value}
use Rattle.ground_net.specs.declared.net.Ports.{Ports}
use Rattle.ground_net.specs.declared.net.PortLeaf.{PortLeaf}
use Rattle.ground_net.specs.Watching.{AreValuesOf}
use Rattle.stimulus.specs.declared.stimulus.Stimulus.{Stimulus}
use Rattle.stimulus.specs.declared.stimulus.Setting.{Setting}
use Rattle.stimulus.specs.Stimuli.{IsOf, StandsBefore, IsFormed}
use Rattle.stimulus.specs.Rows.{zero_of, last_set, value_or, value_in, row_in}
use Rattle.stimulus.specs.Rows as whole
use Rattle.circuit_texts.specs.StimulusParts.{row_from, rows_from, first_settings, counted_from, first_part, second_part}

-- Pairs of a list, by its first item

abbrev Pairs : List Setting → Type 0
Pairs [] = ⊤
Pairs (x ∷ xs) = All (StandsBefore x) xs × Pairs xs

to_pairs : (xs : List Setting) → AllPairs StandsBefore xs → Pairs xs
to_pairs [] h = tt
to_pairs (x ∷ xs) h = (λ k d lt. h 0 (suc k) d (omega arith) (omega (arith, lt)), to_pairs xs (λ i j d lt le. h (suc i) (suc j) d (omega (arith, lt)) (omega (arith, le))))

from_pairs : (xs : List Setting) → Pairs xs → AllPairs StandsBefore xs
from_pairs [] h i j d lt le = absurd (omega (arith, le))
from_pairs (x ∷ xs) h zero zero d lt le = absurd (omega (arith, lt))
from_pairs (x ∷ xs) h zero (suc j) d lt le = h.0 j d (omega (arith, le))
from_pairs (x ∷ xs) h (suc i) zero d lt le = absurd (omega (arith, lt))
from_pairs (x ∷ xs) h (suc i) (suc j) d lt le = from_pairs xs h.1 i j d (omega (arith, lt)) (omega (arith, le))

-- What is kept of a list

all_kept : (P : Setting → Type 0) (p : Setting → Bool) (xs : List Setting) → All P xs → All P (filter p xs)
all_kept P p [] h = h
all_kept P p (x ∷ xs) h = by (p x) (all_kept P p xs (All-tail P x xs h))
  where
    by : (b : Bool) → All P (filter p xs) → All P (cond b (x ∷ filter p xs) (filter p xs))
    by true on = All-cons P x (filter p xs) (All-head P x xs h) on
    by false on = on

all_passed : (P : Setting → Type 0) (p : Setting → Bool) → ((s : Setting) → p s ≡ true → P s) → (xs : List Setting) → All P (filter p xs)
all_passed P p h [] = All-nil P
all_passed P p h (x ∷ xs) = by (p x) refl (all_passed P p h xs)
  where
    by : (b : Bool) → p x ≡ b → All P (filter p xs) → All P (cond b (x ∷ filter p xs) (filter p xs))
    by true e on = All-cons P x (filter p xs) (h x e) on
    by false e on = on

pairs_kept : (p : Setting → Bool) (xs : List Setting) → Pairs xs → Pairs (filter p xs)
pairs_kept p [] h = tt
pairs_kept p (x ∷ xs) h = by (p x) (pairs_kept p xs h.1)
  where
    by : (b : Bool) → Pairs (filter p xs) → Pairs (cond b (x ∷ filter p xs) (filter p xs))
    by true on = (all_kept (StandsBefore x) p xs h.0, on)
    by false on = on

all_mapped : (P Q : Setting → Type 0) (f : Setting → Setting) → ((s : Setting) → P s → Q (f s)) → (xs : List Setting) → All P xs → All Q (map f xs)
all_mapped P Q f h [] k = All-nil Q
all_mapped P Q f h (x ∷ xs) k = All-cons Q (f x) (map f xs) (h x (All-head P x xs k)) (all_mapped P Q f h xs (All-tail P x xs k))

-- counted from a cycle that both have reached
later : (a : ℕ) (s t : Setting) → a ≤ s.cycle → a ≤ t.cycle → StandsBefore s t → StandsBefore (counted_from a s) (counted_from a t)
later a s t h k before = record { in_order = let le = before.in_order in omega (arith, le); once = λ e. before.once (omega (arith, e, h, k)) }

all_later : (a : ℕ) (s : Setting) (xs : List Setting) → a ≤ s.cycle → All (λ t. a ≤ t.cycle) xs → All (StandsBefore s) xs → All (StandsBefore (counted_from a s)) (map (counted_from a) xs)
all_later a s [] h k before = All-nil (StandsBefore (counted_from a s))
all_later a s (x ∷ xs) h k before =
    All-cons (StandsBefore (counted_from a s)) (counted_from a x) (map (counted_from a) xs)
    (later a s x h (All-head (λ (t : Setting). a ≤ t.cycle) x xs k) (All-head (StandsBefore s) x xs before))
    (all_later a s xs h (All-tail (λ (t : Setting). a ≤ t.cycle) x xs k) (All-tail (StandsBefore s) x xs before))

pairs_later : (a : ℕ) (xs : List Setting) → All (λ t. a ≤ t.cycle) xs → Pairs xs → Pairs (map (counted_from a) xs)
pairs_later a [] k h = tt
pairs_later a (x ∷ xs) k h = (
  all_later a x xs (All-head (λ (t : Setting). a ≤ t.cycle) x xs k) (All-tail (λ (t : Setting). a ≤ t.cycle) x xs k) h.0,
  pairs_later a xs (All-tail (λ (t : Setting). a ≤ t.cycle) x xs k) h.1,
)

-- The parts

pub first_formed : (ports : Ports) (stimulus : Stimulus) (a : ℕ) → IsFormed ports stimulus → a ≤ stimulus.cycles → IsFormed ports (first_part a stimulus)
first_formed ports stimulus a f le = record {
  few = let few = f.few in omega (arith, few, le);
  below = all_passed (λ s. s.cycle < a) (λ s. ltb s.cycle a) (λ s e. ltb-true s.cycle a e) stimulus.settings;
  of_inputs = all_kept (IsOf ports) (λ s. ltb s.cycle a) stimulus.settings f.of_inputs;
  pairs = from_pairs (first_settings a stimulus.settings) (pairs_kept (λ s. ltb s.cycle a) stimulus.settings (to_pairs stimulus.settings f.pairs));
}

below_rest : (a n : ℕ) (s : Setting) → (a ≤ s.cycle) × (s.cycle < n) → s.cycle - a < n - a
below_rest a n s h = omega (arith, h.0, h.1)

both_all : (P Q : Setting → Type 0) (xs : List Setting) → All P xs → All Q xs → All (λ s. P s × Q s) xs
both_all P Q xs h k = λ i d lt. (h i d lt, k i d lt)

of_counted : (ports : Ports) (a : ℕ) (s : Setting) → IsOf ports s → IsOf ports (counted_from a s)
of_counted ports a s h = record { leaf = h.leaf; input = h.input; kind = h.kind; width = h.width }

pub second_formed : (ports : Ports) (stimulus : Stimulus) (a : ℕ) → IsFormed ports stimulus → a ≤ stimulus.cycles → IsFormed ports (second_part a stimulus)
second_formed ports stimulus a f le =
    let kept = filter (λ (s : Setting). leb a s.cycle) stimulus.settings in
    let late : All (λ (s : Setting). a ≤ s.cycle) kept = all_passed (λ s. a ≤ s.cycle) (λ s. leb a s.cycle) (λ s e. leb-true a s.cycle e) stimulus.settings in
    record {
      few = let few = f.few in omega (arith, few);
      below = all_mapped (λ s. (a ≤ s.cycle) × (s.cycle < stimulus.cycles)) (λ s. s.cycle < stimulus.cycles - a) (counted_from a) (below_rest a stimulus.cycles) kept
          (both_all (λ s. a ≤ s.cycle) (λ s. s.cycle < stimulus.cycles) kept late (all_kept (λ s. s.cycle < stimulus.cycles) (λ s. leb a s.cycle) stimulus.settings f.below));
      of_inputs = all_mapped (IsOf ports) (IsOf ports) (counted_from a) (of_counted ports a) kept (all_kept (IsOf ports) (λ s. leb a s.cycle) stimulus.settings f.of_inputs);
      pairs = from_pairs (map (counted_from a) kept) (pairs_later a kept late (pairs_kept (λ s. leb a s.cycle) stimulus.settings (to_pairs stimulus.settings f.pairs)));
    }

-- Values of the inputs

-- what was found holds what all hold, and passes
found : (P : Setting → Type 0) (p : Setting → Bool) (xs : List Setting) (s : Setting) → All P xs → find p (reverse xs) ≡ Some s → P s × (p s ≡ true)
found P p xs s h e = by (reverse xs) (reversed xs h) e
  where
    reversed : (xs : List Setting) → All P xs → All P (reverse xs)
    reversed [] h = h
    reversed (x ∷ xs) h = All-same P (reverse (x ∷ xs)) (reverse xs ++ x ∷ []) (reverse-append (x ∷ []) xs) (All-push P (reverse xs) x (reversed xs (All-tail P x xs h)) (All-head P x xs h))

    by : (ys : List Setting) → All P ys → find p ys ≡ Some s → P s × (p s ≡ true)
    by [] k e = cc
    by (y ∷ ys) k e = at_test (p y) refl (λ f. by ys (All-tail P y ys k) f) e
      where
        at_test : (b : Bool) → p y ≡ b → (find p ys ≡ Some s → P s × (p s ≡ true)) → cond b (Some y) (find p ys) ≡ Some s → P s × (p s ≡ true)
        at_test true t on e = let same : y ≡ s = cc in (subst P same (All-head P y ys k), ap p (sym same) ∙ t)
        at_test false t on e = on e

and_left : (a b : Bool) → a && b ≡ true → a ≡ true
and_left true b e = refl
and_left false b e = absurd (false≢true e)

pub row_values : (ports : Ports) (stimulus : Stimulus) (start : List Value) (cycle : ℕ) → IsFormed ports stimulus → AreValuesOf ports.inputs start → AreValuesOf ports.inputs (row_from start stimulus.settings cycle)
row_values ports stimulus start cycle f h = by 0 ports.inputs start (λ k. let z : 0 + k ≡ k = omega arith in ap (slice_get ports.inputs) z) h
  where
    value_fits : (n : ℕ) (leaf : PortLeaf) (v : Value) → slice_get ports.inputs n ≡ Some leaf → (v.kind ≡ leaf.kind) × (v.width ≡ leaf.width)
        → ((value_or (last_set stimulus.settings cycle n) v).kind ≡ leaf.kind) × ((value_or (last_set stimulus.settings cycle n) v).width ≡ leaf.width)
    value_fits n leaf v there h = at_set (last_set stimulus.settings cycle n) refl
      where
        at_set : (o : Option Setting) → last_set stimulus.settings cycle n ≡ o → ((value_or o v).kind ≡ leaf.kind) × ((value_or o v).width ≡ leaf.width)
        at_set None e = h
        at_set (Some s) e =
            let it = found (IsOf ports) (λ s. eqb s.input n && leb s.cycle cycle) stimulus.settings s f.of_inputs e in
            let same : s.input ≡ n = eqb-true s.input n (and_left (eqb s.input n) (leb s.cycle cycle) it.1) in
            let leaves : Some it.0.leaf ≡ Some leaf = sym it.0.input ∙ (ap (slice_get ports.inputs) same ∙ there) in
            let one : it.0.leaf ≡ leaf = cc in
            (it.0.kind ∙ ap (λ (l : PortLeaf). l.kind) one, it.0.width ∙ ap (λ (l : PortLeaf). l.width) one)

    by : (n : ℕ) (leaves : List PortLeaf) (row : List Value) → ((k : ℕ) → slice_get ports.inputs (n + k) ≡ slice_get leaves k) → AreValuesOf leaves row
        → AreValuesOf leaves (map (λ e. value_or (last_set stimulus.settings cycle e.0) e.1) (enumerate_from n row))
    by n [] [] at h = tt
    by n [] (v ∷ row) at h = absurd h
    by n (leaf ∷ leaves) [] at h = absurd h
    by n (leaf ∷ leaves) (v ∷ row) at h =
        let z : n ≡ n + 0 = omega arith in (
          value_fits n leaf v (ap (slice_get ports.inputs) z ∙ at 0) h.0,
          by (n + 1) leaves row (λ k. let q : n + 1 + k ≡ n + suc k = omega arith in ap (slice_get ports.inputs) q ∙ at (suc k)) h.1,
        )

-- Zeros

zero_row : (settings : List Setting) (cycle n : ℕ) (leaves : List PortLeaf)
    → map (λ (e : ℕ × Value). value_or (last_set settings cycle e.0) e.1) (enumerate_from n (map zero_of leaves)) ≡ map (λ (e : ℕ × PortLeaf). value_in settings cycle e.0 e.1) (enumerate_from n leaves)
zero_row settings cycle n [] = refl
zero_row settings cycle n (leaf ∷ leaves) = ap (λ row. value_in settings cycle n leaf ∷ row) (zero_row settings cycle (n + 1) leaves)

map_same : (f g : ℕ → List Value) → ((c : ℕ) → f c ≡ g c) → (cs : List ℕ) → map f cs ≡ map g cs
map_same f g h [] = refl
map_same f g h (c ∷ cs) = ap₂ (λ y ys. y ∷ ys) (h c) (map_same f g h cs)

pub zero_rows : (ports : Ports) (settings : List Setting) (first count : ℕ) → rows_from (map zero_of ports.inputs) settings first count ≡ whole.rows_from ports settings first count
zero_rows ports settings first count =
    map_same (row_from (map zero_of ports.inputs) settings) (row_in ports settings) (λ c. zero_row settings c 0 ports.inputs) (range_with_len first count)
