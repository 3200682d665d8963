-- Words of slots that tell places.
use Rattle.std.proofs.Common.{◌≡◌, ℕ, zero, suc, ◌+◌, ◌-◌, ◌*◌, ◌%◌, ◌^◌, ◌<◌, ◌≤◌, Bool, true, false, true≢false, nat_lt, if◌then◌else◌, List, [], ◌∷◌, ◌++◌, map, length, slice_index, get_or, drop, Option, Some, None, option_map, pos, bit_and, All, refl, sym, subst, ap, ap₂, ◌∙◌, arith, ⊎_elim, inl, inr, append_assoc, mod-eq_of_lt, mod-lt, pow_pos, pow_mono, pow-add, drop-cons, ◌==◌, ◌⊎◌}
use Rattle.std.specs.Prelude.{Result, Ok, Err, IfOk, OnOk}
use Rattle.std.specs.List.{range_with_len}
use Rattle.std.proofs.lemmas.Bool.{lt-ltb, le-ltb, cases_lt}
use Rattle.std.proofs.lemmas.List.Elements.{All-append}
use Rattle.std.proofs.lemmas.List.FromFn.{length-range_with_len}
use Rattle.bit_words.specs.declared.value.Kind.{Kind}
use Rattle.bit_words.specs.declared.value.Kind.TheVariants.{Unsigned, Signed}
use Rattle.bit_words.specs.declared.value.Value.{Value}
use Rattle.bit_words.specs.Values.{integer, integer_of}
use Rattle.ground_net.specs.Grounds.{element_count, place}
use Rattle.ground_net.specs.Shapes.{shaped, are_index_shapes, is_unsigned}
use Rattle.ground_net.proofs.Shaping.{both_true}
use Rattle.flat_code.specs.declared.instr.Instr.{Instr}
use Rattle.flat_code.specs.declared.instr.Location.{Location}
use Rattle.flat_code.specs.declared.instr.Op.TheVariants as op
use Rattle.flat_code.specs.Meaning.{location_high, location_shape, location_value, location_values, place_by}
use Rattle.flat_code.specs.Fine.{AreKnown, Known, among, nothing, location_shapes, location_slots, slots_of, reads_of, writes_of}
use Rattle.code_draft.specs.declared.draft.Draft.{Draft}
use Rattle.code_draft.specs.Drafts.{IsDraft, Grows, Solved, Computes, Works, word_in, written_in, with_instr, with_slots, at_slot}
use Rattle.code_draft.specs.Segments.{Segment, Step}
use Rattle.code_draft.proofs.Growing.{grows_then, two_known, one_among, two_among, among_first, among_second}
use Rattle.code_draft.proofs.Cuts.{fitted_bits, masked}
use Rattle.code_draft.proofs.Joining.{goes_then}
use Rattle.code_draft.proofs.Segmenting.{map_all, few_written, left_so, right_so, either, among_left, among_right}
use Rattle.code_draft.proofs.Stepping.{computed_step}
use Rattle.code_draft.specs.declared.places.Level.{Level}
use Rattle.code_draft.specs.Places.{Tells, IsCut, on_slots, Gives, Adds, offset_word, guarded_word, GivesLevel, Finds}

-- Words one after the other

pub gives_first : (a b : Draft) (i : Instr) (k : ℕ) (W : List ℕ → ℕ) → Works a b i k → ((words : List ℕ) (inputs : List Value) (F : List ℕ) → word_in i words inputs F ≡ W F) → Gives a b k W
gives_first a b i k W w is = record { grows = w.grows; within = w.within; written = w.written; holds = λ words inputs F sol. w.holds words inputs F sol ∙ is words inputs F }

pub gives_next : (a b c : Draft) (i : Instr) (j k : ℕ) (V W : List ℕ → ℕ) → Gives a b j V → Works b c i k → ((words : List ℕ) (inputs : List Value) (F : List ℕ) → slice_index F j ≡ V F → word_in i words inputs F ≡ W F) → Gives a c k W
gives_next a b c i j k V W g w is = record {
  grows = grows_then a b c g.grows w.grows;
  within = w.within;
  written = w.written;
  holds = λ words inputs F sol. w.holds words inputs F sol ∙ is words inputs F (g.holds words inputs F (w.grows.back words inputs F sol));
}

pub gives_last : (a b c d : Draft) (i : Instr) (j h k : ℕ) (V U W : List ℕ → ℕ) → Gives a b j V → Gives b c h U → Works c d i k
    → ((words : List ℕ) (inputs : List Value) (F : List ℕ) → slice_index F j ≡ V F → slice_index F h ≡ U F → word_in i words inputs F ≡ W F) → Gives a d k W
gives_last a b c d i j h k V U W g f w is = record {
  grows = grows_then a b d g.grows (grows_then b c d f.grows w.grows);
  within = w.within;
  written = w.written;
  holds = λ words inputs F sol.
      let later = w.grows.back words inputs F sol in
      w.holds words inputs F sol ∙ is words inputs F (g.holds words inputs F (f.grows.back words inputs F later)) (f.holds words inputs F later);
}

-- Instructions that may stand there

pub constant_computes : (d : Draft) (mask : ℕ) → Computes d (on_slots op.Constant 0 0 0 mask)
constant_computes d mask = record { plain = refl; known = λ k x lt. absurd (omega (arith, lt)); shift = omega arith }

pub mul_computes : (d : Draft) (j k mask : ℕ) → written_in d j ≡ true → written_in d k ≡ true → Computes d (on_slots op.Mul j k 0 mask)
mul_computes d j k mask e f = record { plain = refl; known = two_known (written_in d) j k e f; shift = omega arith }

pub add_computes : (d : Draft) (j k mask : ℕ) → written_in d j ≡ true → written_in d k ≡ true → Computes d (on_slots op.Add j k 0 mask)
add_computes d j k mask e f = record { plain = refl; known = two_known (written_in d) j k e f; shift = omega arith }

pub less_computes : (d : Draft) (j k mask : ℕ) → written_in d j ≡ true → written_in d k ≡ true → Computes d (on_slots op.Less j k 0 mask)
less_computes d j k mask e f = record { plain = refl; known = two_known (written_in d) j k e f; shift = omega arith }

three_known : (known : Known) (i j k : ℕ) → known i ≡ true → known j ≡ true → known k ≡ true → AreKnown known (i ∷ j ∷ k ∷ [])
three_known known i j k e f g zero d lt = e
three_known known i j k e f g (suc zero) d lt = f
three_known known i j k e f g (suc (suc zero)) d lt = g
three_known known i j k e f g (suc (suc (suc n))) d lt = absurd (omega (arith, lt))

pub mux_computes : (d : Draft) (i j k mask : ℕ) → written_in d i ≡ true → written_in d j ≡ true → written_in d k ≡ true → Computes d (on_slots op.Mux i j k mask)
mux_computes d i j k mask e f g = record { plain = refl; known = three_known (written_in d) i j k e f g; shift = omega arith }

-- What is read and written

pub adds_step : (a b : Draft) (outer kept : List ℕ) (n : ℕ) → Step a b outer kept n → Adds a b outer
adds_step a b outer kept n st = let s = st.segment in adds_of s
  where
    adds_of : Segment a b outer kept n → Adds a b outer
    adds_of s = record { instrs = s.instrs; is = s.is; tables = s.tables; slots = s.slots; reads = λ ports wides on. (s.each ports wides on).reads; writes = λ ports wides on. (s.each ports wides on).writes }

pub adds_segment : (a b : Draft) (outer kept : List ℕ) (n : ℕ) → Segment a b outer kept n → Adds a b outer
adds_segment a b outer kept n s =
    record { instrs = s.instrs; is = s.is; tables = s.tables; slots = s.slots; reads = λ ports wides on. (s.each ports wides on).reads; writes = λ ports wides on. (s.each ports wides on).writes }

pub adds_then : (a b c : Draft) (O P W : List ℕ) → Adds a b O → Adds b c P → ((k : ℕ) → k < a.slots → among O k ≡ true → among W k ≡ true) → ((k : ℕ) → k < a.slots → among P k ≡ true → among W k ≡ true) → Adds a c W
adds_then a b c O P W f g first next =
    let lower = f.slots in
    let upper = g.slots in
    record {
      instrs = f.instrs ++ g.instrs;
      is = g.is ∙ (ap (λ xs. xs ++ g.instrs) f.is ∙ append_assoc a.instrs f.instrs g.instrs);
      tables = goes_then a b c.ports c.wides f.tables g.tables;
      slots = omega (arith, lower, upper);
      reads = λ ports wides on. All-append (λ i. (k : ℕ) → k < a.slots → among (reads_of ports wides i) k ≡ true → among W k ≡ true) f.instrs g.instrs
          (map_all (λ i. (k : ℕ) → k < a.slots → among (reads_of ports wides i) k ≡ true → among O k ≡ true) (λ i. (k : ℕ) → k < a.slots → among (reads_of ports wides i) k ≡ true → among W k ≡ true) f.instrs
          (λ i h k lt e. first k lt (h k lt e)) (f.reads ports wides (goes_then b c ports wides g.tables on)))
          (map_all (λ i. (k : ℕ) → k < b.slots → among (reads_of ports wides i) k ≡ true → among P k ≡ true) (λ i. (k : ℕ) → k < a.slots → among (reads_of ports wides i) k ≡ true → among W k ≡ true) g.instrs
          (λ i h k lt e. next k lt (h k (omega (arith, lt, lower)) e)) (g.reads ports wides on));
      writes = λ ports wides on. All-append (λ i. (k : ℕ) → among (writes_of wides i) k ≡ true → (a.slots ≤ k) × (k < c.slots)) f.instrs g.instrs
          (map_all (λ i. (k : ℕ) → among (writes_of wides i) k ≡ true → (a.slots ≤ k) × (k < b.slots)) (λ i. (k : ℕ) → among (writes_of wides i) k ≡ true → (a.slots ≤ k) × (k < c.slots)) f.instrs
          (λ i h k e. let up = (h k e).1 in ((h k e).0, omega (arith, up, upper))) (f.writes ports wides (goes_then b c ports wides g.tables on)))
          (map_all (λ i. (k : ℕ) → among (writes_of wides i) k ≡ true → (b.slots ≤ k) × (k < c.slots)) (λ i. (k : ℕ) → among (writes_of wides i) k ≡ true → (a.slots ≤ k) × (k < c.slots)) g.instrs
          (λ i h k e. let low = (h k e).0 in (omega (arith, low, lower), (h k e).1)) (g.writes ports wides on));
    }

-- one instruction that computes
pub adds_one : (a b : Draft) (i : Instr) (outer : List ℕ) → Rattle.code_draft.specs.Drafts.computes i.op ≡ true → ((k : ℕ) → among (reads_of [] [] i) k ≡ true → among outer k ≡ true)
    → b ≡ with_instr (with_slots a 1) (at_slot a.slots i) → Adds a b outer
adds_one a b i outer plain out e = adds_step a b outer (a.slots ∷ []) 2 (subst (λ x. Step a x outer (a.slots ∷ []) 2) (sym e) (computed_step a i outer plain out))

-- Where it takes few slots, few are live.
among_range : (a n k : ℕ) → a ≤ k → k < a + n → among (range_with_len a n) k ≡ true
among_range a zero k low up = absurd (omega (arith, low, up))
among_range a (suc n) k low up = ⊎_elim
    (λ later. right_so _ (among (range_with_len (a + 1) n) k) (among_range (a + 1) n k (omega (arith, later)) (omega (arith, up))))
    (λ here. let same : k ≡ a = omega (arith, here, low) in ap (λ j. among (a ∷ range_with_len (a + 1) n) j) same ∙ among_first a (range_with_len (a + 1) n))
    (cases_lt a k)

pub small_adds : (a b : Draft) (outer kept : List ℕ) (n : ℕ) → Adds a b outer → b.slots ≤ a.slots + n → ((k : ℕ) → among kept k ≡ true → (a.slots ≤ k) × (k < b.slots)) → length kept ≤ n → Segment a b outer kept n
small_adds a b outer kept n f few own kept_few =
    let own_slots = range_with_len a.slots n in
    let long = length-range_with_len a.slots n in
    record {
      instrs = f.instrs;
      is = f.is;
      tables = f.tables;
      slots = f.slots;
      each = λ ports wides on. record {
        reads = f.reads ports wides on;
        writes = f.writes ports wides on;
        few = λ after ok. few_written ports wides n a.slots after own_slots (omega (arith, long)) f.instrs nothing
            (map_all (λ i. (k : ℕ) → among (writes_of wides i) k ≡ true → (a.slots ≤ k) × (k < b.slots)) (λ i. (k : ℕ) → among (writes_of wides i) k ≡ true → among own_slots k ≡ true) f.instrs
            (λ i h k e. let low = (h k e).0 in let up = (h k e).1 in among_range a.slots n k low (omega (arith, up, few))) (f.writes ports wides on))
            (λ k e. absurd (true≢false (sym e)));
      };
      there = λ k e. inl (own k e);
      few = kept_few;
    }

-- Places

module _ (all C n x a : ℕ) (some : 0 < C) (inside : n * C ≤ all) (few : all < 2 ^ 32) where
  below_so : x < n → x * C + C ≤ all
  below_so lt =
      let one : suc x * C ≤ n * C = mono (suc x) n lt in
      let e : suc x * C ≡ x * C + C = grind arith in
      omega (arith, one, e, inside)
    where
      mono : (p q : ℕ) → p ≤ q → p * C ≤ q * C
      mono p q le = grind (arith, le)

  words_sum : x < n → a < 2 ^ 34 → (x * C % 2 ^ 64 + a) % 2 ^ 64 ≡ x * C + a
  words_sum lt small =
      let h = below_so lt in
      ap (λ y. (y + a) % 2 ^ 64) (mod_small (x * C) (omega (arith, h, few, some))) ∙ mod_small (x * C + a) (omega (arith, h, few, small, some))
    where
      mod_small : (m : ℕ) → m < 2 ^ 64 → m % 2 ^ 64 ≡ m
      mod_small m less = mod-eq_of_lt less

  told_below : (o : Option ℕ) → x < n → Tells all C o a → Tells all (n * C) (option_map (λ p. x * C + p) o) ((x * C % 2 ^ 64 + a) % 2 ^ 64)
  told_below (Some p) lt t =
      let is = t.0 in
      let within = t.1 in
      let h = below_so lt in
      let sum = words_sum lt (omega (arith, is, within, h, few)) in
      (sum ∙ ap (λ y. x * C + y) is, omega (arith, within, tight lt))
    where
      tight : x < n → x * C + C ≤ n * C
      tight less =
          let one : suc x * C ≤ n * C = mono (suc x) n less in
          let e : suc x * C ≡ x * C + C = grind arith in
          omega (arith, one, e)
        where
          mono : (p q : ℕ) → p ≤ q → p * C ≤ q * C
          mono p q le = grind (arith, le)
  told_below None lt t =
      let low = t.0 in
      let up = t.1 in
      let h = below_so lt in
      let sum = words_sum lt (omega (arith, up, h, few)) in
      let most = tight lt in
      (omega (arith, sum, low), omega (arith, sum, up, most))
    where
      tight : x < n → x * C + C ≤ n * C
      tight less =
          let one : suc x * C ≤ n * C = mono (suc x) n less in
          let e : suc x * C ≡ x * C + C = grind arith in
          omega (arith, one, e)
        where
          mono : (p q : ℕ) → p ≤ q → p * C ≤ q * C
          mono p q le = grind (arith, le)

  pub told_more : (o : Option ℕ) → 0 < n * C → Tells all C o a
      → Tells all (n * C) (if nat_lt x n then option_map (λ p. x * C + p) o else None) (if nat_lt x n then (x * C % 2 ^ 64 + a) % 2 ^ 64 else all)
  told_more o most t = ⊎_elim
      (λ lt. subst (λ b. Tells all (n * C) (if b then option_map (λ p. x * C + p) o else None) (if b then (x * C % 2 ^ 64 + a) % 2 ^ 64 else all)) (sym (lt-ltb x n lt)) (told_below o lt t))
      (λ le. subst (λ b. Tells all (n * C) (if b then option_map (λ p. x * C + p) o else None) (if b then (x * C % 2 ^ 64 + a) % 2 ^ 64 else all)) (sym (le-ltb x n le)) (omega arith, omega (arith, most)))
      (cases_lt x n)

-- Answers of calls

pub ok_so : {A E : Type 0} {P Q : A → Type 0} (r : Result A E) → IfOk r P → ((s : A) → P s → Q s) → IfOk r Q
ok_so (Ok s) h f = f s h
ok_so (Err e) h f = tt

pub ok_both : {A E : Type 0} (P Q : A → Type 0) (r : Result A E) → IfOk r P → IfOk r Q → IfOk r (λ s. P s × Q s)
ok_both P Q (Ok s) h k = (h, k)
ok_both P Q (Err e) h k = tt

pub on_both : {A E : Type 0} (P : A → Type 0) (Q : Type 0) (r : Result A E) → IfOk r P → OnOk r Q → IfOk r (λ s. P s × Q)
on_both P Q (Ok s) h k = (h, k)
on_both P Q (Err e) h k = tt

pub works_as : (a b : Draft) (i j : Instr) (k : ℕ) → i ≡ j → (IsDraft a → Computes a i → Works a b i k) → IsDraft a → Computes a j → Works a b j k
works_as a b i j k e f is can = subst (λ x. Works a b x k) e (f is (subst (Computes a) (sym e) can))

pub code_as : (a b : Draft) (i j : Instr) → i ≡ j → b ≡ with_instr (with_slots a 1) (at_slot a.slots i) → b ≡ with_instr (with_slots a 1) (at_slot a.slots j)
code_as a b i j e f = f ∙ ap (λ x. with_instr (with_slots a 1) (at_slot a.slots x)) e

-- The words of instructions

cut_whole : (y : ℕ) → bit_and (y % 2 ^ 64) (2 ^ 64 - 1) ≡ y % 2 ^ 64
cut_whole y = masked (y % 2 ^ 64) 64 (2 ^ 64 - 1) refl ∙ mod_small (y % 2 ^ 64) (mod-lt y (pow_pos 64))
  where
    mod_small : (m : ℕ) → m < 2 ^ 64 → m % 2 ^ 64 ≡ m
    mod_small m less = mod-eq_of_lt less

pub product_word : (x f C : ℕ) → f ≡ C → bit_and (x * f % 2 ^ 64) (2 ^ 64 - 1) ≡ x * C % 2 ^ 64
product_word x f C e = cut_whole (x * f) ∙ ap (λ y. x * y % 2 ^ 64) e

pub sum_word : (p r q : ℕ) → p ≡ q → bit_and ((p + r) % 2 ^ 64) (2 ^ 64 - 1) ≡ (q + r) % 2 ^ 64
sum_word p r q e = cut_whole (p + r) ∙ ap (λ y. (y + r) % 2 ^ 64) e

pub mux_word : (b : Bool) (g x h y : ℕ) → g ≡ (if b then 1 else 0) → h ≡ y → (if g == 1 then x else h) ≡ (if b then x else y)
mux_word true g x h y e f = ap (λ n. if n == 1 then x else h) e
mux_word false g x h y e f = ap (λ n. if n == 1 then x else h) e ∙ f

-- Older slots

pub out_first : (i f r n k : ℕ) → n ≤ f → k < n → among (i ∷ f ∷ []) k ≡ true → among (i ∷ r ∷ []) k ≡ true
out_first i f r n k le lt e = ⊎_elim (λ h. ap (among (i ∷ r ∷ [])) h ∙ among_first i (r ∷ [])) (λ h. absurd (omega (arith, h, le, lt))) (two_among k i f e)

pub out_second : (p r i n k : ℕ) → n ≤ p → k < n → among (p ∷ r ∷ []) k ≡ true → among (i ∷ r ∷ []) k ≡ true
out_second p r i n k le lt e = ⊎_elim (λ h. absurd (omega (arith, h, le, lt))) (λ h. ap (among (i ∷ r ∷ [])) h ∙ among_second i r) (two_among k p r e)

pub out_third : (g s h i n k : ℕ) → n ≤ g → n ≤ h → k < n → among (g ∷ s ∷ h ∷ []) k ≡ true → among (i ∷ s ∷ []) k ≡ true
out_third g s h i n k le more lt e = ⊎_elim
    (λ first. let same = one_among k g (left_so (k == g) false first) in absurd (omega (arith, same, le, lt)))
    (λ rest. out_second_of (two_among k s h rest))
    (either (k == g) (among (s ∷ h ∷ []) k) e)
  where
    out_second_of : (k ≡ s) ⊎ (k ≡ h) → among (i ∷ s ∷ []) k ≡ true
    out_second_of (inl is) = ap (among (i ∷ s ∷ [])) is ∙ among_second i s
    out_second_of (inr is) = absurd (omega (arith, is, more, lt))

-- One index

pub level_narrow : (a b : Draft) (l : Level) (rest k : ℕ) → 2 ^ l.index.width ≤ l.length → Gives a b k (offset_word l rest) → GivesLevel a b l rest k
level_narrow a b l rest k le g = record {
  grows = g.grows;
  within = g.within;
  written = g.written;
  holds = λ words inputs F sol cut.
      let lt = below (slice_index F l.index.low) (2 ^ l.index.width) l.length cut le in
      g.holds words inputs F sol ∙ ap (λ b. if b then offset_word l rest F else l.all) (sym (lt-ltb (slice_index F l.index.low) l.length lt));
}
  where
    below : (x y z : ℕ) → x < y → y ≤ z → x < z
    below x y z h m = omega (arith, h, m)

pub level_guarded : (a b c : Draft) (l : Level) (rest sum k : ℕ) → Gives a b sum (offset_word l rest) → Gives b c k (guarded_word l sum) → GivesLevel a c l rest k
level_guarded a b c l rest sum k g f = record {
  grows = grows_then a b c g.grows f.grows;
  within = f.within;
  written = f.written;
  holds = λ words inputs F sol cut.
      f.holds words inputs F sol ∙ ap (λ y. if nat_lt (slice_index F l.index.low) l.length then y else l.all) (g.holds words inputs F (f.grows.back words inputs F sol));
}

pub one_shifted : (w n : ℕ) → w < 64 → 1 * 2 ^ w % 2 ^ 64 ≤ n → 2 ^ w ≤ n
one_shifted w n lt le =
    let le_all : 1 + w ≤ 64 = omega (arith, lt) in
    let p : 2 ^ (1 + w) ≤ 2 ^ 64 = pow_mono le_all in
    let e : 2 ^ (1 + w) ≡ 2 * 2 ^ w = pow-add 2 1 w in
    let some : 0 < 2 ^ w = pow_pos w in
    let one : 1 * 2 ^ w ≡ 2 ^ w = omega arith in
    let same : 2 ^ w % 2 ^ 64 ≡ 2 ^ w = mod_small (2 ^ w) (less (2 ^ w) (2 ^ (1 + w)) p e some) in
    at_most (1 * 2 ^ w % 2 ^ 64) (2 ^ w) n (ap (λ y. y % 2 ^ 64) one ∙ same) le
  where
    less : (x y : ℕ) → y ≤ 2 ^ 64 → y ≡ 2 * x → 0 < x → x < 2 ^ 64
    less x y h e s = omega (arith, h, e, s)

    mod_small : (m : ℕ) → m < 2 ^ 64 → m % 2 ^ 64 ≡ m
    mod_small m h = mod-eq_of_lt h

    at_most : (x y n : ℕ) → x ≡ y → x ≤ n → y ≤ n
    at_most x y n e h = omega (arith, e, h)

-- Indices from one on

no_more : (n : ℕ) → n + 0 * 2 ^ 64 ≡ n
no_more n = omega arith

pub bits_at : (F : List ℕ) (x : Location) → x.width ≤ 64 → IsCut F x → (location_value F x).bits ≡ slice_index F x.low
bits_at F x few cut =
    let low = slice_index F x.low in
    let narrow : nat_lt 64 x.width ≡ false = le-ltb 64 x.width few in
    fitted_bits x.kind x.width (low + location_high F x * 2 ^ 64) (omega (arith, few))
    ∙ (ap (λ b. (low + (if b then slice_index F x.high else 0) * 2 ^ 64) % 2 ^ x.width) narrow ∙ (ap (λ n. n % 2 ^ x.width) (no_more low) ∙ small low (2 ^ x.width) cut))
  where
    small : (n m : ℕ) → n < m → n % m ≡ n
    small n m lt = mod-eq_of_lt lt

pub index_pos : (F : List ℕ) (i : Location) → is_unsigned (location_shape i) ≡ true → integer_of (location_value F i) ≡ pos (location_value F i).bits
index_pos F i h = by_kind i.kind refl h
  where
    by_kind : (k : Kind) → i.kind ≡ k → is_unsigned (location_shape i) ≡ true → integer_of (location_value F i) ≡ pos (location_value F i).bits
    by_kind Unsigned e h = ap (λ k. integer k (location_value F i).width (location_value F i).bits) e
    by_kind Signed e h = absurd (true≢false (sym h ∙ ap (λ k. is_unsigned (shaped k 0)) e))

pub finds_none : (a b : Draft) (all slot : ℕ) → 0 < all → Gives a b slot (λ F. 0) → Finds a b [] [] all slot
finds_none a b all slot some g =
    record { grows = g.grows; within = g.within; written = g.written; holds = λ words inputs F sol cut. (g.holds words inputs F sol, omega arith) }

pub finds_more : (a b c : Draft) (i : Location) (js : List Location) (n : ℕ) (ns : List ℕ) (l : Level) (rest slot : ℕ) → l.index ≡ i → l.length ≡ n → l.inner ≡ element_count ns → is_unsigned (location_shape i) ≡ true → i.width ≤ 64
    → 0 < element_count ns → 0 < n * element_count ns → n * element_count ns ≤ l.all → l.all < 2 ^ 32 → Finds a b js ns l.all rest → GivesLevel b c l rest slot → Finds a c (i ∷ js) (n ∷ ns) l.all slot
finds_more a b c i js n ns l rest slot same long inner unsigned few some most inside small f g = record {
  grows = grows_then a b c f.grows g.grows;
  within = g.within;
  written = g.written;
  holds = λ words inputs F sol cut.
      let first : IsCut F i = cut 0 i (omega arith) in
      let others : All (IsCut F) js = λ k d lt. cut (suc k) d (omega (arith, lt)) in
      let C = element_count ns in
      let x = slice_index F i.low in
      let back = g.grows.back words inputs F sol in
      let told = told_more l.all C n x (slice_index F rest) some inside small (place_by (location_values F js) ns) most (f.holds words inputs F back others) in
      let bits = bits_at F i few first in
      let here : place_by (location_values F (i ∷ js)) (n ∷ ns) ≡ (if nat_lt x n then option_map (λ p. x * C + p) (place_by (location_values F js) ns) else None) =
      ap (λ z. place (z ∷ map integer_of (location_values F js)) (n ∷ ns)) (index_pos F i unsigned)
      ∙ ap (λ y. if nat_lt y n then option_map (λ p. y * C + p) (place_by (location_values F js) ns) else None) bits in
      let word : slice_index F slot ≡ (if nat_lt x n then (x * C % 2 ^ 64 + slice_index F rest) % 2 ^ 64 else l.all) =
      g.holds words inputs F sol (subst (IsCut F) (sym same) first)
      ∙ (ap (λ (s : Location). if nat_lt (slice_index F s.low) l.length then (slice_index F s.low * l.inner % 2 ^ 64 + slice_index F rest) % 2 ^ 64 else l.all) same
      ∙ ap₂ (λ m q. if nat_lt x m then (x * q % 2 ^ 64 + slice_index F rest) % 2 ^ 64 else l.all) long inner) in
      subst (λ o. Tells l.all (n * C) o (slice_index F slot)) (sym here) (subst (Tells l.all (n * C) (if nat_lt x n then option_map (λ p. x * C + p) (place_by (location_values F js) ns) else None)) (sym word) told);
}

-- Lists from a place on

shapes_from : (is : List Location) (ls : List ℕ) (k : ℕ) → are_index_shapes (location_shapes is) ls ≡ true → are_index_shapes (location_shapes (drop k is)) (drop k ls) ≡ true
shapes_from is ls zero h = h
shapes_from [] [] (suc k) h = refl
shapes_from [] (n ∷ ls) (suc k) h = absurd (true≢false (sym h))
shapes_from (i ∷ is) [] (suc k) h = absurd (true≢false (sym h))
shapes_from (i ∷ is) (n ∷ ls) (suc k) h = shapes_from is ls k (both_true (is_unsigned (location_shape i)) (are_index_shapes (location_shapes is) ls) h).1

pub shapes_long : (is : List Location) (ls : List ℕ) → are_index_shapes (location_shapes is) ls ≡ true → length is ≡ length ls
shapes_long [] [] h = refl
shapes_long [] (n ∷ ls) h = absurd (true≢false (sym h))
shapes_long (i ∷ is) [] h = absurd (true≢false (sym h))
shapes_long (i ∷ is) (n ∷ ls) h = ap suc (shapes_long is ls (both_true (is_unsigned (location_shape i)) (are_index_shapes (location_shapes is) ls) h).1)

some_factor : (n c : ℕ) → 0 < n * c → (0 < c) × (c ≤ n * c)
some_factor zero c h = absurd (let z : 0 * c ≡ 0 = grind arith in omega (arith, h, z))
some_factor (suc n) c h = let e : suc n * c ≡ c + n * c = grind arith in ⊎_elim (λ some. (some, omega (arith, e))) (λ none. absurd (zero_times n c none h)) (cases_lt 0 c)
  where
    zero_times : (n c : ℕ) → c ≤ 0 → 0 < suc n * c → ⊥
    zero_times n zero le h = let z : suc n * 0 ≡ 0 = grind arith in omega (arith, h, z)
    zero_times n (suc c) le h = omega (arith, le)

counts_from : (ls : List ℕ) (k : ℕ) → 0 < element_count ls → (0 < element_count (drop k ls)) × (element_count (drop k ls) ≤ element_count ls)
counts_from ls zero h = (h, omega arith)
counts_from [] (suc k) h = (h, omega arith)
counts_from (n ∷ ls) (suc k) h =
    let here = some_factor n (element_count ls) h in
    let rest = counts_from ls k here.0 in
    let most = rest.1 in
    let more = here.1 in
    (rest.0, omega (arith, most, more))

-- what is known of the index at a place
pub record IsLevel (is : List Location) (ls : List ℕ) (all k : ℕ) (i : Location) (n : ℕ) : Type 0 where
  pub indices : drop k is ≡ i ∷ drop (suc k) is
  pub lengths : drop k ls ≡ n ∷ drop (suc k) ls
  pub unsigned : is_unsigned (location_shape i) ≡ true
  pub some : 0 < element_count (drop (suc k) ls)
  pub most : 0 < n * element_count (drop (suc k) ls)
  pub inside : n * element_count (drop (suc k) ls) ≤ all

pub level_at : (is : List Location) (ls : List ℕ) (all k : ℕ) (i : Location) (n : ℕ) → are_index_shapes (location_shapes is) ls ≡ true → element_count ls ≡ all → 0 < all → k < length is → i ≡ get_or is k i → n ≡ get_or ls k 0
    → IsLevel is ls all k i n
level_at is ls all k i n shape counted some lt here there =
    let long = shapes_long is ls shape in
    let indices : drop k is ≡ i ∷ drop (suc k) is = drop-cons is k i lt ∙ ap (λ x. x ∷ drop (suc k) is) (sym here) in
    let lengths : drop k ls ≡ n ∷ drop (suc k) ls = drop-cons ls k 0 (omega (arith, lt, long)) ∙ ap (λ x. x ∷ drop (suc k) ls) (sym there) in
    let from = counts_from ls k (omega (arith, counted, some)) in
    let count : element_count (drop k ls) ≡ n * element_count (drop (suc k) ls) = ap element_count lengths in
    let positive = from.0 in
    let within = from.1 in
    let factor = some_factor n (element_count (drop (suc k) ls)) (omega (arith, count, positive)) in
    let test = subst (λ xs. are_index_shapes (location_shapes xs) (drop k ls) ≡ true) indices (shapes_from is ls k shape) in
    let both = both_true (is_unsigned (location_shape i)) (are_index_shapes (location_shapes (drop (suc k) is)) (drop (suc k) ls)) (subst (λ xs. are_index_shapes (location_shapes (i ∷ drop (suc k) is)) xs ≡ true) lengths test) in
    record {
      indices = indices;
      lengths = lengths;
      unsigned = both.0;
      some = factor.0;
      most = omega (arith, count, positive);
      inside = omega (arith, count, within, counted);
    }

pub slot_among : (is : List Location) (k : ℕ) (i : Location) → k < length is → i ≡ get_or is k i → among (slots_of is) i.low ≡ true
slot_among [] k i lt e = absurd (omega (arith, lt))
slot_among (s ∷ is) zero i lt e = among_left (location_slots s) (slots_of is) i.low (subst (λ t. among (location_slots s) t.low ≡ true) (sym e) (low_among s))
  where
    low_among : (s : Location) → among (location_slots s) s.low ≡ true
    low_among s = by_width (nat_lt 64 s.width)
      where
        by_width : (b : Bool) → among (if b then s.low ∷ s.high ∷ [] else s.low ∷ []) s.low ≡ true
        by_width true = among_first s.low (s.high ∷ [])
        by_width false = among_first s.low []
slot_among (s ∷ is) (suc k) i lt e = among_right (location_slots s) (slots_of is) i.low (slot_among is k i (omega (arith, lt)) e)

pub length_within : (n c all : ℕ) → 0 < c → n * c ≤ all → n ≤ all
length_within n zero all some le = absurd (omega (arith, some))
length_within n (suc c) all some le = let e : n * suc c ≡ n + n * c = grind arith in omega (arith, e, le)
