-- Instructions that read no slot: what they leave at a location.
use Rattle.std.proofs.Common.{◌≡◌, ℕ, ◌+◌, ◌-◌, ◌*◌, ◌/◌, ◌%◌, ◌^◌, ◌<◌, ◌≤◌, true, false, nat_lt, if◌then◌else◌, List, [], ◌∷◌, length, slice_index, slice_set, pos, bit_and, slice_get, Option, Some, None, refl, sym, subst, ap, ◌∙◌, arith, pow_pos, mod-lt}
use Rattle.std.proofs.lemmas.Bool.{lt-ltb, le-ltb}
use Rattle.std.proofs.lemmas.List.{get_or-set_same}
use Rattle.bit_words.specs.declared.value.Kind.{Kind}
use Rattle.bit_words.specs.declared.value.Value.{Value}
use Rattle.prim_ops.specs.Values.{fitted}
use Rattle.ground_net.specs.Shapes.{shaped, shape_of_value}
use Rattle.ground_net.specs.Words.{value_at, high_at}
use Rattle.ground_net.proofs.Shaping.{fitted_shape}
use Rattle.flat_code.specs.declared.instr.Op.{Op}
use Rattle.flat_code.specs.declared.instr.Op.TheVariants as op
use Rattle.flat_code.specs.declared.instr.Instr.{Instr}
use Rattle.flat_code.specs.declared.instr.Location.{Location}
use Rattle.flat_code.specs.declared.instr.Wide.{Wide}
use Rattle.flat_code.specs.Meaning.{acted, acted_on, pushed_on, input_word, input_high, low_of}
use Rattle.flat_code.specs.Fine.{FineOn, AreKnown, among, reads_on, writes_on, writes_of, location_slots, further_words}
use Rattle.flat_code.specs.Orders.{Solves, AreNew}
use Rattle.code_draft.specs.declared.draft.Draft.{Draft}
use Rattle.code_draft.specs.Drafts.{IsDraft, Solved, Makes, Wanted, written_in, with_instr, with_slots, location_from, IsConstant, IsWord, IsInput}
use Rattle.code_draft.proofs.Growing.{Follows, grows_instr, grows_slots, grows_then, all_last, one_new, one_known, two_known, one_among, unwritten, written_here, among_first, other, still}
use Rattle.code_draft.proofs.Cuts.{fitted_bits, low_cut, low_whole, low_wide, high_wide, masked}

abbrev pub Word : Type 0
Word = List ℕ → List Value → ℕ

-- An instruction over m shared words that reads no slot and leaves a word in its target.
pub record Fetches (m : ℕ) (i : Instr) (W : Word) : Type 0 where
  pub follows : (d : Draft) → d.words ≡ m → i.target < d.slots → written_in d i.target ≡ false → Follows d i.op i
  pub writes : (wides : List Wide) → writes_of wides i ≡ i.target ∷ []
  pub gives : (wides : List Wide) (words : List ℕ) (inputs : List Value) (F : List ℕ) → acted wides i words inputs F ≡ slice_set F i.target (W words inputs)

abbrev OnTarget : Draft → Op → Instr → Type 0
OnTarget d o i = FineOn o d.slots d.words (length d.ports) (length d.wides) i

target_follows : (d : Draft) (o : Op) (i : Instr) → OnTarget d o i → reads_on o d.ports d.wides i ≡ [] → writes_on o d.wides i ≡ i.target ∷ [] → ((F : List ℕ) → pushed_on o d.ports i F ≡ [])
    → i.target < d.slots → written_in d i.target ≡ false → Follows d o i
target_follows d o i fine reads writes quiet lt new = record {
  fine = fine;
  reads = subst (AreKnown (written_in d)) (sym reads) (λ k x h. absurd (omega (arith, h)));
  new = subst (AreNew (written_in d)) (sym writes) (one_new (written_in d) i.target new);
  within = λ k h. let e = one_among k i.target (subst (λ ks. among ks k ≡ true) writes h) in omega (arith, e, lt);
  quiet = quiet;
}

-- the four of them
pub constant_fetches : (m : ℕ) (i : Instr) → i.op ≡ op.Constant → Fetches m i (λ words inputs. i.mask)
constant_fetches m i e = record {
  follows = λ d w lt new. subst (λ o. Follows d o i) (sym e) (target_follows d op.Constant i lt refl refl (λ F. refl) lt new);
  writes = λ wides. ap (λ o. writes_on o wides i) e;
  gives = λ wides words inputs F. ap (λ o. acted_on o wides i words inputs F) e;
}

pub load_fetches : (m : ℕ) (i : Instr) → i.op ≡ op.Load → i.first < m → Fetches m i (λ words inputs. bit_and (slice_index words i.first) i.mask)
load_fetches m i e at = record {
  follows = λ d w lt new. subst (λ o. Follows d o i) (sym e) (target_follows d op.Load i (lt, subst (λ x. i.first < x) (sym w) at) refl refl (λ F. refl) lt new);
  writes = λ wides. ap (λ o. writes_on o wides i) e;
  gives = λ wides words inputs F. ap (λ o. acted_on o wides i words inputs F) e;
}

pub input_fetches : (m : ℕ) (i : Instr) → i.op ≡ op.Input → Fetches m i (λ words inputs. bit_and (input_word inputs i.first) i.mask)
input_fetches m i e = record {
  follows = λ d w lt new. subst (λ o. Follows d o i) (sym e) (target_follows d op.Input i lt refl refl (λ F. refl) lt new);
  writes = λ wides. ap (λ o. writes_on o wides i) e;
  gives = λ wides words inputs F. ap (λ o. acted_on o wides i words inputs F) e;
}

pub high_fetches : (m : ℕ) (i : Instr) → i.op ≡ op.InputHigh → Fetches m i (λ words inputs. bit_and (input_high inputs i.first) i.mask)
high_fetches m i e = record {
  follows = λ d w lt new. subst (λ o. Follows d o i) (sym e) (target_follows d op.InputHigh i lt refl refl (λ F. refl) lt new);
  writes = λ wides. ap (λ o. writes_on o wides i) e;
  gives = λ wides words inputs F. ap (λ o. acted_on o wides i words inputs F) e;
}

-- a slot that stays as it is when a word is put there holds that word
pub put_there : (F : List ℕ) (t w : ℕ) → t < length F → slice_index (slice_set F t w) t ≡ slice_index F t → slice_index F t ≡ w
put_there F t w lt e = sym e ∙ get_or-set_same F t w 0 lt

last_word : (d : Draft) (i : Instr) (W : Word) (words : List ℕ) (inputs : List Value) (F : List ℕ) → Fetches d.words i W → i.target < d.slots → Solved (with_instr d i) words inputs F → slice_index F i.target ≡ W words inputs
last_word d i W words inputs F f lt s =
    let last = all_last (Solves d.wides words inputs F) d.instrs i s.each in
    let long = s.long in
    put_there F i.target (W words inputs) (omega (arith, lt, long)) (ap (λ G. slice_index G i.target) (sym (f.gives d.wides words inputs F)) ∙ last.same i.target)

-- one word
pub fetched_narrow : (d : Draft) (s : Location) (kind : Kind) (width : ℕ) (i : Instr) (W : Word) (V : Wanted) → IsDraft d → location_from d.slots kind width s → i.target ≡ s.low → width ≤ 64 → Fetches d.words i W
    → ((words : List ℕ) (inputs : List Value) (F : List ℕ) (v : Value) → V words inputs F v → (shape_of_value v ≡ shaped kind width) × (W words inputs ≡ v.bits % 2 ^ 64))
    → Makes d (with_instr (with_slots d (further_words width + 1)) i) s V
fetched_narrow d s kind width i W V is at to few f value =
    let d1 = with_slots d (further_words width + 1) in
    let w : s.width ≡ width = ap (λ t. t.width) at.0 in
    let low = at.1 in
    let narrow : nat_lt 64 width ≡ false = le-ltb 64 width few in
    let none : further_words width ≡ 0 = ap (λ b. if b then 1 else 0) narrow in
    let high : s.high ≡ d.slots + 0 = at.2 ∙ ap (λ n. d.slots + n) none in
    let lt : i.target < d1.slots = omega (arith, to, low, none) in
    let g1 = grows_slots d (further_words width + 1) is in
    let new : written_in d i.target ≡ false = unwritten d i.target is (omega (arith, to, low)) in
    let g2 = grows_instr d1 i g1.is (f.follows d1 refl lt new) in
    let slots : location_slots s ≡ s.low ∷ [] = ap (λ b. if b then s.low ∷ s.high ∷ [] else s.low ∷ []) (ap (nat_lt 64) w ∙ narrow) in
    record {
      grows = grows_then d d1 (with_instr d1 i) g1 g2;
      stands = record {
        within = record { low = omega (arith, low, none); high = omega (arith, high, none) };
        written = subst (AreKnown (written_in (with_instr d1 i))) (sym slots)
            (one_known (written_in (with_instr d1 i)) s.low (written_here d1 i s.low (subst (λ ks. among ks s.low ≡ true) (ap (λ t. t ∷ []) (sym to) ∙ sym (f.writes d.wides)) (among_first s.low []))));
      };
      holds = λ words inputs F v sol wanted.
          let is_value = value words inputs F v wanted in
          record {
            shape = is_value.0 ∙ sym at.0;
            low = ap (slice_index F) (sym to) ∙ (last_word d1 i W words inputs F f lt sol ∙ is_value.1);
            high = λ more. absurd (omega (arith, more, few, w));
          };
    }

-- two words
pub fetched_wide : (d : Draft) (s : Location) (kind : Kind) (width : ℕ) (i j : Instr) (W U : Word) (V : Wanted) → IsDraft d → location_from d.slots kind width s → i.target ≡ s.low → j.target ≡ s.high → 64 < width
    → Fetches d.words i W → Fetches d.words j U
    → ((words : List ℕ) (inputs : List Value) (F : List ℕ) (v : Value) → ((k : ℕ) → slice_index words k < 2 ^ 64) → V words inputs F v
    → (shape_of_value v ≡ shaped kind width) × (W words inputs ≡ v.bits % 2 ^ 64) × (U words inputs ≡ v.bits / 2 ^ 64))
    → Makes d (with_instr (with_instr (with_slots d (further_words width + 1)) i) j) s V
fetched_wide d s kind width i j W U V is at to up many f g value =
    let d1 = with_slots d (further_words width + 1) in
    let d2 = with_instr d1 i in
    let d3 = with_instr d2 j in
    let w : s.width ≡ width = ap (λ t. t.width) at.0 in
    let wide : nat_lt 64 width ≡ true = lt-ltb 64 width many in
    let one : further_words width ≡ 1 = ap (λ b. if b then 1 else 0) wide in
    let low = at.1 in
    let high : s.high ≡ d.slots + 1 = at.2 ∙ ap (λ n. d.slots + n) one in
    let lt : i.target < d1.slots = omega (arith, to, low, one) in
    let lu : j.target < d1.slots = omega (arith, up, high, one) in
    let g1 = grows_slots d (further_words width + 1) is in
    let g2 = grows_instr d1 i g1.is (f.follows d1 refl lt (unwritten d i.target is (omega (arith, to, low)))) in
    let apart : among (writes_of d.wides i) j.target ≡ false = ap (λ ks. among ks j.target) (f.writes d.wides) ∙ other j.target i.target (λ e. omega (arith, e, to, up, low, high)) in
    let g3 = grows_instr d2 j g2.is (g.follows d2 refl lu (still d1 i j.target apart (unwritten d j.target is (omega (arith, up, high))))) in
    let slots : location_slots s ≡ s.low ∷ s.high ∷ [] = ap (λ b. if b then s.low ∷ s.high ∷ [] else s.low ∷ []) (ap (nat_lt 64) w ∙ wide) in
    record {
      grows = grows_then d d1 d3 g1 (grows_then d1 d2 d3 g2 g3);
      stands = record {
        within = record { low = omega (arith, low, one); high = omega (arith, high, one) };
        written = subst (AreKnown (written_in d3)) (sym slots)
            (two_known (written_in d3) s.low s.high
            (g3.stays s.low (written_here d1 i s.low (subst (λ ks. among ks s.low ≡ true) (ap (λ t. t ∷ []) (sym to) ∙ sym (f.writes d.wides)) (among_first s.low []))))
            (written_here d2 j s.high (subst (λ ks. among ks s.high ≡ true) (ap (λ t. t ∷ []) (sym up) ∙ sym (g.writes d.wides)) (among_first s.high []))));
      };
      holds = λ words inputs F v sol wanted.
          let is_value = value words inputs F v sol.plain wanted in
          let sol2 = g3.back words inputs F sol in
          record {
            shape = is_value.0 ∙ sym at.0;
            low = ap (slice_index F) (sym to) ∙ (last_word d1 i W words inputs F f lt sol2 ∙ is_value.1);
            high = λ more. ap (slice_index F) (sym up) ∙ (last_word d2 j U words inputs F g lu sol ∙ is_value.2);
          };
    }

-- The values that are fetched

pub constant_value : (c v : Value) (mask : ℕ) → mask ≡ c.bits % 2 ^ 64 → v ≡ c → (shape_of_value v ≡ shaped c.kind c.width) × (mask ≡ v.bits % 2 ^ 64)
constant_value c v mask m e = (ap shape_of_value e, m ∙ ap (λ (x : Value). x.bits % 2 ^ 64) (sym e))

-- what is cut from two words, of at most 64 bits and of more
pub cut_narrow : (kind : Kind) (width x y mask : ℕ) (v : Value) → width ≤ 64 → mask ≡ 2 ^ width - 1 → v ≡ fitted kind width (pos (x + y * 2 ^ 64))
    → (shape_of_value v ≡ shaped kind width) × (bit_and x mask ≡ v.bits % 2 ^ 64)
cut_narrow kind width x y mask v few m e =
    let most : width ≤ 128 = omega (arith, few) in
    let bits : v.bits ≡ x % 2 ^ width = ap (λ (u : Value). u.bits) e ∙ (fitted_bits kind width (x + y * 2 ^ 64) most ∙ low_cut x y width few) in (
      ap shape_of_value e ∙ fitted_shape kind width (pos (x + y * 2 ^ 64)) most,
      masked x width mask m ∙ sym (ap (λ b. b % 2 ^ 64) bits ∙ low_whole x width few),
    )

pub cut_wide : (kind : Kind) (width x y mask upper : ℕ) (v : Value) → 64 < width → width ≤ 128 → x < 2 ^ 64 → mask ≡ 2 ^ 64 - 1 → upper ≡ 2 ^ (width - 64) - 1 → v ≡ fitted kind width (pos (x + y * 2 ^ 64))
    → (shape_of_value v ≡ shaped kind width) × (bit_and x mask ≡ v.bits % 2 ^ 64) × (bit_and y upper ≡ v.bits / 2 ^ 64)
cut_wide kind width x y mask upper v many most small m u e =
    let le : 64 ≤ width = omega (arith, many) in
    let bits : v.bits ≡ (x + y * 2 ^ 64) % 2 ^ width = ap (λ (u : Value). u.bits) e ∙ fitted_bits kind width (x + y * 2 ^ 64) most in (
      ap shape_of_value e ∙ fitted_shape kind width (pos (x + y * 2 ^ 64)) most,
      masked x 64 mask m ∙ sym (ap (λ b. b % 2 ^ 64) bits ∙ low_wide x y width le),
      masked y (width - 64) upper u ∙ sym (ap (λ b. b / 2 ^ 64) bits ∙ high_wide x y width le small),
    )

-- Whole fetches

-- the value that stands at a word, of two words
word_value : (kind : Kind) (width at : ℕ) (words : List ℕ) → 64 < width → value_at (shaped kind width) words at ≡ fitted kind width (pos (slice_index words at + slice_index words (at + 1) * 2 ^ 64))
word_value kind width at words many = ap (λ b. fitted kind width (pos (slice_index words at + (if b then slice_index words (at + 1) else 0) * 2 ^ 64))) (lt-ltb 64 width many)

module _ (d : Draft) (s : Location) (kind : Kind) (width : ℕ) (is : IsDraft d) (at : location_from d.slots kind width s) (most : width ≤ 128) where
  abbrev One : Instr → Draft
  One i = with_instr (with_slots d (further_words width + 1)) i

  abbrev Two : Instr → Instr → Draft
  Two i j = with_instr (One i) j

  pub loaded_narrow : (i : Instr) (word : ℕ) → width ≤ 64 → word + further_words width < d.words → i.op ≡ op.Load → i.first ≡ word → i.target ≡ s.low → i.mask ≡ 2 ^ width - 1
      → Makes d (One i) s (IsWord (shaped kind width) word)
  loaded_narrow i word few room o first to m =
      fetched_narrow d s kind width i (λ words inputs. bit_and (slice_index words i.first) i.mask) (IsWord (shaped kind width) word) is at to few (load_fetches d.words i o (omega (arith, first, room)))
      (λ words inputs F v wanted.
      let cut = cut_narrow kind width (slice_index words word) (high_at (shaped kind width) words word) i.mask v few m wanted in
      (cut.0, ap (λ k. bit_and (slice_index words k) i.mask) first ∙ cut.1))

  pub loaded_wide : (i j : Instr) (word : ℕ) → 64 < width → word + further_words width < d.words → i.op ≡ op.Load → j.op ≡ op.Load → i.first ≡ word → j.first ≡ word + 1 → i.target ≡ s.low → j.target ≡ s.high
      → i.mask ≡ 2 ^ 64 - 1 → j.mask ≡ 2 ^ (width - 64) - 1 → Makes d (Two i j) s (IsWord (shaped kind width) word)
  loaded_wide i j word many room o p first next to up m n =
      let one : further_words width ≡ 1 = ap (λ b. if b then 1 else 0) (lt-ltb 64 width many) in
      fetched_wide d s kind width i j (λ words inputs. bit_and (slice_index words i.first) i.mask) (λ words inputs. bit_and (slice_index words j.first) j.mask) (IsWord (shaped kind width) word) is at to up many
      (load_fetches d.words i o (omega (arith, first, room, one))) (load_fetches d.words j p (omega (arith, next, room, one)))
      (λ words inputs F v plain wanted.
      let cut = cut_wide kind width (slice_index words word) (slice_index words (word + 1)) i.mask j.mask v many most (plain word) m n (wanted ∙ word_value kind width word words many) in
      (cut.0, ap (λ k. bit_and (slice_index words k) i.mask) first ∙ cut.1, ap (λ k. bit_and (slice_index words k) j.mask) next ∙ cut.2))

  pub input_narrow : (i : Instr) (number : ℕ) → width ≤ 64 → i.op ≡ op.Input → i.first ≡ number → i.target ≡ s.low → i.mask ≡ 2 ^ width - 1 → Makes d (One i) s (IsInput (shaped kind width) number)
  input_narrow i number few o first to m =
      fetched_narrow d s kind width i (λ words inputs. bit_and (input_word inputs i.first) i.mask) (IsInput (shaped kind width) number) is at to few (input_fetches d.words i o)
      (λ words inputs F v wanted.
      let cut = cut_narrow kind width (input_word inputs number) (input_high inputs number) i.mask v few m wanted in
      (cut.0, ap (λ k. bit_and (input_word inputs k) i.mask) first ∙ cut.1))

  pub input_wide : (i j : Instr) (number : ℕ) → 64 < width → i.op ≡ op.Input → j.op ≡ op.InputHigh → i.first ≡ number → j.first ≡ number → i.target ≡ s.low → j.target ≡ s.high → i.mask ≡ 2 ^ 64 - 1
      → j.mask ≡ 2 ^ (width - 64) - 1 → Makes d (Two i j) s (IsInput (shaped kind width) number)
  input_wide i j number many o p first next to up m n =
      fetched_wide d s kind width i j (λ words inputs. bit_and (input_word inputs i.first) i.mask) (λ words inputs. bit_and (input_high inputs j.first) j.mask) (IsInput (shaped kind width) number) is at to up many
      (input_fetches d.words i o) (high_fetches d.words j p)
      (λ words inputs F v plain wanted.
      let cut = cut_wide kind width (input_word inputs number) (input_high inputs number) i.mask j.mask v many most (input_small (slice_get inputs number)) m n wanted in
      (cut.0, ap (λ k. bit_and (input_word inputs k) i.mask) first ∙ cut.1, ap (λ k. bit_and (input_high inputs k) j.mask) next ∙ cut.2))
    where
      input_small : (o : Option Value) → low_of o < 2 ^ 64
      input_small (Some v) = mod-lt v.bits (pow_pos 64)
      input_small None = pow_pos 64

pub constant_narrow : (d : Draft) (s : Location) (c : Value) (i : Instr) → IsDraft d → location_from d.slots c.kind c.width s → c.width ≤ 64 → i.op ≡ op.Constant → i.target ≡ s.low → i.mask ≡ c.bits % 2 ^ 64
    → Makes d (with_instr (with_slots d (further_words c.width + 1)) i) s (IsConstant c)
constant_narrow d s c i is at few o to m =
    fetched_narrow d s c.kind c.width i (λ words inputs. i.mask) (IsConstant c) is at to few (constant_fetches d.words i o) (λ words inputs F v wanted. constant_value c v i.mask m wanted)

pub constant_wide : (d : Draft) (s : Location) (c : Value) (i j : Instr) → IsDraft d → location_from d.slots c.kind c.width s → 64 < c.width → i.op ≡ op.Constant → j.op ≡ op.Constant → i.target ≡ s.low → j.target ≡ s.high
    → i.mask ≡ c.bits % 2 ^ 64 → j.mask ≡ c.bits / 2 ^ 64 → Makes d (with_instr (with_instr (with_slots d (further_words c.width + 1)) i) j) s (IsConstant c)
constant_wide d s c i j is at many o p to up m n =
    fetched_wide d s c.kind c.width i j (λ words inputs. i.mask) (λ words inputs. j.mask) (IsConstant c) is at to up many (constant_fetches d.words i o) (constant_fetches d.words j p)
    (λ words inputs F v plain wanted.
    let parts = constant_value c v i.mask m wanted in
    (parts.0, parts.1, n ∙ ap (λ (x : Value). x.bits / 2 ^ 64) (sym wanted)))
