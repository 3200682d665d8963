-- Locations of words that are made.
use Rattle.std.proofs.Common.{◌≡◌, ℕ, ◌^◌, ◌<◌, ◌≤◌, true, false, nat_lt, if◌then◌else◌, List, [], ◌∷◌, slice_index, sym, subst, ap, ◌∙◌, arith, mod-eq_of_lt, pow_mono, All}
use Rattle.std.proofs.lemmas.Bool.{le-ltb}
use Rattle.bit_words.specs.declared.value.Kind.{Kind}
use Rattle.bit_words.specs.declared.value.Value.{Value}
use Rattle.ground_net.specs.Shapes.{Shape, shaped, shape_of_value}
use Rattle.flat_code.specs.declared.instr.Instr.{Instr}
use Rattle.flat_code.specs.declared.instr.Location.{Location}
use Rattle.flat_code.specs.Meaning.{location_values}
use Rattle.flat_code.specs.Fine.{AreKnown, location_slots}
use Rattle.code_draft.specs.declared.draft.Draft.{Draft}
use Rattle.code_draft.specs.Drafts.{IsDraft, Stands, Makes, Holds, Works, Grows, Solved, written_in}
use Rattle.code_draft.proofs.Growing.{grows_not, grows_then, one_known}
use Rattle.flat_code.specs.declared.instr.Op.TheVariants as op
use Rattle.code_emit.specs.declared.pairs.Pair.{Pair}
use Rattle.code_emit.specs.Working.{working, from_slot, from_slots, at_one_slot}
use Rattle.code_emit.specs.Ways.{Given, Cut, IsMade, Rests, Operates, Follow, IsPair, turned_if}

module _ (kind : Kind) (width slot : ℕ) (s : Location) (few : width ≤ 64) (at : at_one_slot kind width slot s) where
  width_is : s.width ≡ width
  width_is = ap (λ (t : Shape). t.width) at.0

  stands_at : (d : Draft) → slot < d.slots → written_in d slot ≡ true → Stands d s
  stands_at d lt h =
      let low = at.1 in
      let high = at.2 in
      let narrow : nat_lt 64 s.width ≡ false = ap (nat_lt 64) width_is ∙ le-ltb 64 width few in
      let slots : location_slots s ≡ s.low ∷ [] = ap (λ b. if b then s.low ∷ s.high ∷ [] else s.low ∷ []) narrow in
      record {
        within = record { low = omega (arith, low, lt); high = omega (arith, high, lt) };
        written = subst (AreKnown (written_in d)) (sym slots) (one_known (written_in d) s.low (ap (written_in d) low ∙ h));
      }

  holds_at : (F : List ℕ) (v : Value) → shape_of_value v ≡ shaped kind width → slice_index F slot ≡ v.bits → Holds F s v
  holds_at F v shape bits =
      let e : v.width ≡ width = ap (λ (t : Shape). t.width) shape in
      let within : v.bits < 2 ^ v.width = v.within in
      let le : v.width ≤ 64 = omega (arith, e, few) in
      let most : 2 ^ v.width ≤ 2 ^ 64 = pow_mono le in
      let w = width_is in
      record {
        shape = shape ∙ sym at.0;
        low = ap (slice_index F) at.1 ∙ (bits ∙ sym (mod-eq_of_lt (below v.bits (2 ^ v.width) (2 ^ 64) within most)));
        high = λ many. absurd (omega (arith, many, w, few));
      }
    where
      below : (x y z : ℕ) → x < y → y ≤ z → x < z
      below x y z l m = omega (arith, l, m)

  module _ (locations : List Location) (R : Given) where
    pub rests_makes : (d : Draft) → Rests slot locations R → IsDraft d → All (Stands d) locations → Makes d d s (IsMade R locations (shaped kind width))
    rests_makes d r is there = record {
      grows = grows_not d is;
      stands = let h = r.written d there in stands_at d (is.below slot h) h;
      holds = λ words inputs F v sol wanted. holds_at F v wanted.1 (r.gives F wanted.2 ∙ ap (λ (u : Value). u.bits) (sym wanted.0));
    }

    pub word_makes : (d e : Draft) (i : Instr) → Operates i locations R → Works d e i slot → Makes d e s (IsMade R locations (shaped kind width))
    word_makes d e i o w = record {
      grows = w.grows;
      stands = stands_at e w.within w.written;
      holds = λ words inputs F v sol wanted. holds_at F v wanted.1 (w.holds words inputs F sol ∙ (o.gives words inputs F wanted.2 ∙ ap (λ (u : Value). u.bits) (sym wanted.0)));
    }

    pub twice_makes : (d e f : Draft) (i next : Instr) (k : ℕ) → Follow i next locations R → Works d e i k → Works e f (from_slot k next) slot → Makes d f s (IsMade R locations (shaped kind width))
    twice_makes d e f i next k o w u = record {
      grows = grows_then d e f w.grows u.grows;
      stands = stands_at f u.within u.written;
      holds = λ words inputs F v sol wanted.
          holds_at F v wanted.1 (u.holds words inputs F sol
          ∙ (o.gives words inputs F k wanted.2 (w.holds words inputs F (u.grows.back words inputs F sol)) ∙ ap (λ (u : Value). u.bits) (sym wanted.0)));
    }

    -- of two words, and of those the other bit
    module _ (d e f g : Draft) (p : Pair) (j k third : ℕ) (is : IsPair p locations R) (one : Works d e p.first j) (other : Works e f p.second k) (last : Works f g (from_slots j k p.last) third) where
      grown : Grows d g
      grown = grows_then d e g one.grows (grows_then e f g other.grows last.grows)

      gives_word : (words : List ℕ) (inputs : List Value) (F : List ℕ) → Solved g words inputs F → All (Cut F) locations → turned_if p.turned (slice_index F third) ≡ (R (location_values F locations)).bits
      gives_word words inputs F sol cut =
          let later = last.grows.back words inputs F sol in
          ap (turned_if p.turned) (last.holds words inputs F sol)
          ∙ is.gives words inputs F j k cut (one.holds words inputs F (other.grows.back words inputs F later)) (other.holds words inputs F later)

      pub pair_makes : p.turned ≡ false → slot ≡ third → Makes d g s (IsMade R locations (shaped kind width))
      pair_makes turned here = record {
        grows = grown;
        stands = stands_at g (subst (λ n. n < g.slots) (sym here) last.within) (ap (written_in g) here ∙ last.written);
        holds = λ words inputs F v sol wanted.
            holds_at F v wanted.1 (ap (slice_index F) here
            ∙ (ap (λ b. turned_if b (slice_index F third)) (sym turned) ∙ (gives_word words inputs F sol wanted.2 ∙ ap (λ (u : Value). u.bits) (sym wanted.0))));
      }

      pub turned_makes : (h : Draft) → p.turned ≡ true → Works g h (working op.Not 0 third 0 0 1) slot → Makes d h s (IsMade R locations (shaped kind width))
      turned_makes h turned w = record {
        grows = grows_then d g h grown w.grows;
        stands = stands_at h w.within w.written;
        holds = λ words inputs F v sol wanted.
            holds_at F v wanted.1 (w.holds words inputs F sol
            ∙ (ap (λ b. turned_if b (slice_index F third)) (sym turned) ∙ (gives_word words inputs F (w.grows.back words inputs F sol) wanted.2 ∙ ap (λ (u : Value). u.bits) (sym wanted.0))));
      }
