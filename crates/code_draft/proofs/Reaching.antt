-- Words that are loaded from elements.
use Rattle.std.proofs.Common.{◌≡◌, ℕ, ◌+◌, ◌-◌, ◌*◌, ◌/◌, ◌%◌, ◌^◌, ◌<◌, ◌≤◌, Bool, true, false, nat_lt, if◌then◌else◌, List, [], ◌∷◌, length, slice_index, pos, bit_and, refl, sym, subst, ap, ap₂, ◌∙◌, arith, ⊎_elim}
use Rattle.std.proofs.lemmas.Bool.{lt-ltb, le-ltb}
use Rattle.std.proofs.lemmas.List.Elements.{All-cons, All-nil}
use Rattle.bit_words.specs.declared.value.Kind.{Kind}
use Rattle.prim_ops.specs.Values.{fitted}
use Rattle.ground_net.specs.Shapes.{Shape}
use Rattle.ground_net.specs.Words.{value_at}
use Rattle.flat_code.specs.declared.instr.Op.TheVariants as op
use Rattle.flat_code.specs.declared.instr.Instr.{Instr}
use Rattle.flat_code.specs.declared.instr.Location.{Location}
use Rattle.flat_code.specs.declared.instr.Region.{Region}
use Rattle.flat_code.specs.Meaning.{acted_on, element_word, location_value, location_shape, word_on}
use Rattle.flat_code.specs.Fine.{AreKnown, InRegion, among, further_words, location_slots, reads_of, reads_on, writes_of, writes_on}
use Rattle.flat_code.specs.Orders.{Solves}
use Rattle.code_draft.specs.declared.draft.Draft.{Draft}
use Rattle.code_draft.specs.Drafts.{IsDraft, Stands, Makes, Computes, Works, at_slot, written_in, with_instr, with_slots}
use Rattle.code_draft.specs.Segments.{Segment, Step}
use Rattle.code_draft.proofs.Growing.{Follows, grows_instr, grows_slots, grows_then, all_last, one_new, one_known, one_among, unwritten, written_here, among_first, two_known, two_among}
use Rattle.code_draft.proofs.Fetches.{put_there, cut_narrow, cut_wide}
use Rattle.code_draft.proofs.Cuts.{masked}
use Rattle.code_draft.proofs.Joining.{goes_same, small_step}
use Rattle.code_draft.specs.declared.loading.Reading.{Reading}
use Rattle.code_draft.specs.declared.sources.Elements.{Elements}
use Rattle.code_draft.specs.Sources.{elements_shape, element_value}
use Rattle.code_draft.specs.Rows.{IsElementAt, reaching, keeping, GivesWordOf}
use Rattle.code_draft.specs.Places.{Adds}
use Rattle.code_draft.proofs.Placing.{bits_at, adds_step, adds_one, adds_then, small_adds}

-- The instruction

-- A load at an address that is written, of words that are there.
pub record Reaches (d : Draft) (i : Instr) : Type 0 where
  pub op : i.op ≡ op.LoadAt
  pub address : written_in d i.first ≡ true
  pub within : i.second + (i.mask - 1) * i.third < d.words

pub loads : (d : Draft) (i : Instr) → IsDraft d → Reaches d i → Works d (with_instr (with_slots d 1) (at_slot d.slots i)) i d.slots
loads d i is r =
    let d1 = with_slots d 1 in
    let j = at_slot d.slots i in
    let d2 = with_instr d1 j in
    let g1 = grows_slots d 1 is in
    let first = is.below i.first r.address in
    let follows : Follows d1 op.LoadAt j = record {
      fine = (omega arith, omega (arith, first), r.within);
      reads = one_known (written_in d1) i.first r.address;
      new = one_new (written_in d1) d.slots (unwritten d d.slots is (omega arith));
      within = λ k h. let e = one_among k d.slots h in omega (arith, e);
      quiet = λ F. refl;
    } in
    let g2 = grows_instr d1 j g1.is (subst (λ o. Follows d1 o j) (sym r.op) follows) in
    let writes : writes_of d.wides j ≡ d.slots ∷ [] = ap (λ o. writes_on o d.wides j) r.op in
    record {
      grows = grows_then d d1 d2 g1 g2;
      within = omega arith;
      written = written_here d1 j d.slots (subst (λ ks. among ks d.slots ≡ true) (sym writes) (among_first d.slots []));
      holds = λ words inputs F sol.
          let last = all_last (Solves d1.wides words inputs F) d.instrs j sol.each in
          let long = sol.long in
          put_there F d.slots (element_word words j (slice_index F i.first)) (omega (arith, long))
          (ap (λ G. slice_index G d.slots) (sym (ap (λ o. acted_on o d.wides j words inputs F) r.op)) ∙ last.same d.slots)
          ∙ sym (ap (λ o. word_on o i words inputs (slice_index F i.first) (slice_index F i.second) (slice_index F i.third)) r.op);
    }

pub loads_step : (d : Draft) (i : Instr) → i.op ≡ op.LoadAt → Step d (with_instr (with_slots d 1) (at_slot d.slots i)) (i.first ∷ []) (d.slots ∷ []) 2
loads_step d i e =
    let j = at_slot d.slots i in
    let own = d.slots ∷ [] in
    let outer = i.first ∷ [] in
    small_step d (with_instr (with_slots d 1) j) outer own own 2 (j ∷ []) refl (goes_same d) (omega arith) (λ k h. let is = one_among k d.slots h in (omega (arith, is), omega (arith, is))) (omega arith) (λ k h. h)
    (omega arith)
    (λ ports wides on. All-cons (λ x. (k : ℕ) → k < d.slots → among (reads_of ports wides x) k ≡ true → among outer k ≡ true) j []
    (λ k lt h. subst (λ xs. among xs k ≡ true) (ap (λ o. reads_on o ports wides j) e) h)
    (All-nil (λ x. (k : ℕ) → k < d.slots → among (reads_of ports wides x) k ≡ true → among outer k ≡ true)))
    (λ ports wides on. All-nil (λ x. (k : ℕ) → among (reads_of ports wides x) k ≡ true → d.slots ≤ k))
    (λ ports wides on. All-cons (λ x. (k : ℕ) → among (writes_of wides x) k ≡ true → among own k ≡ true) j []
    (λ k h. subst (λ xs. among xs k ≡ true) (ap (λ o. writes_on o wides j) e) h)
    (All-nil (λ x. (k : ℕ) → among (writes_of wides x) k ≡ true → among own k ≡ true)))

-- Words of elements and their values

-- the words of the last element are there
last_there : (base stride depth last more m : ℕ) → 0 < depth → last ≡ depth - 1 → base + last * stride + more < m → base + (depth - 1) * stride < m
last_there base stride depth last more m some e lt = let same : last * stride ≡ (depth - 1) * stride = ap (λ k. k * stride) e in omega (arith, lt, same)

pub last_within : (m width : ℕ) (r : Region) → 0 < r.depth → InRegion m width r → r.base + (r.depth - 1) * r.stride < m
last_within m width r some h = last_there r.base r.stride r.depth (r.depth - 1) (further_words width) m some refl (h (r.depth - 1) (omega (arith, some)))

no_more : (n : ℕ) → n + 0 * 2 ^ 64 ≡ n
no_more n = omega arith

-- the high words too
pub last_high : (m width : ℕ) (r next : Region) → 0 < r.depth → 64 < width → next.base ≡ r.base + 1 → next.depth ≡ r.depth → next.stride ≡ r.stride → InRegion m width r → next.base + (next.depth - 1) * next.stride < m
last_high m width r next some many base depth stride h =
    let one : further_words width ≡ 1 = ap (λ b. if b then 1 else 0) (lt-ltb 64 width many) in
    let last = h (r.depth - 1) (omega (arith, some)) in
    let same : (next.depth - 1) * next.stride ≡ (r.depth - 1) * r.stride = ap₂ (λ d s. (d - 1) * s) depth stride in
    omega (arith, one, last, same, base)

-- The instructions

pub word_loads : (a b c : Draft) (address k slot mask : ℕ) (r : Region) → Works a b (reaching address r) k → Works b c (keeping k mask) slot → GivesWordOf a c address r mask slot
word_loads a b c address k slot mask r first next = record {
  grows = grows_then a b c first.grows next.grows;
  within = next.within;
  written = next.written;
  holds = λ words inputs F sol. next.holds words inputs F sol ∙ ap (λ n. bit_and n mask) (first.holds words inputs F (next.grows.back words inputs F sol));
}

small_word : (b : Bool) (x : ℕ) → x < 2 ^ 64 → (if b then x else 0) < 2 ^ 64
small_word true x h = h
small_word false x h = omega arith

-- a word that is whole
pub whole_loads : (a b : Draft) (address k mask : ℕ) (r : Region) → mask ≡ 2 ^ 64 - 1 → Works a b (reaching address r) k → GivesWordOf a b address r mask k
whole_loads a b address k mask r m w = record {
  grows = w.grows;
  within = w.within;
  written = w.written;
  holds = λ words inputs F sol.
      let n = slice_index F address in
      let x = element_word words (reaching address r) n in
      let small : x < 2 ^ 64 = small_word (nat_lt n r.depth) (slice_index words (r.base + n * r.stride)) (sol.plain (r.base + n * r.stride)) in
      w.holds words inputs F sol ∙ sym (masked x 64 mask m ∙ mod_small x small);
}
  where
    mod_small : (m : ℕ) → m < 2 ^ 64 → m % 2 ^ 64 ≡ m
    mod_small m less = Rattle.std.proofs.Common.mod-eq_of_lt less

pub whole_adds : (a b : Draft) (address : ℕ) (r : Region) → b ≡ with_instr (with_slots a 1) (at_slot a.slots (reaching address r)) → Adds a b (address ∷ [])
whole_adds a b address r first = adds_step a b (address ∷ []) (a.slots ∷ []) 2 (subst (λ x. Step a x (address ∷ []) (a.slots ∷ []) 2) (sym first) (loads_step a (reaching address r) refl))

-- an element, and 0
either_fitted : (b : Bool) (kind : Kind) (width x y : ℕ) → (if b then fitted kind width (pos (x + y * 2 ^ 64)) else fitted kind width (pos 0)) ≡ fitted kind width (pos ((if b then x else 0) + (if b then y else 0) * 2 ^ 64))
either_fitted true kind width x y = refl
either_fitted false kind width x y = refl

module _ (r : Reading) (words F : List ℕ) (narrow : r.address.width ≤ 64) (cut : slice_index F r.address.low < 2 ^ r.address.width) where
  abbrev e : Elements
  e = r.elements

  abbrev a : ℕ
  a = slice_index F r.address.low

  abbrev at : ℕ
  at = e.region.base + a * e.region.stride

  value_by : (location_value F r.address).bits ≡ a → element_value e words (location_value F r.address) ≡ (if nat_lt a e.region.depth then value_at (elements_shape e) words at else fitted e.kind e.width (pos 0))
  value_by bits = ap (λ n. if nat_lt n e.region.depth then value_at (elements_shape e) words (e.region.base + n * e.region.stride) else fitted e.kind e.width (pos 0)) bits

  pub narrow_fitted : e.width ≤ 64 → element_value e words (location_value F r.address) ≡ fitted e.kind e.width (pos (element_word words (reaching r.address.low e.region) a + 0 * 2 ^ 64))
  narrow_fitted few =
      value_by (bits_at F r.address narrow cut)
      ∙ (ap (λ b. if nat_lt a e.region.depth then fitted e.kind e.width (pos (slice_index words at + (if b then slice_index words (at + 1) else 0) * 2 ^ 64)) else fitted e.kind e.width (pos 0)) (le-ltb 64 e.width few)
      ∙ (either_fitted (nat_lt a e.region.depth) e.kind e.width (slice_index words at) 0 ∙ ap (λ z. fitted e.kind e.width (pos (element_word words (reaching r.address.low e.region) a + z * 2 ^ 64))) (nothing (nat_lt a e.region.depth) 0)))
    where
      nothing : (b : Bool) (z : ℕ) → (if b then z else z) ≡ z
      nothing true z = refl
      nothing false z = refl

  pub wide_fitted : (next : Region) → 64 < e.width → next.base ≡ e.region.base + 1 → next.depth ≡ e.region.depth → next.stride ≡ e.region.stride
      → element_value e words (location_value F r.address) ≡ fitted e.kind e.width (pos (element_word words (reaching r.address.low e.region) a + element_word words (reaching r.address.low next) a * 2 ^ 64))
  wide_fitted next many base depth stride =
      let there : at + 1 ≡ next.base + a * next.stride = let same : a * next.stride ≡ a * e.region.stride = ap (λ s. a * s) stride in omega (arith, base, same) in
      value_by (bits_at F r.address narrow cut)
      ∙ (ap (λ b. if nat_lt a e.region.depth then fitted e.kind e.width (pos (slice_index words at + (if b then slice_index words (at + 1) else 0) * 2 ^ 64)) else fitted e.kind e.width (pos 0)) (lt-ltb 64 e.width many)
      ∙ (either_fitted (nat_lt a e.region.depth) e.kind e.width (slice_index words at) (slice_index words (at + 1))
      ∙ ap₂ (λ k d. fitted e.kind e.width (pos (element_word words (reaching r.address.low e.region) a + (if nat_lt a d then slice_index words k else 0) * 2 ^ 64))) there (sym depth)))

-- Whole elements

pub narrow_makes : (r : Reading) (s : Location) (slot mask : ℕ) (a b : Draft) → location_shape s ≡ elements_shape r.elements → s.low ≡ slot → s.high ≡ slot → r.address.width ≤ 64 → r.elements.width ≤ 64 → mask ≡ 2 ^ r.elements.width - 1
    → GivesWordOf a b r.address.low r.elements.region mask slot → Makes a b s (IsElementAt r)
narrow_makes r s slot mask a b shape low high narrow few m g =
    let width : s.width ≡ r.elements.width = ap (λ (t : Shape). t.width) shape in
    let one : location_slots s ≡ slot ∷ [] = ap (λ b. if b then s.low ∷ s.high ∷ [] else s.low ∷ []) (ap (nat_lt 64) width ∙ le-ltb 64 r.elements.width few) ∙ ap (λ k. k ∷ []) low in
    let lt = g.within in
    record {
      grows = g.grows;
      stands = record { within = record { low = omega (arith, low, lt); high = omega (arith, high, lt) }; written = subst (AreKnown (written_in b)) (sym one) (one_known (written_in b) slot g.written) };
      holds = λ words inputs F v sol wanted.
          let e = r.elements in
          let x = element_word words (reaching r.address.low e.region) (slice_index F r.address.low) in
          let parts = cut_narrow e.kind e.width x 0 mask v few m (wanted.0 ∙ narrow_fitted r words F narrow wanted.1 few) in
          record {
            shape = parts.0 ∙ sym shape;
            low = ap (slice_index F) low ∙ (g.holds words inputs F sol ∙ parts.1);
            high = λ many. absurd (omega (arith, many, width, few));
          };
    }

pub wide_makes : (r : Reading) (s : Location) (low high mask upper : ℕ) (next : Region) (a b c : Draft) → location_shape s ≡ elements_shape r.elements → s.low ≡ low → s.high ≡ high → r.address.width ≤ 64 → 64 < r.elements.width
    → mask ≡ 2 ^ 64 - 1 → upper ≡ 2 ^ (r.elements.width - 64) - 1 → next.base ≡ r.elements.region.base + 1 → next.depth ≡ r.elements.region.depth → next.stride ≡ r.elements.region.stride
    → GivesWordOf a b r.address.low r.elements.region mask low → GivesWordOf b c r.address.low next upper high → Makes a c s (IsElementAt r)
wide_makes r s low high mask upper next a b c shape first second narrow many m u base depth stride g h =
    let width : s.width ≡ r.elements.width = ap (λ (t : Shape). t.width) shape in
    let most : r.elements.width ≤ 128 = r.elements.narrow in
    let two : location_slots s ≡ low ∷ high ∷ [] = ap (λ b. if b then s.low ∷ s.high ∷ [] else s.low ∷ []) (ap (nat_lt 64) width ∙ lt-ltb 64 r.elements.width many) ∙ ap₂ (λ j k. j ∷ k ∷ []) first second in
    let lt = g.within in
    let up = h.within in
    let more = h.grows.slots in
    record {
      grows = grows_then a b c g.grows h.grows;
      stands = record {
        within = record { low = omega (arith, first, lt, more); high = omega (arith, second, up) };
        written = subst (AreKnown (written_in c)) (sym two) (two_known (written_in c) low high (h.grows.stays low g.written) h.written);
      };
      holds = λ words inputs F v sol wanted.
          let e = r.elements in
          let n = slice_index F r.address.low in
          let x = element_word words (reaching r.address.low e.region) n in
          let y = element_word words (reaching r.address.low next) n in
          let small : x < 2 ^ 64 = small_word (nat_lt n e.region.depth) (slice_index words (e.region.base + n * e.region.stride)) (sol.plain (e.region.base + n * e.region.stride)) in
          let parts = cut_wide e.kind e.width x y mask upper v many most small m u (wanted.0 ∙ wide_fitted r words F narrow wanted.1 next many base depth stride) in
          record {
            shape = parts.0 ∙ sym shape;
            low = ap (slice_index F) first ∙ (g.holds words inputs F (h.grows.back words inputs F sol) ∙ parts.1);
            high = λ _. ap (slice_index F) second ∙ (h.holds words inputs F sol ∙ parts.2);
          };
    }

-- what they read and write
pub word_adds : (a b c : Draft) (address k mask : ℕ) (r : Region) → b ≡ with_instr (with_slots a 1) (at_slot a.slots (reaching address r)) → k ≡ a.slots → c ≡ with_instr (with_slots b 1) (at_slot b.slots (keeping k mask))
    → Adds a c (address ∷ [])
word_adds a b c address k mask r first here next =
    adds_then a b c (address ∷ []) (k ∷ []) (address ∷ [])
    (adds_step a b (address ∷ []) (a.slots ∷ []) 2 (subst (λ x. Step a x (address ∷ []) (a.slots ∷ []) 2) (sym first) (loads_step a (reaching address r) refl)))
    (adds_one b c (keeping k mask) (k ∷ []) refl (λ n h. h) next) (λ n lt h. h) (λ n lt h. let same = one_among n k h in absurd (omega (arith, same, here, lt)))

address_slots : (x : Location) → x.width ≤ 64 → location_slots x ≡ x.low ∷ []
address_slots x narrow = ap (λ b. if b then x.low ∷ x.high ∷ [] else x.low ∷ []) (le-ltb 64 x.width narrow)

pub narrow_segment : (x : Location) (width slot : ℕ) (a b : Draft) → x.width ≤ 64 → width ≤ 64 → Adds a b (x.low ∷ []) → b.slots ≤ a.slots + 2 → a.slots ≤ slot → slot < b.slots
    → Segment a b (location_slots x) (if nat_lt 64 width then slot ∷ slot ∷ [] else slot ∷ []) 4
narrow_segment x width slot a b narrow few f more later within =
    subst (λ xs. Segment a b xs (if nat_lt 64 width then slot ∷ slot ∷ [] else slot ∷ []) 4) (sym (address_slots x narrow))
    (subst (λ xs. Segment a b (x.low ∷ []) xs 4) (sym (ap (λ b. if b then slot ∷ slot ∷ [] else slot ∷ []) (le-ltb 64 width few)))
    (small_adds a b (x.low ∷ []) (slot ∷ []) 4 f (omega (arith, more)) (λ k h. let same = one_among k slot h in (omega (arith, same, later), omega (arith, same, within))) (omega arith)))

pub wide_segment : (x : Location) (width low high : ℕ) (a b c : Draft) → x.width ≤ 64 → 64 < width → Adds a b (x.low ∷ []) → Adds b c (x.low ∷ []) → b.slots ≤ a.slots + 2 → c.slots ≤ b.slots + 2 → a.slots ≤ low → low < b.slots → b.slots ≤ high
    → high < c.slots → Segment a c (location_slots x) (if nat_lt 64 width then low ∷ high ∷ [] else low ∷ []) 4
wide_segment x width low high a b c narrow many f g more further later within after below =
    let up = f.slots in
    let upper = g.slots in
    subst (λ xs. Segment a c xs (if nat_lt 64 width then low ∷ high ∷ [] else low ∷ []) 4) (sym (address_slots x narrow))
    (subst (λ xs. Segment a c (x.low ∷ []) xs 4) (sym (ap (λ b. if b then low ∷ high ∷ [] else low ∷ []) (lt-ltb 64 width many)))
    (small_adds a c (x.low ∷ []) (low ∷ high ∷ []) 4 (adds_then a b c (x.low ∷ []) (x.low ∷ []) (x.low ∷ []) f g (λ k lt h. h) (λ k lt h. h)) (omega (arith, more, further))
    (λ k h. ⊎_elim (λ same. (omega (arith, same, later), omega (arith, same, within, upper))) (λ same. (omega (arith, same, after, up), omega (arith, same, below))) (two_among k low high h)) (omega arith)))

-- the first slot of a location that stands is written
pub low_written : (d : Draft) (s : Location) → Stands d s → written_in d s.low ≡ true
low_written d s h = by_width (nat_lt 64 s.width) h.written
  where
    by_width : (c : Bool) → AreKnown (written_in d) (if c then s.low ∷ s.high ∷ [] else s.low ∷ []) → written_in d s.low ≡ true
    by_width true a = a 0 s.low (omega arith)
    by_width false a = a 0 s.low (omega arith)

pub keep_computes : (d : Draft) (k mask : ℕ) → written_in d k ≡ true → Computes d (keeping k mask)
keep_computes d k mask h = record { plain = refl; known = one_known (written_in d) k h; shift = omega arith }
