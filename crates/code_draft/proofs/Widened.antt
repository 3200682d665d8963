-- Wide values: a longer table of them, and what stands at their targets.
use Rattle.std.proofs.Common.{◌≡◌, ◌≢◌, Bool, ℕ, suc, ◌+◌, ◌/◌, ◌%◌, ◌^◌, ◌<◌, ◌≤◌, true, false, nat_lt, if◌then◌else◌, List, [], ◌∷◌, ◌++◌, length, slice_get, slice_index, slice_set, Some, All, get_or, refl, sym, subst, ap, ◌∙◌, arith, ⊎_elim}
use Rattle.std.proofs.lemmas.Bool.{lt-ltb, le-ltb, cases_lt}
use Rattle.std.proofs.lemmas.List.{get_or-set_same, get_or-set_other, get_or_append_left, length-append, length-set}
use Rattle.std.proofs.Math.Seq.{get_or-append_seam}
use Rattle.std.proofs.lemmas.Option.{slice_get-get_or}
use Rattle.std.proofs.lemmas.List.Elements.{All-push, All-append}
use Rattle.bit_words.specs.declared.value.Kind.{Kind}
use Rattle.bit_words.specs.declared.value.Value.{Value}
use Rattle.ground_net.specs.Shapes.{Shape, shaped}
use Rattle.flat_code.specs.declared.instr.Op.{Op}
use Rattle.flat_code.specs.declared.instr.Op.TheVariants as op
use Rattle.flat_code.specs.declared.instr.Instr.{Instr}
use Rattle.flat_code.specs.declared.instr.Form.{Form}
use Rattle.flat_code.specs.declared.instr.Port.{Port}
use Rattle.flat_code.specs.declared.instr.Location.{Location}
use Rattle.flat_code.specs.declared.instr.Wide.{Wide}
use Rattle.flat_code.specs.Meaning.{acted, acted_on, wide_acted, put_value, wide_value}
use Rattle.flat_code.specs.Fine.{FineOn, AreFine, IsWide, IsLocation, InRegion, region_of, form_shape, location_shapes, Known, nothing, more, among, written, AreKnown, reads_on, writes_on, writes_of, wide_reads, wide_writes, slots_of, location_slots, further_words}
use Rattle.flat_code.specs.Orders.{Solves, Single, AreNew}
use Rattle.flat_code.proofs.Frames.{fine_more}
use Rattle.code_draft.specs.declared.draft.Draft.{Draft}
use Rattle.code_draft.specs.Drafts.{IsDraft, Grows, Stands, Makes, written_in, with_instr, with_wide, with_slots, location_from, IsForm}
use Rattle.code_draft.proofs.Growing.{Follows, grows_instr, grows_slots, grows_then, all_last, all_stand_on, two_new, two_known, one_new, one_known, one_among, two_among, unwritten, written_here, among_first, among_second}
use Rattle.code_draft.proofs.Fetches.{put_there}

module _ (ports : List Port) (wides longer : List Wide) (n m p : ℕ) (same : (k : ℕ) → k < length wides → slice_get longer k ≡ slice_get wides k) where
  writes_wider : (o : Op) (i : Instr) → FineOn o n m p (length wides) i → writes_on o longer i ≡ writes_on o wides i
  writes_wider op.Wide i fine = ap wide_writes (same i.first fine)
  writes_wider _ i fine = refl

  reads_wider : (o : Op) (i : Instr) → FineOn o n m p (length wides) i → reads_on o ports longer i ≡ reads_on o ports wides i
  reads_wider op.Wide i fine = ap wide_reads (same i.first fine)
  reads_wider _ i fine = refl

  acted_wider : (o : Op) (i : Instr) (words : List ℕ) (inputs : List Value) (F : List ℕ) → FineOn o n m p (length wides) i → acted_on o longer i words inputs F ≡ acted_on o wides i words inputs F
  acted_wider op.Wide i words inputs F fine = ap (λ o. wide_acted o words F) (same i.first fine)
  acted_wider _ i words inputs F fine = refl

  single_wider : (known : Known) (is : List Instr) → AreFine n m p (length wides) is → Single known ports wides is → Single known ports longer is
  single_wider known [] fine s = tt
  single_wider known (i ∷ is) fine s =
      let here : FineOn i.op n m p (length wides) i = fine 0 i (omega arith) in
      let writes = writes_wider i.op i here in (
        subst (AreKnown known) (sym (reads_wider i.op i here)) s.0,
        subst (AreNew known) (sym writes) s.1,
        subst (λ ws. Single (more ws known) ports longer is) (sym writes) (single_wider (more (writes_of wides i) known) is (λ k d lt. fine (suc k) d (omega (arith, lt))) s.2),
      )

  written_wider : (known : Known) (is : List Instr) (k : ℕ) → AreFine n m p (length wides) is → written known longer is k ≡ written known wides is k
  written_wider known [] k fine = refl
  written_wider known (i ∷ is) k fine =
      ap (λ ws. written (more ws known) longer is k) (writes_wider i.op i (fine 0 i (omega arith))) ∙ written_wider (more (writes_of wides i) known) is k (λ j d lt. fine (suc j) d (omega (arith, lt)))

  solves_wider : (is : List Instr) (words : List ℕ) (inputs : List Value) (F : List ℕ) → AreFine n m p (length wides) is → All (Solves longer words inputs F) is → All (Solves wides words inputs F) is
  solves_wider is words inputs F fine a = λ k d lt.
      let i = get_or is k d in
      record { same = λ j. ap (λ G. slice_index G j) (sym (acted_wider i.op i words inputs F (fine k d lt))) ∙ (a k d lt).same j }

same_before : (wides : List Wide) (w : Wide) (k : ℕ) → k < length wides → slice_get (wides ++ w ∷ []) k ≡ slice_get wides k
same_before wides w k lt =
    let long = length-append wides (w ∷ []) in
    slice_get-get_or (wides ++ w ∷ []) k w (omega (arith, long, lt)) ∙ (ap Some (get_or_append_left wides (w ∷ []) w k lt) ∙ sym (slice_get-get_or wides k w lt))

last_there : (wides : List Wide) (w : Wide) → slice_get (wides ++ w ∷ []) (length wides) ≡ Some w
last_there wides w =
    let long = length-append wides (w ∷ []) in
    slice_get-get_or (wides ++ w ∷ []) (length wides) w (omega (arith, long)) ∙ ap Some (get_or-append_seam wides w [] w)

pub grows_wide : (d : Draft) (w : Wide) → IsDraft d → IsWide d.slots d.words w → Grows d (with_wide d w)
grows_wide d w is h =
    let p = length d.ports in
    let long = length-append d.wides (w ∷ []) in
    let same = same_before d.wides w in
    let le : length d.wides ≤ length (d.wides ++ w ∷ []) = omega (arith, long) in
    record {
      is = record {
        fine = λ k i lt. fine_more (get_or d.instrs k i).op d.slots d.slots d.words p p (length d.wides) (length (d.wides ++ w ∷ [])) (get_or d.instrs k i) (omega arith) (omega arith) le (is.fine k i lt);
        single = single_wider d.ports d.wides (d.wides ++ w ∷ []) d.slots d.words p same nothing d.instrs is.fine is.single;
        below = λ k e. is.below k (sym (written_wider d.ports d.wides (d.wides ++ w ∷ []) d.slots d.words p same nothing d.instrs k is.fine) ∙ e);
        ports = is.ports;
        wides = All-push (IsWide d.slots d.words) d.wides w is.wides h;
      };
      words = refl;
      slots = omega arith;
      stays = λ k e. written_wider d.ports d.wides (d.wides ++ w ∷ []) d.slots d.words p same nothing d.instrs k is.fine ∙ e;
      back = λ words inputs F s. record {
        long = s.long;
        plain = s.plain;
        each = solves_wider d.ports d.wides (d.wides ++ w ∷ []) d.slots d.words p same d.instrs words inputs F is.fine s.each;
      };
      quiet = λ F. refl;
    }

-- what stands where a value is put
put_low : (F : List ℕ) (t : Location) (v : Value) → t.low < length F → (64 < t.width → t.high ≢ t.low) → ((k : ℕ) → slice_index (put_value t v F) k ≡ slice_index F k) → slice_index F t.low ≡ v.bits % 2 ^ 64
put_low F t v lt apart same = ⊎_elim
    (λ many. put_two (lt-ltb 64 t.width many) (apart many))
    (λ few. put_one (le-ltb 64 t.width few))
    (cases_lt 64 t.width)
  where
    put_one : nat_lt 64 t.width ≡ false → slice_index F t.low ≡ v.bits % 2 ^ 64
    put_one b = put_there F t.low (v.bits % 2 ^ 64) lt
        (ap (λ c. slice_index (if c then slice_set (slice_set F t.low (v.bits % 2 ^ 64)) t.high (v.bits / 2 ^ 64) else slice_set F t.low (v.bits % 2 ^ 64)) t.low) (sym b) ∙ same t.low)

    put_two : nat_lt 64 t.width ≡ true → t.high ≢ t.low → slice_index F t.low ≡ v.bits % 2 ^ 64
    put_two b ne = put_there F t.low (v.bits % 2 ^ 64) lt
        (sym (get_or-set_other (slice_set F t.low (v.bits % 2 ^ 64)) t.high t.low (v.bits / 2 ^ 64) 0 (λ e. ne (sym e)))
        ∙ (ap (λ c. slice_index (if c then slice_set (slice_set F t.low (v.bits % 2 ^ 64)) t.high (v.bits / 2 ^ 64) else slice_set F t.low (v.bits % 2 ^ 64)) t.low) (sym b) ∙ same t.low))

put_high : (F : List ℕ) (t : Location) (v : Value) → t.high < length F → ((k : ℕ) → slice_index (put_value t v F) k ≡ slice_index F k) → 64 < t.width → slice_index F t.high ≡ v.bits / 2 ^ 64
put_high F t v lt same many =
    let b = lt-ltb 64 t.width many in
    let long = length-set F t.low (v.bits % 2 ^ 64) in
    sym (same t.high) ∙ (ap (λ c. slice_index (if c then slice_set (slice_set F t.low (v.bits % 2 ^ 64)) t.high (v.bits / 2 ^ 64) else slice_set F t.low (v.bits % 2 ^ 64)) t.high) b
    ∙ get_or-set_same (slice_set F t.low (v.bits % 2 ^ 64)) t.high (v.bits / 2 ^ 64) 0 (omega (arith, long, lt)))

slots_known : (d : Draft) (ss : List Location) → All (Stands d) ss → AreKnown (written_in d) (slots_of ss)
slots_known d [] a = λ k x lt. absurd (omega (arith, lt))
slots_known d (s ∷ ss) a = All-append (λ k. written_in d k ≡ true) (location_slots s) (slots_of ss) ((a 0 s (omega arith)).written) (slots_known d ss (λ k x lt. a (suc k) x (omega (arith, lt))))

-- Slots, the wide value, and its instruction.
pub evaluated : (d : Draft) (t : Location) (kind : Kind) (width : ℕ) (form : Form) (operands : List Location) (i : Instr) → IsDraft d → location_from d.slots kind width t → All (Stands d) operands
    → form_shape form t (location_shapes operands) ≡ Some (shaped kind width) → InRegion d.words width (region_of form) → i.op ≡ op.Wide → i.first ≡ length d.wides
    → Makes d (with_instr (with_wide (with_slots d (further_words width + 1)) (record { form = form; operands = operands; target = t })) i) t (IsForm form t operands (shaped kind width))
evaluated d t kind width form operands i is at there shaped_so region e first =
    let w : Wide = record { form = form; operands = operands; target = t } in
    let d1 = with_slots d (further_words width + 1) in
    let d2 = with_wide d1 w in
    let d3 = with_instr d2 i in
    let low = at.1 in
    let high = at.2 in
    let g1 = grows_slots d (further_words width + 1) is in
    let there1 = all_stand_on d d1 operands g1 there in
    let within : IsLocation d1.slots t = record { low = omega (arith, low); high = omega (arith, high) } in
    let wide : IsWide d1.slots d1.words w = record {
      operands = λ k s lt. (there1 k s lt).within;
      target = within;
      shaped = shaped_so ∙ ap Some (sym at.0);
      region = subst (λ x. InRegion d.words x (region_of form)) (sym (ap (λ (s : Shape). s.width) at.0)) region;
    } in
    let g2 = grows_wide d1 w g1.is wide in
    let there2 = all_stand_on d1 d2 operands g2 there1 in
    let entry : slice_get d2.wides i.first ≡ Some w = ap (slice_get d2.wides) first ∙ last_there d.wides w in
    let long = length-append d.wides (w ∷ []) in
    let writes : writes_on op.Wide d2.wides i ≡ location_slots t = ap wide_writes entry in
    let fresh : (k : ℕ) → d.slots ≤ k → written_in d2 k ≡ false = λ k le.
    written_wider d.ports d.wides d2.wides d1.slots d.words (length d.ports) (same_before d.wides w) nothing d.instrs k g1.is.fine ∙ unwritten d k is le in
    let follows : Follows d2 op.Wide i = record {
      fine = omega (arith, first, long);
      reads = subst (AreKnown (written_in d2)) (sym (ap wide_reads entry)) (slots_known d2 operands there2);
      new = subst (AreNew (written_in d2)) (sym writes) (new_slots (written_in d2) t (fresh t.low (omega (arith, low))) (fresh t.high (omega (arith, high))));
      within = λ k h. slots_below t d1.slots k within (subst (λ ks. among ks k ≡ true) writes h);
      quiet = λ F. refl;
    } in
    let g3 = grows_instr d2 i g2.is (subst (λ o. Follows d2 o i) (sym e) follows) in
    let is_written : (k : ℕ) → among (location_slots t) k ≡ true → written_in d3 k ≡ true = λ k h.
    written_here d2 i k (subst (λ ks. among ks k ≡ true) (sym (ap (λ o. writes_on o d2.wides i) e ∙ writes)) h) in
    record {
      grows = grows_then d d1 d3 g1 (grows_then d1 d2 d3 g2 g3);
      stands = record { within = within; written = slots_written (written_in d3) t is_written };
      holds = λ words inputs F v sol wanted.
          let last = all_last (Solves d2.wides words inputs F) d.instrs i sol.each in
          let act : acted d2.wides i words inputs F ≡ put_value t (wide_value w words F) F = ap (λ o. acted_on o d2.wides i words inputs F) e ∙ ap (λ o. wide_acted o words F) entry in
          let same : (k : ℕ) → slice_index (put_value t v F) k ≡ slice_index F k = λ k.
          ap (λ u. slice_index (put_value t u F) k) wanted.0 ∙ (ap (λ G. slice_index G k) (sym act) ∙ last.same k) in
          let fits = sol.long in
          let width_is : t.width ≡ width = ap (λ (s : Shape). s.width) at.0 in
          record {
            shape = wanted.1 ∙ sym at.0;
            low = put_low F t v (omega (arith, fits, low)) (λ many q.
                let one : further_words width ≡ 1 = ap (λ b. if b then 1 else 0) (lt-ltb 64 width (omega (arith, many, width_is))) in
                omega (arith, q, low, high, one)) same;
            high = put_high F t v (omega (arith, fits, high)) same;
          };
    }
  where
    new_slots : (known : Known) (t : Location) → known t.low ≡ false → known t.high ≡ false → AreNew known (location_slots t)
    new_slots known t a b = by_width (nat_lt 64 t.width)
      where
        by_width : (c : Bool) → AreNew known (if c then t.low ∷ t.high ∷ [] else t.low ∷ [])
        by_width true = two_new known t.low t.high a b
        by_width false = one_new known t.low a

    slots_below : (t : Location) (n k : ℕ) → IsLocation n t → among (location_slots t) k ≡ true → k < n
    slots_below t n k within = by_width (nat_lt 64 t.width)
      where
        by_width : (c : Bool) → among (if c then t.low ∷ t.high ∷ [] else t.low ∷ []) k ≡ true → k < n
        by_width true h =
            let a = within.low in
            let b = within.high in
            ⊎_elim (λ e. omega (arith, e, a)) (λ e. omega (arith, e, b)) (two_among k t.low t.high h)
        by_width false h = let a = within.low in let e = one_among k t.low h in omega (arith, e, a)

    slots_written : (known : Known) (t : Location) → ((k : ℕ) → among (location_slots t) k ≡ true → known k ≡ true) → AreKnown known (location_slots t)
    slots_written known t h = by_width (nat_lt 64 t.width) h
      where
        by_width : (c : Bool) → ((k : ℕ) → among (if c then t.low ∷ t.high ∷ [] else t.low ∷ []) k ≡ true → known k ≡ true) → AreKnown known (if c then t.low ∷ t.high ∷ [] else t.low ∷ [])
        by_width true h = two_known known t.low t.high (h t.low (among_first t.low (t.high ∷ []))) (h t.high (among_second t.low t.high))
        by_width false h = one_known known t.low (h t.low (among_first t.low []))
