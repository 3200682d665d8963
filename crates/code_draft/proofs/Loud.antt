-- Instructions that publish a slot.
use Rattle.std.proofs.Common.{◌≡◌, ℕ, ◌+◌, ◌/◌, ◌%◌, ◌^◌, ◌<◌, ◌≤◌, true, ◌||◌, nat_lt, if◌then◌else◌, List, [], ◌∷◌, ◌++◌, length, slice_index, refl, sym, subst, ap, ap₂, ◌∙◌, arith}
use Rattle.std.specs.Prelude.{Result, Ok, Err, OnOk}
use Rattle.std.proofs.lemmas.Bool.{lt-ltb, le-ltb}
use Rattle.std.proofs.lemmas.List.{append_assoc, append-nil}
use Rattle.std.proofs.lemmas.List.Elements.{All-push}
use Rattle.bit_words.specs.declared.value.Value.{Value}
use Rattle.phase_core.specs.declared.model.Publication.{Publication}
use Rattle.ground_net.specs.Shapes.{Shape}
use Rattle.flat_code.specs.declared.instr.Op.TheVariants as op
use Rattle.flat_code.specs.declared.instr.Instr.{Instr}
use Rattle.flat_code.specs.declared.instr.Port.{Port}
use Rattle.flat_code.specs.declared.instr.Location.{Location}
use Rattle.flat_code.specs.Meaning.{pushed, pushed_on}
use Rattle.flat_code.specs.Fine.{FineOn, IsFine, AreKnown, nothing, reads_on, writes_on, writes_of, location_slots, further_words, among}
use Rattle.flat_code.specs.Orders.{Solves, AreNew, pushed_all}
use Rattle.code_draft.specs.declared.draft.Draft.{Draft}
use Rattle.code_draft.specs.Drafts.{IsDraft, Solved, written_in, pushed_in, with_instr}
use Rattle.code_draft.proofs.Growing.{written_last, single_last, all_front, one_known}
use Rattle.code_draft.specs.Publishing.{Publishes}

told : Instr → List ℕ → List Publication
told i F = record { word = i.second; value = slice_index F i.first } ∷ []

pub record Loud (d : Draft) (i : Instr) : Type 0 where
  pub is : IsDraft (with_instr d i)
  pub stays : (k : ℕ) → written_in d k ≡ true → written_in (with_instr d i) k ≡ true
  pub back : (words : List ℕ) (inputs : List Value) (F : List ℕ) → Solved (with_instr d i) words inputs F → Solved d words inputs F
  pub tells : (F : List ℕ) → pushed_in (with_instr d i) F ≡ pushed_in d F ++ (record { word = i.second; value = slice_index F i.first } ∷ [])

pushed_last : (ports : List Port) (is : List Instr) (i : Instr) (F : List ℕ) → pushed_all ports (is ++ i ∷ []) F ≡ pushed_all ports is F ++ pushed ports i F
pushed_last ports [] i F = append-nil (pushed ports i F)
pushed_last ports (j ∷ js) i F = ap (λ ps. pushed ports j F ++ ps) (pushed_last ports js i F) ∙ sym (append_assoc (pushed ports j F) (pushed_all ports js F) (pushed ports i F))

pub loud : (d : Draft) (i : Instr) → IsDraft d → i.op ≡ op.Publish → i.first < d.slots → written_in d i.first ≡ true → i.second < d.words → Loud d i
loud d i is e slot there word =
    let none : writes_of d.wides i ≡ [] = ap (λ o. writes_on o d.wides i) e in
    let same : (k : ℕ) → written_in (with_instr d i) k ≡ written_in d k = λ k. written_last nothing d.wides d.instrs i k ∙ ap (λ ks. among ks k || written_in d k) none in
    record {
      is = record {
        fine = All-push (IsFine d.slots d.words (length d.ports) (length d.wides)) d.instrs i is.fine (subst (λ o. FineOn o d.slots d.words (length d.ports) (length d.wides) i) (sym e) (slot, word));
        single = single_last nothing d.ports d.wides d.instrs i is.single
            (subst (λ o. AreKnown (written_in d) (reads_on o d.ports d.wides i)) (sym e) (one_known (written_in d) i.first there))
            (subst (AreNew (written_in d)) (sym none) (λ k x lt. absurd (omega (arith, lt))));
        below = λ k h. is.below k (sym (same k) ∙ h);
        ports = is.ports;
        wides = is.wides;
      };
      stays = λ k h. same k ∙ h;
      back = λ words inputs F s. record { long = s.long; plain = s.plain; each = all_front (Solves d.wides words inputs F) d.instrs i s.each };
      tells = λ F. pushed_last d.ports d.instrs i F ∙ ap (λ o. pushed_in d F ++ pushed_on o d.ports i F) e;
    }

-- a value of one word
pub tells_one : (d : Draft) (s : Location) (i : Instr) (word : ℕ) → s.width ≤ 64 → i.op ≡ op.Publish → i.first ≡ s.low → i.second ≡ word → Publishes d (with_instr d i) word s
tells_one d s i word few e first second is there room =
    let narrow = le-ltb 64 s.width few in
    let slots : location_slots s ≡ s.low ∷ [] = ap (λ b. if b then s.low ∷ s.high ∷ [] else s.low ∷ []) narrow in
    let known : written_in d s.low ≡ true = subst (AreKnown (written_in d)) slots there.written 0 0 (omega arith) in
    let below = there.within.low in
    let l = loud d i is e (omega (arith, first, below)) (ap (written_in d) first ∙ known) (omega (arith, second, room)) in
    record {
      is = l.is;
      words = refl;
      slots = omega arith;
      stays = l.stays;
      back = l.back;
      tells = λ F v h.
          let width : v.width ≡ s.width = ap (λ (t : Shape). t.width) h.shape in
          l.tells F ∙ (ap₂ (λ w x. pushed_in d F ++ (record { word = w; value = x } ∷ [])) second (ap (slice_index F) first ∙ h.low)
          ∙ ap (λ b. pushed_in d F ++ (if b then record { word = word; value = v.bits % 2 ^ 64 } ∷ record { word = word + 1; value = v.bits / 2 ^ 64 } ∷ [] else record { word = word; value = v.bits % 2 ^ 64 } ∷ []))
          (sym (ap (nat_lt 64) width ∙ narrow)));
    }

-- a value of two words
pub tells_two : (d : Draft) (s : Location) (i j : Instr) (word : ℕ) → 64 < s.width → i.op ≡ op.Publish → j.op ≡ op.Publish → i.first ≡ s.low → j.first ≡ s.high → i.second ≡ word → j.second ≡ word + 1
    → Publishes d (with_instr (with_instr d i) j) word s
tells_two d s i j word many e f first next second third is there room =
    let wide = lt-ltb 64 s.width many in
    let one : further_words s.width ≡ 1 = ap (λ b. if b then 1 else 0) wide in
    let slots : location_slots s ≡ s.low ∷ s.high ∷ [] = ap (λ b. if b then s.low ∷ s.high ∷ [] else s.low ∷ []) wide in
    let known = subst (AreKnown (written_in d)) slots there.written in
    let low : written_in d s.low ≡ true = known 0 0 (omega arith) in
    let high : written_in d s.high ≡ true = known 1 0 (omega arith) in
    let below = there.within.low in
    let above = there.within.high in
    let l = loud d i is e (omega (arith, first, below)) (ap (written_in d) first ∙ low) (omega (arith, second, room, one)) in
    let m = loud (with_instr d i) j l.is f (omega (arith, next, above)) (ap (written_in (with_instr d i)) next ∙ l.stays s.high high) (omega (arith, third, room, one)) in
    record {
      is = m.is;
      words = refl;
      slots = omega arith;
      stays = λ k h. m.stays k (l.stays k h);
      back = λ words inputs F sol. l.back words inputs F (m.back words inputs F sol);
      tells = λ F v h.
          let width : v.width ≡ s.width = ap (λ (t : Shape). t.width) h.shape in
          let a : Publication = record { word = word; value = v.bits % 2 ^ 64 } in
          let b : Publication = record { word = word + 1; value = v.bits / 2 ^ 64 } in
          m.tells F ∙ (ap₂ (λ ps x. ps ++ (x ∷ []))
          (l.tells F ∙ ap₂ (λ w x. pushed_in d F ++ (record { word = w; value = x } ∷ [])) second (ap (slice_index F) first ∙ h.low))
          (ap₂ (λ w x. record { word = w; value = x }) third (ap (slice_index F) next ∙ h.high many))
          ∙ (append_assoc (pushed_in d F) (a ∷ []) (b ∷ [])
          ∙ ap (λ t. pushed_in d F ++ (if t then a ∷ b ∷ [] else a ∷ [])) (sym (ap (nat_lt 64) width ∙ wide))));
    }

pub on_ok_so : {A E : Type 0} (P Q : Type 0) (r : Result A E) → OnOk r P → (P → Q) → OnOk r Q
on_ok_so P Q (Ok x) h f = f h
on_ok_so P Q (Err e) h f = tt
