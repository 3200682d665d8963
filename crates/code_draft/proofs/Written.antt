-- A longer table of ports, and an instruction that publishes by its last.
use Rattle.std.proofs.Common.{◌≡◌, ℕ, zero, suc, ◌<◌, ◌≤◌, true, ◌||◌, List, [], ◌∷◌, ◌++◌, length, slice_get, Some, All, get_or, refl, sym, subst, ap, ap₂, ◌∙◌, arith}
use Rattle.std.specs.Prelude.{Result, Ok, Err, OnOk}
use Rattle.std.proofs.lemmas.List.{append_assoc, append-nil, get_or_append_left, length-append}
use Rattle.std.proofs.Math.Seq.{get_or-append_seam}
use Rattle.std.proofs.lemmas.Option.{slice_get-get_or}
use Rattle.std.proofs.lemmas.List.Elements.{All-push, All-append}
use Rattle.flat_code.specs.declared.instr.Op.{Op}
use Rattle.flat_code.specs.declared.instr.Op.TheVariants as op
use Rattle.flat_code.specs.declared.instr.Instr.{Instr}
use Rattle.flat_code.specs.declared.instr.Port.{Port}
use Rattle.flat_code.specs.declared.instr.Location.{Location}
use Rattle.flat_code.specs.declared.instr.Wide.{Wide}
use Rattle.flat_code.specs.Meaning.{pushed, pushed_on, at_some_port}
use Rattle.flat_code.specs.Fine.{FineOn, IsFine, AreFine, IsPort, Known, nothing, more, among, AreKnown, reads_on, writes_on, writes_of, port_reads, location_slots, slots_of}
use Rattle.flat_code.specs.Orders.{Solves, Single, AreNew, pushed_all}
use Rattle.flat_code.proofs.Frames.{fine_more}
use Rattle.code_draft.specs.declared.draft.Draft.{Draft}
use Rattle.code_draft.specs.Drafts.{IsDraft, Grows, Stands, written_in, with_instr}
use Rattle.code_draft.proofs.Growing.{written_last, single_last, all_front}
use Rattle.code_draft.specs.Writing.{with_port, PublishesBy}

pub on_ok_so : {A E : Type 0} (P Q : Type 0) (r : Result A E) → OnOk r P → (P → Q) → OnOk r Q
on_ok_so P Q (Ok x) h f = f h
on_ok_so P Q (Err e) h f = tt

module _ (ports longer : List Port) (wides : List Wide) (n m w : ℕ) (same : (k : ℕ) → k < length ports → slice_get longer k ≡ slice_get ports k) where
  reads_longer : (o : Op) (i : Instr) → FineOn o n m (length ports) w i → reads_on o longer wides i ≡ reads_on o ports wides i
  reads_longer op.PublishAt i fine = ap port_reads (same i.first fine)
  reads_longer _ i fine = refl

  pushed_longer : (o : Op) (i : Instr) (F : List ℕ) → FineOn o n m (length ports) w i → pushed_on o longer i F ≡ pushed_on o ports i F
  pushed_longer op.PublishAt i F fine = ap (λ p. at_some_port p F) (same i.first fine)
  pushed_longer _ i F fine = refl

  single_longer : (known : Known) (is : List Instr) → AreFine n m (length ports) w is → Single known ports wides is → Single known longer wides is
  single_longer known [] fine s = tt
  single_longer known (i ∷ is) fine s = (
    subst (AreKnown known) (sym (reads_longer i.op i (fine 0 i (omega arith)))) s.0,
    s.1,
    single_longer (more (writes_of wides i) known) is (λ k d lt. fine (suc k) d (omega (arith, lt))) s.2,
  )

  all_longer : (is : List Instr) (F : List ℕ) → AreFine n m (length ports) w is → pushed_all longer is F ≡ pushed_all ports is F
  all_longer [] F fine = refl
  all_longer (i ∷ is) F fine = ap₂ (λ ps qs. ps ++ qs) (pushed_longer i.op i F (fine 0 i (omega arith))) (all_longer is F (λ k d lt. fine (suc k) d (omega (arith, lt))))

same_before : (ports : List Port) (p : Port) (k : ℕ) → k < length ports → slice_get (ports ++ p ∷ []) k ≡ slice_get ports k
same_before ports p k lt =
    let long = length-append ports (p ∷ []) in
    slice_get-get_or (ports ++ p ∷ []) k p (omega (arith, long, lt)) ∙ (ap Some (get_or_append_left ports (p ∷ []) p k lt) ∙ sym (slice_get-get_or ports k p lt))

last_there : (ports : List Port) (p : Port) → slice_get (ports ++ p ∷ []) (length ports) ≡ Some p
last_there ports p =
    let long = length-append ports (p ∷ []) in
    slice_get-get_or (ports ++ p ∷ []) (length ports) p (omega (arith, long)) ∙ ap Some (get_or-append_seam ports p [] p)

grows_port : (d : Draft) (p : Port) → IsDraft d → IsPort d.slots d.words p → Grows d (with_port d p)
grows_port d p is h =
    let w = length d.wides in
    let longer = d.ports ++ p ∷ [] in
    let long = length-append d.ports (p ∷ []) in
    let same = same_before d.ports p in
    let le : length d.ports ≤ length longer = omega (arith, long) in
    record {
      is = record {
        fine = λ k i lt. fine_more (get_or d.instrs k i).op d.slots d.slots d.words (length d.ports) (length longer) w w (get_or d.instrs k i) (omega arith) le (omega arith) (is.fine k i lt);
        single = single_longer d.ports longer d.wides d.slots d.words w same nothing d.instrs is.fine is.single;
        below = is.below;
        ports = All-push (IsPort d.slots d.words) d.ports p is.ports h;
        wides = is.wides;
      };
      words = refl;
      slots = omega arith;
      stays = λ k e. e;
      back = λ words inputs F s. record { long = s.long; plain = s.plain; each = s.each };
      quiet = λ F. all_longer d.ports longer d.wides d.slots d.words w same d.instrs F is.fine;
    }

slots_known : (d : Draft) (ss : List Location) → All (Stands d) ss → AreKnown (written_in d) (slots_of ss)
slots_known d [] a = λ k x lt. absurd (omega (arith, lt))
slots_known d (s ∷ ss) a = All-append (λ k. written_in d k ≡ true) (location_slots s) (slots_of ss) ((a 0 s (omega arith)).written) (slots_known d ss (λ k x lt. a (suc k) x (omega (arith, lt))))

all_cons : (d : Draft) (s : Location) (ss : List Location) → Stands d s → All (Stands d) ss → All (Stands d) (s ∷ ss)
all_cons d s ss h a zero x lt = h
all_cons d s ss h a (suc k) x lt = a k x (omega (arith, lt))

pushed_last : (ports : List Port) (is : List Instr) (i : Instr) (F : List ℕ) → pushed_all ports (is ++ i ∷ []) F ≡ pushed_all ports is F ++ pushed ports i F
pushed_last ports [] i F = append-nil (pushed ports i F)
pushed_last ports (j ∷ js) i F = ap (λ ps. pushed ports j F ++ ps) (pushed_last ports js i F) ∙ sym (append_assoc (pushed ports j F) (pushed_all ports js F) (pushed ports i F))

-- the port, and its instruction
pub writes_by : (d : Draft) (p : Port) (i : Instr) → i.op ≡ op.PublishAt → i.first ≡ length d.ports → PublishesBy d (with_instr (with_port d p) i) p
writes_by d p i e first is has =
    let a = with_port d p in
    let b = with_instr a i in
    let fine_port : IsPort d.slots d.words p = record { conditions = λ k s lt. (has.conditions k s lt).within; address = has.address.within; source = has.source.within; region = has.region } in
    let g = grows_port d p is fine_port in
    let entry : slice_get a.ports i.first ≡ Some p = ap (slice_get a.ports) first ∙ last_there d.ports p in
    let long = length-append d.ports (p ∷ []) in
    let none : writes_of a.wides i ≡ [] = ap (λ o. writes_on o a.wides i) e in
    let same : (k : ℕ) → written_in b k ≡ written_in a k = λ k. written_last nothing a.wides a.instrs i k ∙ ap (λ ks. among ks k || written_in a k) none in
    let known : AreKnown (written_in a) (slots_of (p.address ∷ p.source ∷ p.conditions))
    = slots_known d (p.address ∷ p.source ∷ p.conditions) (all_cons d p.address (p.source ∷ p.conditions) has.address (all_cons d p.source p.conditions has.source has.conditions)) in
    record {
      is = record {
        fine = All-push (IsFine a.slots a.words (length a.ports) (length a.wides)) a.instrs i g.is.fine (subst (λ o. FineOn o a.slots a.words (length a.ports) (length a.wides) i) (sym e) (omega (arith, first, long)));
        single = single_last nothing a.ports a.wides a.instrs i g.is.single
            (subst (λ o. AreKnown (written_in a) (reads_on o a.ports a.wides i)) (sym e) (subst (AreKnown (written_in a)) (sym (ap port_reads entry)) known))
            (subst (AreNew (written_in a)) (sym none) (λ k x lt. absurd (omega (arith, lt))));
        below = λ k h. g.is.below k (sym (same k) ∙ h);
        ports = g.is.ports;
        wides = g.is.wides;
      };
      words = refl;
      slots = omega arith;
      stays = λ k h. same k ∙ h;
      back = λ words inputs F s. record { long = s.long; plain = s.plain; each = all_front (Solves d.wides words inputs F) d.instrs i s.each };
      tells = λ F.
          pushed_last a.ports a.instrs i F
          ∙ ap₂ (λ ps qs. ps ++ qs) (g.quiet F) (ap (λ o. pushed_on o a.ports i F) e ∙ ap (λ o. at_some_port o F) entry);
    }
