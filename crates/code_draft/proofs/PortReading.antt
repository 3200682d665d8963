-- An instruction that publishes by a port reads what the port reads, and writes no slot.
use Rattle.std.proofs.Common.{◌≡◌, ℕ, ◌<◌, ◌≤◌, true, List, [], ◌∷◌, ◌++◌, length, slice_get, Some, refl, sym, subst, ap, ◌∙◌, arith, append_assoc, length-append, true≢false}
use Rattle.std.proofs.lemmas.List.{append-nil}
use Rattle.std.proofs.lemmas.List.Elements.{All-cons, All-nil}
use Rattle.std.proofs.lemmas.Option.{slice_get-get_or}
use Rattle.std.proofs.Math.Seq.{get_or-append_seam}
use Rattle.flat_code.specs.declared.instr.Op.TheVariants as op
use Rattle.flat_code.specs.declared.instr.Instr.{Instr}
use Rattle.flat_code.specs.declared.instr.Port.{Port}
use Rattle.flat_code.specs.declared.instr.Wide.{Wide}
use Rattle.flat_code.specs.Fine.{among, nothing, port_reads, reads_on, reads_of, writes_on, writes_of, slots_of}
use Rattle.code_draft.specs.declared.draft.Draft.{Draft}
use Rattle.code_draft.specs.Drafts.{with_instr}
use Rattle.code_draft.specs.Segments.{GoesOn, Segment}
use Rattle.code_draft.proofs.Segmenting.{none_among, few_written}
use Rattle.code_draft.specs.Writing.{with_port}

pub port_segment : (d : Draft) (p : Port) (i : Instr) → i.op ≡ op.PublishAt → i.first ≡ length d.ports → Segment d (with_instr (with_port d p) i) (slots_of (p.address ∷ p.source ∷ p.conditions)) [] 0
port_segment d p i e first = record {
  instrs = i ∷ [];
  is = refl;
  tables = record { further_ports = p ∷ []; further_wides = []; ports_on = refl; wides_on = sym (append-nil d.wides) };
  slots = omega arith;
  each = λ ports wides on. record {
    reads = All-cons (λ j. (k : ℕ) → k < d.slots → among (reads_of ports wides j) k ≡ true → among outer k ≡ true) i []
        (λ k lt r. subst (λ xs. among xs k ≡ true) (ap (λ o. reads_on o ports wides i) e ∙ ap port_reads (entry ports wides on)) r)
        (All-nil (λ j. (k : ℕ) → k < d.slots → among (reads_of ports wides j) k ≡ true → among outer k ≡ true));
    writes = All-cons (λ j. (k : ℕ) → among (writes_of wides j) k ≡ true → (d.slots ≤ k) × (k < d.slots)) i []
        (λ k w. none_among k (subst (λ xs. among xs k ≡ true) (ap (λ o. writes_on o wides i) e) w))
        (All-nil (λ j. (k : ℕ) → among (writes_of wides j) k ≡ true → (d.slots ≤ k) × (k < d.slots)));
    few = λ after ok. few_written ports wides 0 d.slots after [] (omega arith) (i ∷ []) nothing
        (All-cons (λ j. (k : ℕ) → among (writes_of wides j) k ≡ true → among [] k ≡ true) i [] (λ k w. subst (λ xs. among xs k ≡ true) (ap (λ o. writes_on o wides i) e) w)
        (All-nil (λ j. (k : ℕ) → among (writes_of wides j) k ≡ true → among [] k ≡ true)))
        (λ k h. absurd (true≢false (sym h)));
  };
  there = λ k h. none_among k h;
  few = omega arith;
}
  where
    outer : List ℕ
    outer = slots_of (p.address ∷ p.source ∷ p.conditions)

    last_of : (ps zs : List Port) (q : Port) → slice_get (ps ++ q ∷ zs) (length ps) ≡ Some q
    last_of ps zs q =
        let long = length-append ps (q ∷ zs) in
        slice_get-get_or (ps ++ q ∷ zs) (length ps) q (omega (arith, long)) ∙ ap Some (get_or-append_seam ps q zs q)

    entry : (ports : List Port) (wides : List Wide) → GoesOn (with_instr (with_port d p) i) ports wides → slice_get ports i.first ≡ Some p
    entry ports wides on = ap (slice_get ports) first ∙ (ap (λ ps. slice_get ps (length d.ports)) (on.ports_on ∙ append_assoc d.ports (p ∷ []) on.further_ports) ∙ last_of d.ports on.further_ports p)
