-- Words that are computed: what they leave in their slots.
use Rattle.std.proofs.Common.{◌≡◌, ℕ, zero, suc, ◌<◌, true, false, List, [], ◌∷◌, length, slice_index, slice_set, All, refl, sym, subst, ap, ◌∙◌, arith, true≢false}
use Rattle.bit_words.specs.declared.value.Value.{Value}
use Rattle.flat_code.specs.declared.instr.Op.{Op}
use Rattle.flat_code.specs.declared.instr.Op.TheVariants as op
use Rattle.flat_code.specs.declared.instr.Instr.{Instr}
use Rattle.flat_code.specs.declared.instr.Port.{Port}
use Rattle.flat_code.specs.declared.instr.Wide.{Wide}
use Rattle.flat_code.specs.Meaning.{acted_on, pushed_on, word_on}
use Rattle.flat_code.specs.Fine.{FineOn, AreKnown, among, reads_on, writes_on}
use Rattle.flat_code.specs.Orders.{Solves, AreNew}
use Rattle.code_draft.specs.declared.draft.Draft.{Draft}
use Rattle.code_draft.specs.Drafts.{IsDraft, written_in, with_instr, with_slots, computes, Computes, Works, at_slot}
use Rattle.code_draft.proofs.Growing.{Follows, grows_instr, grows_slots, grows_then, all_last, one_new, one_among, unwritten, written_here, among_first}
use Rattle.code_draft.proofs.Fetches.{put_there}

pub not_so : {A : Type 0} → false ≡ true → A
not_so e = absurd (true≢false (sym e))

pub writes_one : (o : Op) (wides : List Wide) (i : Instr) → computes o ≡ true → writes_on o wides i ≡ i.target ∷ []
writes_one op.Publish wides i e = not_so e
writes_one op.PublishAt wides i e = not_so e
writes_one op.Wide wides i e = not_so e
writes_one _ wides i e = refl

is_quiet : (o : Op) (ports : List Port) (i : Instr) (F : List ℕ) → computes o ≡ true → pushed_on o ports i F ≡ []
is_quiet op.Publish ports i F e = not_so e
is_quiet op.PublishAt ports i F e = not_so e
is_quiet _ ports i F e = refl

puts_word : (o : Op) (wides : List Wide) (i : Instr) (words : List ℕ) (inputs : List Value) (F : List ℕ) → computes o ≡ true
    → acted_on o wides i words inputs F ≡ slice_set F i.target (word_on o i words inputs (slice_index F i.first) (slice_index F i.second) (slice_index F i.third))
puts_word op.Publish wides i words inputs F e = not_so e
puts_word op.PublishAt wides i words inputs F e = not_so e
puts_word op.Wide wides i words inputs F e = not_so e
puts_word _ wides i words inputs F e = refl

pub same_reads : (o : Op) (ports : List Port) (wides : List Wide) (i : Instr) (k : ℕ) → reads_on o ports wides (at_slot k i) ≡ reads_on o ports wides i
same_reads op.Wide ports wides i k = refl
same_reads _ ports wides i k = refl

same_word : (o : Op) (i : Instr) (k : ℕ) (words : List ℕ) (inputs : List Value) (a b c : ℕ) → word_on o (at_slot k i) words inputs a b c ≡ word_on o i words inputs a b c
same_word op.Wide i k words inputs a b c = refl
same_word _ i k words inputs a b c = refl

-- slots that are read are there
module _ (n m p w : ℕ) (ports : List Port) (wides : List Wide) (i : Instr) (to : i.target < n) (shift : i.shift < 64) where
  first_of : (x : ℕ) (xs : List ℕ) → All (λ k. k < n) (x ∷ xs) → x < n
  first_of x xs a = a zero x (omega arith)

  second_of : (x y : ℕ) (xs : List ℕ) → All (λ k. k < n) (x ∷ y ∷ xs) → y < n
  second_of x y xs a = a (suc zero) y (omega arith)

  third_of : (x y z : ℕ) → All (λ k. k < n) (x ∷ y ∷ z ∷ []) → z < n
  third_of x y z a = a (suc (suc zero)) z (omega arith)

  is_fine : (o : Op) → computes o ≡ true → All (λ k. k < n) (reads_on o ports wides i) → FineOn o n m p w i
  is_fine op.Constant e a = to
  is_fine op.Keep e a = (to, first_of i.first [] a)
  is_fine op.Not e a = (to, first_of i.first [] a)
  is_fine op.IsMask e a = (to, first_of i.first [] a)
  is_fine op.Parity e a = (to, first_of i.first [] a)
  is_fine op.Extend e a = (to, first_of i.first [] a)
  is_fine op.Right e a = (to, first_of i.first [] a, shift)
  is_fine op.Left e a = (to, first_of i.first [] a, shift)
  is_fine op.Join e a = (to, first_of i.first (i.second ∷ []) a, second_of i.first i.second [] a, shift)
  is_fine op.Mux e a = (to, first_of i.first (i.second ∷ i.third ∷ []) a, second_of i.first i.second (i.third ∷ []) a, third_of i.first i.second i.third a)
  is_fine op.Add e a = (to, first_of i.first (i.second ∷ []) a, second_of i.first i.second [] a)
  is_fine op.Sub e a = (to, first_of i.first (i.second ∷ []) a, second_of i.first i.second [] a)
  is_fine op.Mul e a = (to, first_of i.first (i.second ∷ []) a, second_of i.first i.second [] a)
  is_fine op.Quotient e a = (to, first_of i.first (i.second ∷ []) a, second_of i.first i.second [] a)
  is_fine op.Remainder e a = (to, first_of i.first (i.second ∷ []) a, second_of i.first i.second [] a)
  is_fine op.LeftBy e a = (to, first_of i.first (i.second ∷ []) a, second_of i.first i.second [] a)
  is_fine op.RightBy e a = (to, first_of i.first (i.second ∷ []) a, second_of i.first i.second [] a)
  is_fine op.RightSigned e a = (to, first_of i.first (i.second ∷ []) a, second_of i.first i.second [] a)
  is_fine op.Below e a = (to, first_of i.first (i.second ∷ []) a, second_of i.first i.second [] a)
  is_fine op.And e a = (to, first_of i.first (i.second ∷ []) a, second_of i.first i.second [] a)
  is_fine op.Or e a = (to, first_of i.first (i.second ∷ []) a, second_of i.first i.second [] a)
  is_fine op.Xor e a = (to, first_of i.first (i.second ∷ []) a, second_of i.first i.second [] a)
  is_fine op.Equal e a = (to, first_of i.first (i.second ∷ []) a, second_of i.first i.second [] a)
  is_fine op.Less e a = (to, first_of i.first (i.second ∷ []) a, second_of i.first i.second [] a)
  is_fine op.Load e a = not_so e
  is_fine op.LoadAt e a = not_so e
  is_fine op.Input e a = not_so e
  is_fine op.InputHigh e a = not_so e
  is_fine op.Publish e a = not_so e
  is_fine op.PublishAt e a = not_so e
  is_fine op.Wide e a = not_so e

-- A slot, and the instruction that fills it.
pub works : (d : Draft) (i : Instr) → IsDraft d → Computes d i → Works d (with_instr (with_slots d 1) (at_slot d.slots i)) i d.slots
works d i is c =
    let d1 = with_slots d 1 in
    let j = at_slot d.slots i in
    let d2 = with_instr d1 j in
    let g1 = grows_slots d 1 is in
    let reads = same_reads i.op d.ports d.wides i d.slots in
    let known = subst (AreKnown (written_in d)) (sym reads) c.known in
    let writes = writes_one i.op d.wides j c.plain in
    let follows : Follows d1 j.op j = record {
      fine = is_fine d1.slots d.words (length d.ports) (length d.wides) d.ports d.wides j (omega arith) c.shift i.op c.plain (λ k x lt. let h = is.below _ (known k x lt) in omega (arith, h));
      reads = known;
      new = subst (AreNew (written_in d1)) (sym writes) (one_new (written_in d1) d.slots (unwritten d d.slots is (omega arith)));
      within = λ k h. let e = one_among k d.slots (subst (λ ks. among ks k ≡ true) writes h) in omega (arith, e);
      quiet = λ F. is_quiet i.op d.ports j F c.plain;
    } in
    let g2 = grows_instr d1 j g1.is follows in
    record {
      grows = grows_then d d1 d2 g1 g2;
      within = omega arith;
      written = written_here d1 j d.slots (subst (λ ks. among ks d.slots ≡ true) (sym writes) (among_first d.slots []));
      holds = λ words inputs F sol.
          let last = all_last (Solves d1.wides words inputs F) d.instrs j sol.each in
          let long = sol.long in
          put_there F d.slots (word_on i.op j words inputs (slice_index F i.first) (slice_index F i.second) (slice_index F i.third)) (omega (arith, long))
          (ap (λ G. slice_index G d.slots) (sym (puts_word i.op d.wides j words inputs F c.plain)) ∙ last.same d.slots)
          ∙ same_word i.op i d.slots words inputs (slice_index F i.first) (slice_index F i.second) (slice_index F i.third);
    }
