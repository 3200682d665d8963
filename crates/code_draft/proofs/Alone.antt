-- Slots that code doesn't write.
use Rattle.std.proofs.Common.{◌≡◌, ◌==◌, ℕ, Bool, true, false, ◌||◌, List, [], ◌∷◌, slice_index, slice_set, slice_get, Option, Some, None, nat_lt, if◌then◌else◌, refl, sym, ap, ◌∙◌, true≢false}
use Rattle.std.proofs.lemmas.List.{get_or-set_other}
use Rattle.bit_words.specs.declared.value.Value.{Value}
use Rattle.flat_code.specs.declared.instr.Op.{Op}
use Rattle.flat_code.specs.declared.instr.Op.TheVariants as op
use Rattle.flat_code.specs.declared.instr.Instr.{Instr}
use Rattle.flat_code.specs.declared.instr.Wide.{Wide}
use Rattle.flat_code.specs.Meaning.{acted, acted_on, wide_acted, ran}
use Rattle.flat_code.specs.Fine.{Known, more, among, written, writes_of, writes_on, wide_writes}
use Rattle.code_draft.proofs.Growing.{among_first}

left : (a b : Bool) → (a || b) ≡ false → a ≡ false
left true b e = e
left false b e = refl

right : (a b : Bool) → (a || b) ≡ false → b ≡ false
right true b e = absurd (true≢false e)
right false b e = e

-- words that are put elsewhere
set_alone : (F : List ℕ) (t w k : ℕ) → among (t ∷ []) k ≡ false → slice_index (slice_set F t w) k ≡ slice_index F k
set_alone F t w k e = get_or-set_other F t k w 0 (λ q. true≢false (sym (among_first t []) ∙ (ap (among (t ∷ [])) (sym q) ∙ e)))

put_alone : (b : Bool) (F : List ℕ) (t u w x k : ℕ) → among (if b then t ∷ u ∷ [] else t ∷ []) k ≡ false
    → slice_index (if b then slice_set (slice_set F t w) u x else slice_set F t w) k ≡ slice_index F k
put_alone true F t u w x k e =
    set_alone (slice_set F t w) u x k (right (k == t) (among (u ∷ []) k) e) ∙ set_alone F t w k (ap (λ b. b || false) (left (k == t) (among (u ∷ []) k) e))
put_alone false F t u w x k e = set_alone F t w k e

wide_alone : (o : Option Wide) (words F : List ℕ) (k : ℕ) → among (wide_writes o) k ≡ false → slice_index (wide_acted o words F) k ≡ slice_index F k
wide_alone (Some w) words F k e = put_alone (nat_lt 64 w.target.width) F w.target.low w.target.high _ _ k e
wide_alone None words F k e = refl

acted_alone : (o : Op) (wides : List Wide) (i : Instr) (words : List ℕ) (inputs : List Value) (F : List ℕ) (k : ℕ) → among (writes_on o wides i) k ≡ false
    → slice_index (acted_on o wides i words inputs F) k ≡ slice_index F k
acted_alone op.Publish wides i words inputs F k e = refl
acted_alone op.PublishAt wides i words inputs F k e = refl
acted_alone op.Wide wides i words inputs F k e = wide_alone (slice_get wides i.first) words F k e
acted_alone _ wides i words inputs F k e = set_alone F i.target _ k e

-- what is known before is known behind
known_before : (wides : List Wide) (k : ℕ) (is : List Instr) (known : Known) → written known wides is k ≡ false → known k ≡ false
known_before wides k [] known e = e
known_before wides k (i ∷ is) known e = right (among (writes_of wides i) k) (known k) (known_before wides k is (more (writes_of wides i) known) e)

pub ran_leaves : (wides : List Wide) (words : List ℕ) (inputs : List Value) (k : ℕ) (is : List Instr) (known : Known) (f : List ℕ) → written known wides is k ≡ false
    → slice_index (ran wides is words inputs f) k ≡ slice_index f k
ran_leaves wides words inputs k [] known f e = refl
ran_leaves wides words inputs k (i ∷ is) known f e =
    let here = left (among (writes_of wides i) k) (known k) (known_before wides k is (more (writes_of wides i) known) e) in
    ran_leaves wides words inputs k is (more (writes_of wides i) known) (acted wides i words inputs f) e ∙ acted_alone i.op wides i words inputs f k here
