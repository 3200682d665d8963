use Rattle.std.proofs.Common.{◌≡◌, ◌^◌, ◌<◌, ◌≤◌, ◌∙◌, ℕ, refl, sym, subst, arith}
use Rattle.bit_words.specs.declared.number.Base.TheVariants.{Decimal}
use Rattle.bit_words.specs.Numbers.{WritesDigits, Holds}
use Rattle.snapshot_text.specs.Texts.{most_cycles}
use Rattle.snapshot_text.proofs.Heading.{silent_head_first, no_digits, state_first, cycles_behind, head_behind}
use Rattle.snapshot_text.proofs.Naming.{differ, agree}
use Rattle.snapshot_text.proofs.reading.read_head.Goals as goal
use Rattle.snapshot_text.proofs.reading.read_head.Goals.{in-Ok, in-Err-Over, in_default-number-via-in-Some-number+else-cycle-le-MOST_CYCLES, in_default-number-via-in_default-number}

pub returns-in_default-clause-err : goal.returns-in_default-clause-err
returns-in_default-clause-err c = λ cells. rw c.place_of.ensures (silent_head_first c.args.bytes.now cells c.in_default.ensures.none)

pub returns-in-Err-NotNumber-clause-err : goal.returns-in-Err-NotNumber-clause-err
returns-in-Err-NotNumber-clause-err c = λ cells.
    rw c.place_of-in-Err-NotNumber.ensures
    (silent_head_first c.args.bytes.now cells
    (no_digits c.args.bytes.now c.in-Some.word.now c.in-Some.cycles.now c.in-Some.ensures.some (rw c.in-Err-NotNumber.field-0-is at c.in-Err-NotNumber.ensures.answer)))

pub returns-then-ne-clause-err : goal.returns-then-ne-clause-err
returns-then-ne-clause-err c = λ cells.
    let counted : (n : ℕ) × WritesDigits Decimal c.in-Some.cycles.now n = elim c.match-digits_value.branch [
      | in-Ok w ↦ (w.in-Ok.number, w.in-Ok.ensures.answer.0)
      | in-Err-Over w ↦ let t = rw w.in-Err-Over.field-0-is at w.in-Err-Over.ensures.answer in (t.0, t.1)
    ] in
    rw c.place_of-then-ne.ensures
    (state_first c.args.bytes.now c.in-Some.word.now c.in-Some.cycles.now c.in-Some.ensures.some counted.0 counted.1 cells
    (λ q. differ c.in-Some.word.now c.as_slice.result.now c.if-ne.ensures (q ∙ sym c.as_slice.ensures)))

pub returns-in-Some-number-clause-ok : goal.returns-in-Some-number-clause-ok
returns-in-Some-number-clause-ok c =
    let counted : (n : ℕ) × WritesDigits Decimal c.in-Some.cycles.now n × Holds c.match-digits_value.number n = elim c.match-digits_value.branch [
      | in-Ok w ↦ (w.in-Ok.number, w.in-Ok.ensures.answer.0, subst (λ o. Holds o w.in-Ok.number) (sym w.number-is) refl)
      | in-Err-Over w ↦ let t = rw w.in-Err-Over.field-0-is at w.in-Err-Over.ensures.answer in (t.0, t.1, subst (λ o. Holds o t.0) (sym w.number-is) t.2)
    ] in
    let same : c.in-Some-number.cycle ≡ counted.0 = subst (λ o. Holds o counted.0) c.in-Some-number.is counted.2 in
    head_behind c.args.bytes.now c.in-Some.word.now c.in-Some.cycles.now c.in-Some.ensures.some c.in-Some-number.cycle (subst (WritesDigits Decimal c.in-Some.cycles.now) (sym same) counted.1)
    (agree c.in-Some.word.now c.as_slice.result.now c.if-ne.ensures ∙ c.as_slice.ensures) c.if-cycle-le-MOST_CYCLES.true

pub returns-in_default-number-clause-err : goal.returns-in_default-number-clause-err
returns-in_default-number-clause-err c = λ cells.
    let counted : (n : ℕ) × WritesDigits Decimal c.in-Some.cycles.now n × Holds c.match-digits_value.number n = elim c.match-digits_value.branch [
      | in-Ok w ↦ (w.in-Ok.number, w.in-Ok.ensures.answer.0, subst (λ o. Holds o w.in-Ok.number) (sym w.number-is) refl)
      | in-Err-Over w ↦ let t = rw w.in-Err-Over.field-0-is at w.in-Err-Over.ensures.answer in (t.0, t.1, subst (λ o. Holds o t.0) (sym w.number-is) t.2)
    ] in
    let over : most_cycles < counted.0 = elim c.in_default-number.branch [
      | in_default-number-via-in-Some-number+else-cycle-le-MOST_CYCLES w ↦
          let same : w.in-Some-number.cycle ≡ counted.0 = subst (λ o. Holds o counted.0) w.in-Some-number.is counted.2 in omega (arith, same, w.if-cycle-le-MOST_CYCLES.false)
      | in_default-number-via-in_default-number w ↦
          let big : 2 ^ 128 ≤ counted.0 = subst (λ o. Holds o counted.0) w.in_default-number.is counted.2 in omega (arith, big)
    ] in
    rw c.place_of-in_default-number.ensures
    (cycles_behind c.args.bytes.now c.in-Some.word.now c.in-Some.cycles.now c.in-Some.ensures.some counted.0 counted.1 cells (agree c.in-Some.word.now c.as_slice.result.now c.if-ne.ensures ∙ c.as_slice.ensures) over)
