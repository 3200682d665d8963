use Rattle.std.proofs.Common.{◌∷◌, ◌++◌, ◌∙◌, refl, ap, sym, subst, length}
use Rattle.std.proofs.lemmas.Bool.{eqb-true, eqb-false}
use Rattle.std.proofs.lemmas.List.{nil_from_length}
use Rattle.snapshot_text.specs.Going.{SaysNothing, Stands}
use Rattle.snapshot_text.proofs.Lining.{no_feed, one_word, two_words, no_first, no_number}
use Rattle.snapshot_text.proofs.Judging.{line_words}
use Rattle.snapshot_text.proofs.Naming.{if_none}
use Rattle.snapshot_text.proofs.lines.parse.Goals as goal
use Rattle.snapshot_text.proofs.lines.parse.Goals.{in-Ok, in-Err-Over}

pub returns-in_err-line-clause-none : goal.returns-in_err-line-clause-none
returns-in_err-line-clause-none c = if_none c.from_residual.result (SaysNothing c.args.bytes.now) (no_feed c.args.bytes.now c.in_err-line.ensures.none)

pub returns-in_err-word-clause-none : goal.returns-in_err-word-clause-none
returns-in_err-word-clause-none c =
    let l = c.in_ok-line.ensures.some in
    if_none c.from_residual-in_err-word.result (SaysNothing c.args.bytes.now) (one_word c.args.bytes.now c.in_ok-line.line.now c.in_ok-line.field-0-1.now l.0 l.1 c.in_err-word.ensures.none)

pub returns-in_err-name-clause-none : goal.returns-in_err-name-clause-none
returns-in_err-name-clause-none c =
    let l = c.in_ok-line.ensures.some in
    let w = c.in_ok-word.ensures.some in
    if_none c.from_residual-in_err-name.result (SaysNothing c.args.bytes.now)
    (two_words c.args.bytes.now c.in_ok-line.line.now c.in_ok-line.field-0-1.now l.0 l.1 c.in_ok-word.word.now c.in_ok-word.rest.now w.0 w.1 c.in_err-name.ensures.none)

pub returns-then-is_empty-clause-none : goal.returns-then-is_empty-clause-none
returns-then-is_empty-clause-none c =
    let l = c.in_ok-line.ensures.some in
    let w = c.in_ok-word.ensures.some in
    let n = c.in_ok-name.ensures.some in
    let word = c.in_ok-word.word.now in
    no_first c.args.bytes.now c.in_ok-line.line.now c.in_ok-line.field-0-1.now l.0 l.1 word c.in_ok-name.name.now c.in_ok-name.value.now (w.0 ∙ ap (λ t. word ++ 32 ∷ t) n.0) w.1 n.1
    (nil_from_length word (eqb-true (length word) 0 (sym c.if-is_empty.ensures)))

pub returns-in-Err-NotNumber-clause-none : goal.returns-in-Err-NotNumber-clause-none
returns-in-Err-NotNumber-clause-none c =
    let l = c.in_ok-line.ensures.some in
    let w = c.in_ok-word.ensures.some in
    let n = c.in_ok-name.ensures.some in
    let word = c.in_ok-word.word.now in
    no_number c.args.bytes.now c.in_ok-line.line.now c.in_ok-line.field-0-1.now l.0 l.1 word c.in_ok-name.name.now c.in_ok-name.value.now (w.0 ∙ ap (λ t. word ++ 32 ∷ t) n.0) w.1 n.1
    (rw c.in-Err-NotNumber.field-0-is at c.in-Err-NotNumber.ensures.answer)

pub returns-clause-some : goal.returns-clause-some
returns-clause-some c =
    let l = c.in_ok-line.ensures.some in
    let w = c.in_ok-word.ensures.some in
    let n = c.in_ok-name.ensures.some in
    let word = c.in_ok-word.word.now in
    let words = line_words c.args.bytes.now c.in_ok-line.line.now c.in_ok-line.field-0-1.now word c.in_ok-word.rest.now c.in_ok-name.name.now c.in_ok-name.value.now l.0 l.1 w.0 w.1 n.0 n.1
    (λ e. eqb-false (length word) 0 (sym c.if-is_empty.ensures) (ap length e)) in
    elim c.match-read_number.branch [
      | in-Ok b ↦ record { words = words b.in-Ok.number b.in-Ok.ensures.answer.0; stands = subst (λ o. Stands o b.in-Ok.number) (sym b.number-is) refl }
      | in-Err-Over b ↦
          let t = rw b.in-Err-Over.field-0-is at b.in-Err-Over.ensures.answer in
          record { words = words (record { negative = t.0; magnitude = t.1 }) t.2; stands = subst (λ o. Stands o (record { negative = t.0; magnitude = t.1 })) (sym b.number-is) t.3 }
    ]
