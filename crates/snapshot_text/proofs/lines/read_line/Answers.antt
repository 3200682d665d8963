use Rattle.std.proofs.Common.{◌≡◌, ◌∙◌, [], refl, sym, ap, subst}
use Rattle.std.proofs.lemmas.Bool.{false≢true}
use Rattle.bit_words.specs.Values.{InRange, integer_of}
use Rattle.bit_words.specs.Numbers.{integer_of_number}
use Rattle.snapshot_text.specs.Steps.{cell_of}
use Rattle.snapshot_text.specs.Going.{SaysNothing, IsParsed, Stands}
use Rattle.snapshot_text.proofs.Judging.{silent_first, missing_first, word_first, name_first, value_first, told_behind}
use Rattle.snapshot_text.proofs.Naming.{named_of, differ, agree, rest_of}
use Rattle.snapshot_text.proofs.Ranging.{over_never}
use Rattle.snapshot_text.proofs.lines.read_line.Goals as goal
use Rattle.snapshot_text.proofs.lines.read_line.Goals.{in_default-via-in-Some-number+else-fits, in_default-via-in_default}

pub returns-in-None-clause-err : goal.returns-in-None-clause-err
returns-in-None-clause-err c = λ more. rw c.place_of.ensures (silent_first c.args.bytes.now (cell_of c.args.line.now) more c.args.at c.requires.within (subst SaysNothing (rest_of c.args.at c.args.bytes.now) c.in-None.ensures.none))

pub returns-then-is_missing-clause-err : goal.returns-then-is_missing-clause-err
returns-then-is_missing-clause-err c = λ more.
    let p = subst (λ t. IsParsed t c.in-Some.parsed) (rest_of c.args.at c.args.bytes.now) c.in-Some.ensures.some in
    let m = c.if-is_missing.ensures.0 refl in
    rw c.place_of-then-is_missing.ensures
    (missing_first c.args.bytes.now (cell_of c.args.line.now) more c.args.at c.requires.within c.in-Some.parsed.word.now c.in-Some.parsed.name.now c.in-Some.parsed.value.now p.words m.0 m.1)

pub returns-then-ne-clause-err : goal.returns-then-ne-clause-err
returns-then-ne-clause-err c = λ more.
    let p = subst (λ t. IsParsed t c.in-Some.parsed) (rest_of c.args.at c.args.bytes.now) c.in-Some.ensures.some in
    let cell = cell_of c.args.line.now in
    let named = named_of c.in-Some.parsed.name.now cell.name (λ q. false≢true (c.if-is_missing.ensures.1 q)) in
    rw c.place_of-then-ne.ensures
    (word_first c.args.bytes.now cell more c.args.at c.requires.within c.in-Some.parsed.word.now c.in-Some.parsed.name.now c.in-Some.parsed.value.now p.words named
    (differ c.in-Some.parsed.word.now cell.word c.if-ne.ensures))

pub returns-then-not-is_name-clause-err : goal.returns-then-not-is_name-clause-err
returns-then-not-is_name-clause-err c = λ more.
    let p = subst (λ t. IsParsed t c.in-Some.parsed) (rest_of c.args.at c.args.bytes.now) c.in-Some.ensures.some in
    let cell = cell_of c.args.line.now in
    let named = named_of c.in-Some.parsed.name.now cell.name (λ q. false≢true (c.if-is_missing.ensures.1 q)) in
    let same = agree c.in-Some.parsed.word.now cell.word c.if-ne.ensures in
    rw c.place_of-then-not-is_name.ensures
    (name_first c.args.bytes.now cell more c.args.at c.requires.within c.in-Some.parsed.word.now c.in-Some.parsed.name.now c.in-Some.parsed.value.now p.words named same
    (λ q. false≢true (sym c.if-not-is_name.true ∙ c.is_name.ensures.1 q)))

pub returns-in-Some-number-clause-told : goal.returns-in-Some-number-clause-told
returns-in-Some-number-clause-told c =
    let p = subst (λ t. IsParsed t c.in-Some.parsed) (rest_of c.args.at c.args.bytes.now) c.in-Some.ensures.some in
    let line = c.args.line.now in
    let cell = cell_of line in
    let number = c.in-Some-number.number in
    let named = named_of c.in-Some.parsed.name.now cell.name (λ q. false≢true (c.if-is_missing.ensures.1 q)) in
    let same = agree c.in-Some.parsed.word.now cell.word c.if-ne.ensures in
    let same_name = c.is_name.ensures.0 c.if-not-is_name.false in
    let stands : number ≡ p.words.number = subst (λ o. Stands o p.words.number) c.in-Some-number.is p.stands in
    let fits : InRange line.kind line.width (integer_of_number number) = subst (λ w. InRange line.kind w (integer_of_number number)) c.into.ensures (c.if-fits.ensures.0 refl) in
    told_behind c.args.bytes.now cell [] c.args.at c.requires.within c.in-Some.parsed.word.now c.in-Some.parsed.name.now c.in-Some.parsed.value.now p.words named same same_name (integer_of c.value_from.result)
    (ap integer_of_number (sym stands) ∙ sym c.value_from.ensures.integer) (subst (InRange line.kind line.width) (sym c.value_from.ensures.integer) fits)

pub returns-in_default-clause-err : goal.returns-in_default-clause-err
returns-in_default-clause-err c = λ more.
    let p = subst (λ t. IsParsed t c.in-Some.parsed) (rest_of c.args.at c.args.bytes.now) c.in-Some.ensures.some in
    let line = c.args.line.now in
    let cell = cell_of line in
    let named = named_of c.in-Some.parsed.name.now cell.name (λ q. false≢true (c.if-is_missing.ensures.1 q)) in
    let same = agree c.in-Some.parsed.word.now cell.word c.if-ne.ensures in
    let same_name = c.is_name.ensures.0 c.if-not-is_name.false in
    rw c.place_of-in_default.ensures
    (value_first c.args.bytes.now cell more c.args.at c.requires.within c.in-Some.parsed.word.now c.in-Some.parsed.name.now c.in-Some.parsed.value.now p.words named same same_name
    (elim c.in_default.branch [
      | in_default-via-in-Some-number+else-fits w ↦ λ r.
          let stands : w.in-Some-number.number ≡ p.words.number = subst (λ o. Stands o p.words.number) w.in-Some-number.is p.stands in
          false≢true (w.if-fits.ensures.1 (subst (λ n. InRange line.kind n (integer_of_number w.in-Some-number.number)) (sym w.into.ensures) (subst (λ n. InRange line.kind line.width (integer_of_number n)) (sym stands) r)))
      | in_default-via-in_default w ↦ over_never line.kind line.width p.words.number line.narrow (subst (λ o. Stands o p.words.number) w.in_default.is p.stands)
    ]))
