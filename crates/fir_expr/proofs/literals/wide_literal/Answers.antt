use Rattle.std.proofs.Common.{◌+◌, ◌∙◌, ap}
use Rattle.std.proofs.lemmas.Result.{err_from_is_err_and}
use Rattle.place_text.specs.Places.{place}
use Rattle.fir_layout.specs.declared.laid.Laid.{Laid}
use Rattle.fir_grammar.specs.Grammar.{start_of}
use Rattle.fir_grammar.specs.Reading.{no_memory}
use Rattle.token_reader.proofs.Composition.{one_at}
use Rattle.token_reader.proofs.Sources.{source_part}
use Rattle.fir_expr.proofs.LiteralBrackets.{wide_no_less, wide_no_number, wide_no_greater, wide_no_bracket, wide_no_integer, wide_not_closed, wide_stands, wide_inside, wide_read}
use Rattle.fir_expr.proofs.literals.wide_literal.Goals as goal

pub returns-in_err-word : goal.returns-in_err-word
returns-in_err-word c = let p = err_from_is_err_and c.from_residual.result c.from_residual.ensures.1 in λ major names. rw (p.1, p.2, c.in_err-word.ensures.err) no_memory

pub returns-in_err-_less : goal.returns-in_err-_less
returns-in_err-_less c = let p = err_from_is_err_and c.from_residual-in_err-_less.result c.from_residual-in_err-_less.ensures.1 in
    λ major names. rw (p.1, p.2) (wide_no_less c.args.text.now c.args.laid.now c.args.at c.args.brackets c.args.kind c.requires.stands c.requires.head c.requires.next
    c.in_err-_less.ensures.taken)

pub returns-in_err-_place : goal.returns-in_err-_place
returns-in_err-_place c = let p = err_from_is_err_and c.from_residual-in_err-_place.result c.from_residual-in_err-_place.ensures.1 in
    λ major names. rw (p.1, p.2) (wide_no_number c.args.text.now c.args.laid.now c.args.at c.args.brackets c.args.kind c.requires.stands c.requires.head c.requires.next c.in_ok-_less._less c.in_ok-_less.ensures.taken
    c.in_err-_place.ensures.err)

pub returns-in_err-_greater : goal.returns-in_err-_greater
returns-in_err-_greater c = let p = err_from_is_err_and c.from_residual-in_err-_greater.result c.from_residual-in_err-_greater.ensures.1 in
    λ major names. rw (p.1, p.2) (wide_no_greater c.args.text.now c.args.laid.now c.args.at c.args.brackets c.args.kind c.requires.stands c.requires.head c.requires.next c.in_ok-_less._less c.in_ok-_less.ensures.taken c.in_ok-_place._place c.in_ok-_place.width c.in_ok-_place.ensures.ok
    c.in_err-_greater.ensures.taken)

pub open_bracket-requires-clause-stands : goal.open_bracket-requires-clause-stands
open_bracket-requires-clause-stands c = wide_stands c.args.text.now c.args.laid.now c.args.at c.args.brackets c.args.kind c.requires.stands c.requires.head c.requires.next c.in_ok-_less._less c.in_ok-_less.ensures.taken c.in_ok-_place._place c.in_ok-_place.width c.in_ok-_place.ensures.ok
    c.in_ok-_greater._greater c.in_ok-_greater.ensures.taken

pub returns-in_err-_bracket : goal.returns-in_err-_bracket
returns-in_err-_bracket c = let p = err_from_is_err_and c.from_residual-in_err-_bracket.result c.from_residual-in_err-_bracket.ensures.1 in
    λ major names. rw (p.1, p.2) (wide_no_bracket c.args.text.now c.args.laid.now c.args.at c.args.brackets c.args.kind c.requires.stands c.requires.head c.requires.next c.in_ok-_less._less c.in_ok-_less.ensures.taken c.in_ok-_place._place c.in_ok-_place.width c.in_ok-_place.ensures.ok
    c.in_ok-_greater._greater c.in_ok-_greater.ensures.taken c.in_err-_bracket.ensures.taken)

pub integer-requires-clause-stands : goal.integer-requires-clause-stands
integer-requires-clause-stands c = (
  c.args.brackets + 1,
  wide_inside c.args.text.now c.args.laid.now c.args.at c.args.brackets c.args.kind c.requires.stands c.requires.head c.requires.next c.in_ok-_less._less c.in_ok-_less.ensures.taken c.in_ok-_place._place c.in_ok-_place.width c.in_ok-_place.ensures.ok
      c.in_ok-_greater._greater c.in_ok-_greater.ensures.taken c.in_ok-_bracket._bracket c.in_ok-_bracket.ensures.taken c.in_ok-_bracket.ensures.few,
)

pub returns-in_err-number : goal.returns-in_err-number
returns-in_err-number c = let p = err_from_is_err_and c.from_residual-in_err-number.result c.from_residual-in_err-number.ensures.1 in
    λ major names. rw (p.1, p.2) (wide_no_integer c.args.text.now c.args.laid.now c.args.at c.args.brackets c.args.kind c.requires.stands c.requires.head c.requires.next c.in_ok-_less._less c.in_ok-_less.ensures.taken c.in_ok-_place._place c.in_ok-_place.width c.in_ok-_place.ensures.ok
    c.in_ok-_greater._greater c.in_ok-_greater.ensures.taken c.in_ok-_bracket._bracket c.in_ok-_bracket.ensures.taken (c.in_err-number.ensures major names))

pub returns-in_err-_close : goal.returns-in_err-_close
returns-in_err-_close c = let p = err_from_is_err_and c.from_residual-in_err-_close.result c.from_residual-in_err-_close.ensures.1 in
    λ major names. rw (p.1, p.2) (wide_not_closed c.args.text.now c.args.laid.now c.args.at c.args.brackets c.args.kind c.requires.stands c.requires.head c.requires.next c.in_ok-_less._less c.in_ok-_less.ensures.taken c.in_ok-_place._place c.in_ok-_place.width c.in_ok-_place.ensures.ok
    c.in_ok-_greater._greater c.in_ok-_greater.ensures.taken c.in_ok-_bracket._bracket c.in_ok-_bracket.ensures.taken c.in_ok-number.number c.in_ok-number.close c.in_ok-number.ensures c.in_err-_close.ensures.taken)

pub place_of_part-requires-clause-inside : goal.place_of_part-requires-clause-inside
place_of_part-requires-clause-inside c = source_part c.args.text.now c.args.laid.now c.args.at c.in_ok-word.word c.requires.source c.in_ok-word.ensures.ok

pub returns : goal.returns
returns c =
    let same = one_at c.args.laid.now c.args.at c.in_ok-word.word c.requires.head.part c.in_ok-word.ensures.ok c.requires.head.here in
    let at = c.place_of_part.ensures ∙ ap (λ (l : Laid). place c.args.text.now (start_of l)) same in
    λ major names. rw at (wide_read c.args.text.now c.args.laid.now c.args.at c.args.brackets c.args.kind c.requires.stands c.requires.head c.requires.next c.in_ok-_less._less c.in_ok-_less.ensures.taken c.in_ok-_place._place c.in_ok-_place.width c.in_ok-_place.ensures.ok
    c.in_ok-_greater._greater c.in_ok-_greater.ensures.taken c.in_ok-_bracket._bracket c.in_ok-_bracket.ensures.taken c.in_ok-number.number c.in_ok-number.close c.in_ok-number.ensures
    c.in_ok-_close._close c.in_ok-_close.ensures.taken major names)
