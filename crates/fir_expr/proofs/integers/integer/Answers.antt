use Rattle.std.proofs.Common.{Some, refl, ◌∙◌, ap}
use Rattle.std.proofs.lemmas.Result.{err_from_is_err_and}
use Rattle.fir_layout.specs.declared.laid.Laid.{Laid}
use Rattle.fir_grammar.specs.Grammar.{A_quoted_number}
use Rattle.fir_grammar.specs.Reading.{no_memory}
use Rattle.token_reader.proofs.Sources.{source_part}
use Rattle.token_reader.proofs.Takes.{flat_mark_taken}
use Rattle.fir_expr.proofs.LiteralIntegers.{plain_no_number, plain_read, negative_no_number, negative_read, quoted_refused, no_quoted_part, quoted_read}
use Rattle.fir_expr.proofs.integers.integer.Goals as goal

pub returns-in_err-part : goal.returns-in_err-part
returns-in_err-part c = let p = err_from_is_err_and c.from_residual.result c.from_residual.ensures.1 in λ major names. rw (p.1, p.2, c.in_err-part.ensures.err) no_memory

pub returns-in_err-_place : goal.returns-in_err-_place
returns-in_err-_place c =
    let p = err_from_is_err_and c.from_residual-in_err-_place.result c.from_residual-in_err-_place.ensures.1 in
    let mark = flat_mark_taken 45 c.args.text.now c.args.laid.now c.args.at c.in_ok-part.part c.in_ok-part.ensures.ok ((c.is_mark.ensures c.args.text.now).0 c.if-is_mark.true) refl in
    λ major names. rw (p.1, p.2) (negative_no_number c.args.text.now c.args.laid.now c.args.at c.requires.stands.0 c.requires.stands.1 c.in_ok-part.part mark c.in_err-_place.ensures.err)

pub returns-then-is_mark : goal.returns-then-is_mark
returns-then-is_mark c =
    let mark = flat_mark_taken 45 c.args.text.now c.args.laid.now c.args.at c.in_ok-part.part c.in_ok-part.ensures.ok ((c.is_mark.ensures c.args.text.now).0 c.if-is_mark.true) refl in
    λ major names. rw c.signed.ensures (negative_read c.args.text.now c.args.laid.now c.args.at c.requires.stands.0 c.requires.stands.1 c.in_ok-part.part mark names c.in_ok-_place._place c.in_ok-_place.magnitude c.in_ok-_place.ensures.ok)

pub quoted_part-requires : goal.quoted_part-requires
quoted_part-requires c = source_part c.args.text.now c.args.laid.now c.args.at c.in_ok-part.part c.requires.source c.in_ok-part.ensures.ok

pub returns-in-Some : goal.returns-in-Some
returns-in-Some c = let q = c.in-Some.ensures.some in
    λ major names. quoted_read c.args.text.now c.args.laid.now c.args.at c.requires.stands.0 c.requires.stands.1 q.0 (c.in_ok-part.ensures.ok ∙ ap (λ (l : Laid). Some l) q.1) q.2 c.in-Some.number q.3 names

pub returns-in-None : goal.returns-in-None
returns-in-None c = λ major names. quoted_refused c.args.text.now c.args.laid.now c.args.at c.requires.stands.0 c.requires.stands.1 c.in_ok-part.part c.in_ok-part.ensures.ok ((c.is_string.ensures c.args.text.now).0 c.if-is_string.true)
    (c.refusal_at.ensures A_quoted_number (no_quoted_part c.args.text.now c.args.laid.now c.args.at c.requires.stands.0 c.requires.stands.1 c.in_ok-part.part c.in_ok-part.ensures.ok c.in-None.ensures.none))

pub returns-in_err-_place-2 : goal.returns-in_err-_place-2
returns-in_err-_place-2 c =
    let p = err_from_is_err_and c.from_residual-in_err-_place-2.result c.from_residual-in_err-_place-2.ensures.1 in
    λ major names. rw (p.1, p.2) (plain_no_number c.args.text.now c.args.laid.now c.args.at c.requires.stands.0 c.requires.stands.1 c.in_ok-part.part c.in_ok-part.ensures.ok
    (λ t. let e = (c.is_mark.ensures c.args.text.now).1 t in let n = c.if-is_mark.false in cc)
    (λ t. let e = (c.is_string.ensures c.args.text.now).1 t in let n = c.if-is_string.false in cc) c.in_err-_place-2.ensures.err)

pub returns : goal.returns
returns c = λ major names. rw c.signed-2.ensures (plain_read c.args.text.now c.args.laid.now c.args.at c.requires.stands.0 c.requires.stands.1 c.in_ok-part.part c.in_ok-part.ensures.ok
    (λ t. let e = (c.is_mark.ensures c.args.text.now).1 t in let n = c.if-is_mark.false in cc)
    (λ t. let e = (c.is_string.ensures c.args.text.now).1 t in let n = c.if-is_string.false in cc) names c.in_ok-_place-2._place c.in_ok-_place-2.magnitude c.in_ok-_place-2.ensures.ok)
