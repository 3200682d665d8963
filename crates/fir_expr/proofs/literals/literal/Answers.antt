use Rattle.std.proofs.Common.{◌+◌}
use Rattle.std.proofs.lemmas.Result.{err_from_is_err_and}
use Rattle.fir_expr.specs.Parts.{kind_name}
use Rattle.fir_expr.proofs.Bracketed.{opener_call, kind_no_item, stands_opened}
use Rattle.token_reader.proofs.Sources.{source_part}
use Rattle.fir_expr.proofs.LiteralBrackets.{literal_not_opened, literal_no_integer, literal_not_closed, literal_read}
use Rattle.fir_expr.proofs.literals.literal.Goals as goal

pub returns-in_err-call : goal.returns-in_err-call
returns-in_err-call c = let p = err_from_is_err_and c.from_residual.result c.from_residual.ensures.1 in
    λ major names. rw (p.1, p.2) (literal_not_opened c.args.text.now c.args.laid.now c.args.at c.args.brackets c.args.kind c.requires.stands c.requires.head (c.in_err-call.ensures.taken (kind_name c.args.kind) (kind_no_item c.args.kind) c.requires.head))

pub integer-requires-clause-stands : goal.integer-requires-clause-stands
integer-requires-clause-stands c = (c.args.brackets + 1, stands_opened (opener_call (kind_name c.args.kind) (kind_no_item c.args.kind)) (c.in_ok-call.ensures.taken (kind_name c.args.kind) (kind_no_item c.args.kind) c.requires.head) c.requires.stands c.in_ok-call.ensures.few)

pub returns-in_err-number : goal.returns-in_err-number
returns-in_err-number c = let p = err_from_is_err_and c.from_residual-in_err-number.result c.from_residual-in_err-number.ensures.1 in
    λ major names. rw (p.1, p.2) (literal_no_integer c.args.text.now c.args.laid.now c.args.at c.args.brackets c.args.kind c.requires.stands c.requires.head c.in_ok-call.call
    (c.in_ok-call.ensures.taken (kind_name c.args.kind) (kind_no_item c.args.kind) c.requires.head) (c.in_err-number.ensures major names))

pub returns-in_err-_bracket : goal.returns-in_err-_bracket
returns-in_err-_bracket c = let p = err_from_is_err_and c.from_residual-in_err-_bracket.result c.from_residual-in_err-_bracket.ensures.1 in
    λ major names. rw (p.1, p.2) (literal_not_closed c.args.text.now c.args.laid.now c.args.at c.args.brackets c.args.kind c.requires.stands c.requires.head c.in_ok-call.call
    (c.in_ok-call.ensures.taken (kind_name c.args.kind) (kind_no_item c.args.kind) c.requires.head) c.in_ok-number.number c.in_ok-number.close c.in_ok-number.ensures c.in_err-_bracket.ensures.taken)

pub place_of_part-requires-clause-inside : goal.place_of_part-requires-clause-inside
place_of_part-requires-clause-inside c = source_part c.args.text.now c.args.laid.now c.args.at c.in_ok-call.call c.requires.source (c.in_ok-call.ensures.taken (kind_name c.args.kind) (kind_no_item c.args.kind) c.requires.head).here

pub returns : goal.returns
returns c = λ major names. rw c.place_of_part.ensures (literal_read c.args.text.now c.args.laid.now c.args.at c.args.brackets c.args.kind c.requires.stands c.requires.head c.in_ok-call.call
    (c.in_ok-call.ensures.taken (kind_name c.args.kind) (kind_no_item c.args.kind) c.requires.head) c.in_ok-number.number c.in_ok-number.close c.in_ok-number.ensures c.in_ok-_bracket._bracket c.in_ok-_bracket.ensures.taken major names)
