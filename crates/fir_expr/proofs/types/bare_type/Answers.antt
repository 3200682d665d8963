use Rattle.std.proofs.lemmas.Result.{err_from_is_err_and}
use Rattle.fir_grammar.specs.Reading.{no_memory}
use Rattle.token_reader.proofs.Sources.{source_part}
use Rattle.fir_expr.proofs.TypeNames.{bare_read, bare_begins}
use Rattle.fir_expr.proofs.types.bare_type.Goals as goal

pub returns-in_err-part-clause-read : goal.returns-in_err-part-clause-read
returns-in_err-part-clause-read c = let p = err_from_is_err_and c.from_residual.result c.from_residual.ensures.1 in λ major names. rw (p.1, p.2, c.in_err-part.ensures.err) no_memory

pub place_of_part-place-requires-clause-inside : goal.place_of_part-place-requires-clause-inside
place_of_part-place-requires-clause-inside c = source_part c.args.text.now c.args.laid.now c.args.at c.in_ok-part.part c.requires.source c.in_ok-part.ensures.ok

pub returns-clause-read : goal.returns-clause-read
returns-clause-read c = λ major names. rw c.place_of_part-place.ensures (bare_read c.requires.begins.1.stands c.args.shape names c.requires.word c.in_ok-part.ensures.ok)

pub returns-clause-begins : goal.returns-clause-begins
returns-clause-begins c = λ brackets b. bare_begins c.args.shape c.args.text.now c.args.laid.now b c.requires.word c.in_ok-part.ensures.ok
