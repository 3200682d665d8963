use Rattle.std.proofs.lemmas.Result.{err_from_is_err_and}
use Rattle.fir_grammar.specs.Reading.{no_memory}
use Rattle.fir_expr.specs.Parts.{kind_name}
use Rattle.token_reader.proofs.Sources.{source_part}
use Rattle.fir_expr.proofs.TypeNames.{word_taken, word_begins, integer_read, integer_refused}
use Rattle.fir_expr.proofs.types.integer_type.Goals as goal

pub returns-in_err-part-clause-read : goal.returns-in_err-part-clause-read
returns-in_err-part-clause-read c = let p = err_from_is_err_and c.from_residual.result c.from_residual.ensures.1 in λ major names. rw (p.1, p.2, c.in_err-part.ensures.err) no_memory

pub place_of_part-place-requires-clause-inside : goal.place_of_part-place-requires-clause-inside
place_of_part-place-requires-clause-inside c = source_part c.args.text.now c.args.laid.now c.args.at c.in_ok-part.part c.requires.source c.in_ok-part.ensures.ok

pub width-requires-clause-begins : goal.width-requires-clause-begins
width-requires-clause-begins c = (
  c.requires.begins.0,
  word_begins (kind_name c.args.kind) c.requires.begins.1
      (word_taken (kind_name c.args.kind) c.args.text.now c.args.laid.now c.args.at c.in_ok-part.part c.requires.word c.in_ok-part.ensures.ok),
)

pub returns-in_err-width-clause-read : goal.returns-in_err-width-clause-read
returns-in_err-width-clause-read c =
    let p = err_from_is_err_and c.from_residual-in_err-width.result c.from_residual-in_err-width.ensures.1 in
    let t = word_taken (kind_name c.args.kind) c.args.text.now c.args.laid.now c.args.at c.in_ok-part.part c.requires.word c.in_ok-part.ensures.ok in
    λ major names. rw (p.1, p.2) (integer_refused c.requires.begins.1.stands c.args.kind t (c.in_err-width.ensures.read major names))

pub returns-clause-read : goal.returns-clause-read
returns-clause-read c =
    let t = word_taken (kind_name c.args.kind) c.args.text.now c.args.laid.now c.args.at c.in_ok-part.part c.requires.word c.in_ok-part.ensures.ok in
    λ major names. rw (c.place_of_part-place.ensures, c.integer_shape-shape.ensures) (integer_read c.requires.begins.1.stands c.args.kind names t (c.in_ok-width.ensures.read major names))

pub returns-clause-begins : goal.returns-clause-begins
returns-clause-begins c =
    let t = word_taken (kind_name c.args.kind) c.args.text.now c.args.laid.now c.args.at c.in_ok-part.part c.requires.word c.in_ok-part.ensures.ok in
    λ brackets b. c.in_ok-width.ensures.begins brackets (word_begins (kind_name c.args.kind) b t)
