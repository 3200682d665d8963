use Rattle.std.proofs.lemmas.Result.{err_from_is_err_and}
use Rattle.std.proofs.lemmas.Option.{slice_get_within}
use Rattle.fir_layout.specs.declared.laid.Laid.TheVariants.{Item}
use Rattle.fir_parser.specs.Expected.{IsFormatHere}
use Rattle.fir_parser.proofs.Steps.{refuses_memory, format_passed}
use Rattle.fir_parser.proofs.symbols.take_format.Goals as goal

pub returns-in_err-pieces-clause-refused : goal.returns-in_err-pieces-clause-refused
returns-in_err-pieces-clause-refused c =
    let p = err_from_is_err_and c.from_residual.result c.from_residual.ensures.1 in
    rw p.1 (λ n. refuses_memory _ _ _ p.2)

pub advance-requires : goal.advance-requires
advance-requires c =
    let f : IsFormatHere c.args.reader.now c.in-Some.pieces = rw c.in-Some.is at c.in_ok-pieces.ensures.some in
    slice_get_within c.args.reader.now.laid.now c.args.reader.now.at (Item f.token) f.stands

pub returns-clause-ok : goal.returns-clause-ok
returns-clause-ok c =
    let f : IsFormatHere c.args.reader.now c.in-Some.pieces = rw c.in-Some.is at c.in_ok-pieces.ensures.some in
    format_passed c.args.reader.now c.advance.new.reader c.in-Some.pieces f c.requires.at c.advance.ensures
