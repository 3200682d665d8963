use Rattle.std.proofs.Common.{◌≡◌, sym, arith, ⊎_elim}
use Rattle.std.specs.Prelude.{slice_get, Some, None}
use Rattle.std.proofs.lemmas.Option.{slice_get_cases}
use Rattle.token_reader.proofs.Composition.{one_at}
use Rattle.fir_parser.proofs.symbols.place_here.Goals as goal

pub returns : goal.returns
returns c = λ l h. (let same : l ≡ c.in-Some.part = one_at c.args.reader.now.laid.now c.args.reader.now.at l c.in-Some.part h (sym c.in-Some.ensures.part) in rw same c.place_of.ensures)

pub unreachable-requires : goal.unreachable-requires
unreachable-requires c =
    let none : None ≡ slice_get c.args.reader.now.laid.now c.args.reader.now.at = c.in-None.ensures.part in
    ⊎_elim (λ found. (let some : slice_get c.args.reader.now.laid.now c.args.reader.now.at ≡ Some found.0 = found.2 in cc)) (λ past. omega (arith, past.0, c.requires.within)) (slice_get_cases c.args.reader.now.laid.now c.args.reader.now.at).1
