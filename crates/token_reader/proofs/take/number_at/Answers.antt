use Rattle.std.proofs.Common.{◌≡◌, sym}
use Rattle.token_reader.proofs.Composition.{one_at}
use Rattle.token_reader.proofs.Takes.{number_here}
use Rattle.token_reader.proofs.Sources.{source_part}
use Rattle.token_reader.proofs.take.number_at.Goals as goal

pub magnitude-requires : goal.magnitude-requires
magnitude-requires c = source_part c.args.text.now c.args.laid.now c.args.at c.in-Some.part c.requires (sym c.in-Some.ensures)

pub place_of_part-requires-clause-inside : goal.place_of_part-requires-clause-inside
place_of_part-requires-clause-inside c = source_part c.args.text.now c.args.laid.now c.args.at c.in-Some.part c.requires (sym c.in-Some.ensures)

pub returns-in_default-magnitude-clause-none : goal.returns-in_default-magnitude-clause-none
returns-in_default-magnitude-clause-none c = λ l h takes. (let same : l ≡ c.in-Some.part = one_at c.args.laid.now c.args.at l c.in-Some.part h (sym c.in-Some.ensures) in
    c.in_default-magnitude.ensures.none (rw same at takes))

pub returns-clause-some : goal.returns-clause-some
returns-clause-some c = let h = c.in-Some-magnitude.ensures.some in
    number_here c.args.text.now c.args.laid.now c.args.at c.in-Some.part h.0 c.place_of_part.result c.in-Some-magnitude.magnitude (sym c.in-Some.ensures) h.1 h.2 h.3 c.place_of_part.ensures
