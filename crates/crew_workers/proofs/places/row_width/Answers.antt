use Rattle.std.proofs.Common.{arith, ◌≤◌}
use Rattle.crew_workers.proofs.Asked.{asked_of}
use Rattle.crew_workers.proofs.places.row_width.Goals as goal

pub returns : goal.returns
returns c =
    let asked = asked_of c.args.codes.now c.args.words.now c.args.rows.now c.requires.runs in let least = c.width_of.ensures.least asked.width asked.places.below in
    record { below = c.width_of.ensures.below; no_other = λ i h. asked.places.no_other i (omega (arith, h, least)) }
