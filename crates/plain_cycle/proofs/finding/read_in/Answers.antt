use Rattle.std.proofs.Common.{◌≡◌, true, false, sym, ap, ◌∙◌, arith}
use Rattle.std.proofs.lemmas.Grind.{common_steps}
use Rattle.plain_cycle.specs.Firsts.{integer_beside_it}
use Rattle.plain_cycle.specs.Runs.{shows}
use Rattle.plain_cycle.proofs.Firsts.{first_here, first_later, first_none}
use Rattle.plain_cycle.proofs.finding.read_in.Goals as goal

pub returns-then-shows : goal.returns-then-shows
returns-then-shows c =
    let test = shows c.args.port c.args.way.now in
    let met : test c.index-leaves-at.result ≡ true = grind (arith, common_steps, c.shows.ensures, c.if-shows.true, c.index-leaves-at.is) in
    sym (ap integer_beside_it
    (first_here test c.args.leaves.now c.args.values.now c.loop-at.at c.index-leaves-at.result c.index-values-at.result (omega arith) (omega arith) c.index-leaves-at.is c.index-values-at.is met c.loop-at.invariant))

pub loop-at-preserved : goal.loop-at-preserved
loop-at-preserved c =
    let test = shows c.args.port c.args.way.now in
    let met : test c.index-leaves-at.result ≡ false = grind (arith, common_steps, c.shows.ensures, c.if-shows.false, c.index-leaves-at.is) in
    first_later test c.args.leaves.now c.args.values.now c.loop-at.at c.index-leaves-at.result (omega arith) (omega arith) c.index-leaves-at.is met c.loop-at.invariant

pub returns : goal.returns
returns c =
    c.nothing.ensures ∙ sym (ap integer_beside_it (first_none (shows c.args.port c.args.way.now) c.args.leaves.now c.args.values.now c.loop-at.at (omega arith) c.loop-at.invariant))
