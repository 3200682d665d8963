use Rattle.std.proofs.Common.{◌≡◌, true, false, arith}
use Rattle.std.proofs.lemmas.Grind.{common_steps}
use Rattle.plain_values.specs.Sites.{is_at}
use Rattle.plain_cycle.proofs.Firsts.{first_here, first_later, first_none}
use Rattle.plain_cycle.proofs.Holding.{elements_here, elements_past}
use Rattle.plain_cycle.proofs.sweep_memories.elements_on.Goals as goal

pub returns-then-stands_at : goal.returns-then-stands_at
returns-then-stands_at c = λ site found.
    let test = is_at c.args.path.now c.args.name in
    let x = c.index-sites-at.result in
    let elements = c.index-contents-at.result in
    let met : test x ≡ true = grind (arith, common_steps, c.stands_at.ensures, c.if-stands_at.true, c.index-sites-at.is) in
    elements_here c.args.sites.now c.args.contents.now c.args.path.now c.args.name site x elements c.as_slice.result.now found
    (first_here test c.args.sites.now c.args.contents.now c.loop-at.at x elements (omega arith) (omega arith) c.index-sites-at.is c.index-contents-at.is met c.loop-at.invariant) (grind (arith, common_steps, c.as_slice.ensures, c.index-contents-at.is))

pub loop-at-preserved : goal.loop-at-preserved
loop-at-preserved c =
    let test = is_at c.args.path.now c.args.name in
    let met : test c.index-sites-at.result ≡ false = grind (arith, common_steps, c.stands_at.ensures, c.if-stands_at.false, c.index-sites-at.is) in
    first_later test c.args.sites.now c.args.contents.now c.loop-at.at c.index-sites-at.result (omega arith) (omega arith) c.index-sites-at.is met c.loop-at.invariant

pub returns : goal.returns
returns c = λ site found.
    elements_past c.args.sites.now c.args.contents.now c.args.path.now c.args.name site
    (first_none (is_at c.args.path.now c.args.name) c.args.sites.now c.args.contents.now c.loop-at.at (omega arith) c.loop-at.invariant) c.nothing_held_is_zero.ensures
