use Rattle.std.proofs.Common.{sym, ◌∙◌, arith}
use Rattle.plain_values.proofs.Looking.{unequal, along_past}
use Rattle.plain_values.proofs.sights.is_along.Goals as goal

pub returns-then-path-way : goal.returns-then-path-way
returns-then-path-way c = unequal c.args.path.now c.args.way.now c.if-path-way.true

pub returns : goal.returns
returns c = sym (c.loop-at.invariant ∙ along_past c.args.path.now c.args.way.now c.loop-at.at (omega (arith, c.if-path-way.false)) c.if-path-way.false)
