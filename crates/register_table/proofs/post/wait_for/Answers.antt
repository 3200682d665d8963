use Rattle.std.proofs.Common.{arith, ◌∙◌}
use Rattle.register_table.proofs.Allowed.{look-allowed}
use Rattle.register_table.proofs.post.wait_for.Goals as goal

pub load-found-requires : goal.load-found-requires
load-found-requires g c = (
  c.loop.invariant.0 ∙ c.requires.table,
  omega (arith, c.args.table.now.words_are),
  look-allowed g.N.Plan.script c.args.table.now.size.shape _ _ _ c.args.view (c.loop.invariant.1 ∙ c.requires.view) c.requires.arrived,
)
