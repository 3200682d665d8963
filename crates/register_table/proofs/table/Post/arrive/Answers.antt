use Rattle.std.proofs.Common.{arith}
use Rattle.register_table.proofs.Allowed.{arrive-allowed}
use Rattle.register_table.proofs.table.Post.arrive.Goals as goal

pub fetch_add-requires : goal.fetch_add-requires
fetch_add-requires g c = (
  c.requires.table,
  omega (arith, c.args.table.now.words_are),
  arrive-allowed g.N.Plan.script c.args.table.now.size.shape _ _ _ c.args.self.now.view c.args.self.now.held c.requires.one c.requires.rest c.requires.before c.requires.all,
)
