use Rattle.std.proofs.Common.{arith}
use Rattle.std.proofs.Common.{add-one}
use Rattle.register_table.proofs.Allowed.{load-allowed}
use Rattle.register_table.proofs.table.Post.read.Goals as goal

pub load-requires : goal.load-requires
load-requires g c = (
  c.requires.table,
  omega (arith, c.args.table.now.words_are, c.requires.word),
  load-allowed g.N.Plan.script c.args.table.now.size.shape _ _ _ c.args.word _ c.args.self.now.view (add-one c.args.word) c.args.self.now.held c.requires.rest c.requires.even (omega (arith, c.args.table.now.size.words_are, c.requires.word)),
)
