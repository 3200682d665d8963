use Rattle.std.proofs.Common.{arith, ◌/◌}
use Rattle.phase_core.proofs.Shapes.{own_part}
use Rattle.std.proofs.Common.{add-one}
use Rattle.register_table.proofs.Allowed.{publish-allowed}
use Rattle.register_table.proofs.table.Post.publish.Goals as goal

pub store-requires : goal.store-requires
store-requires g c = (
  c.requires.table,
  let v = c.args.self.now.view in let own = own_part g.N.Plan.script c.args.table.now.size.shape (v.passed / 2) v.low v.done (record { word = c.args.word; value = c.args.value }) c.requires.next in omega (arith, c.args.table.now.words_are, c.args.table.now.size.words_are, own.0),
  publish-allowed g.N.Plan.script c.args.table.now.size.shape _ _ _ _ c.args.self.now.view (record { word = c.args.word; value = c.args.value }) (add-one c.args.word) c.args.self.now.held c.requires.one c.requires.rest c.requires.odd c.requires.next,
)
