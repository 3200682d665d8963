use Rattle.std.proofs.Common.{arith, ap}
use Rattle.register_table.proofs.Allowed.{split-allowed}
use Rattle.register_table.proofs.post.cut.Goals as goal

pub split_seat-requires : goal.split_seat-requires
split_seat-requires g c = (
  c.requires.table,
  omega (arith, c.args.table.now.words_are),
  split-allowed g.N.Plan.script c.args.table.now.size.shape _ _ c.args.view g.B.Place.at (ap (λ m. m.0) c.requires.view) c.requires.fresh (omega (arith, c.requires.inside.0, c.requires.place)) (omega (arith, c.requires.inside.1, c.requires.place)),
)
