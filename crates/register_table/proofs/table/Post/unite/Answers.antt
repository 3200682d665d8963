use Rattle.std.proofs.Common.{arith, ap}
use Rattle.register_table.proofs.Allowed.{join-allowed}
use Rattle.register_table.proofs.table.Post.unite.Goals as goal

pub join_seat-requires : goal.join_seat-requires
join_seat-requires g c = (
  c.requires.table.0,
  c.requires.table.1,
  ap (λ m. m.1) c.args.other.held,
  omega (arith, c.args.table.now.words_are),
  join-allowed g.N.Plan.script c.args.table.now.size.shape _ _ c.args.self.now.view _ _ c.args.other.view (ap (λ m. m.0) c.args.self.now.held) (ap (λ m. m.0) c.args.other.held) c.requires.last.0 c.requires.last.1 c.requires.other_last.0 c.requires.other_last.1 c.requires.beside,
)
