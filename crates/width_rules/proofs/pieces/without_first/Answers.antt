use Rattle.std.proofs.Common.{rules}
use Rattle.width_rules.specs.Pieces.{joined}
use Rattle.width_rules.proofs.Cuts.{behind_cut}
use Rattle.width_rules.proofs.pieces.without_first.Goals as goal

pub returns-in-Between-clause-rest : goal.returns-in-Between-clause-rest
returns-in-Between-clause-rest c = rw c.in-Between.is (behind_cut c.in-Between.start c.in-Between.end c.args.count c.min-passed.result (joined c.in-Between.lists.now) (search rules))
