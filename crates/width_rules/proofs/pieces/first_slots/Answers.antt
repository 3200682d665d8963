use Rattle.std.proofs.Common.{rules}
use Rattle.width_rules.specs.Pieces.{joined}
use Rattle.width_rules.proofs.Cuts.{first_cut}
use Rattle.width_rules.proofs.pieces.first_slots.Goals as goal

pub returns-in-Between-clause-own : goal.returns-in-Between-clause-own
returns-in-Between-clause-own c = rw c.in-Between.is (first_cut c.in-Between.start c.in-Between.end c.args.count c.min-own.result (joined c.in-Between.lists.now) (search rules))
