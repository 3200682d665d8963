use Rattle.std.proofs.Common.{refl}
use Rattle.comb_order.proofs.Making.{told_more}
use Rattle.comb_order.proofs.spread.tell.Goals as goal

pub returns : goal.returns
returns c = told_more c.args.net.now c.args.number c.args.spread.now c.row_of.new.spread _ c.in_ok-row.row c.requires.within c.requires.told c.in_ok-row.ensures refl refl
