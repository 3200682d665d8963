use Rattle.std.proofs.Common.{refl}
use Rattle.comb_order.proofs.Leaves.{leaf_there}
use Rattle.comb_order.proofs.ordering.place_of.Goals as goal

pub returns : goal.returns
returns c = record {
  leaf = c.index-leaves-number.result;
  there = leaf_there c.args.leaves.now c.args.number c.index-leaves-number.result c.requires c.index-leaves-number.is;
  is = refl;
}
