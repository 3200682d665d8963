use Rattle.std.proofs.Common.{subst}
use Rattle.comb_order.specs.Spreading.{Tells}
use Rattle.ground_net.specs.Reads.{direct_reads}
use Rattle.comb_order.proofs.spread.row_of.Goals as goal

pub returns : goal.returns
returns c = subst (λ s. Tells c.args.net.now.leaves (direct_reads c.args.net.now c.args.number) c.args.spread.now s c.push_reads.new.spread c.push_reads.new.row) c.new-row.ensures c.in_ok-push_reads.ensures
