use Rattle.std.proofs.Common.{rules}
use Rattle.size_check.proofs.Summing.{owns_more}
use Rattle.size_check.proofs.rounds.owns_of.Goals as goal

pub loop-number-preserved : goal.loop-number-preserved
loop-number-preserved c =
    owns_more c.args.names.now c.args.modules.now.all.now c.loop-number.number c.index-modules-number.result c.in_ok-own.own c.loop-number.owns.items c.push.new.self.items
    (search rules) c.in_ok-own.ensures c.loop-number.invariant c.in_ok-push.ensures.items
