use Rattle.std.proofs.Common.{rules}
use Rattle.fir_names.proofs.Finding.{numbers_none, numbers_more}
use Rattle.fir_names.proofs.gather.numbers_of.Goals as goal

pub loop-index-init : goal.loop-index-init
loop-index-init c = numbers_none _ (search rules)

pub loop-index-preserved : goal.loop-index-preserved
loop-index-preserved c = numbers_more c.args.names.now c.loop-index.index _ c.loop-index.known.entries c.show.new.known.entries c.loop-index-test.true c.loop-index.invariant c.in-Ok.number (search rules) c.in_ok-show.ensures
