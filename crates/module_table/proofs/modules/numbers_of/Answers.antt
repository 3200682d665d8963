use Rattle.std.proofs.Common.{rules}
use Rattle.module_table.proofs.Indexing.{index_more}
use Rattle.module_table.proofs.modules.numbers_of.Goals as goal

pub loop-number-preserved : goal.loop-number-preserved
loop-number-preserved c = index_more c.args.modules.now c.loop-number.number c.index-modules-number.result c.loop-number.numbers.entries c.insert_new.new.entries.entries c.loop-number-test.true c.loop-number.invariant
    (search rules)
