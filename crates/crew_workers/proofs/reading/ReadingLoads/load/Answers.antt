use Rattle.std.proofs.Common.{◌/◌, arith}
use Rattle.register_table.proofs.Words.{word_count_is}
use Rattle.crew_workers.proofs.reading.ReadingLoads.load.Goals as goal

pub read-requires-clause-word : goal.read-requires-clause-word
read-requires-clause-word g c =
    let n = word_count_is c.args.self.now.table.now (c.args.self.now.post.now.view.passed / 2) in omega (arith, c.requires.word, n)
