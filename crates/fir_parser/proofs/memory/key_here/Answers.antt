use Rattle.fir_parser.proofs.Keys.{no_other}
use Rattle.fir_parser.proofs.memory.key_here.Goals as goal

pub returns : goal.returns
returns c = no_other c.args.reader.now c.if-meets.ensures c.if-meets-2.ensures c.if-meets-3.ensures c.if-meets-4.ensures c.if-meets-5.ensures c.if-meets-6.ensures c.if-meets-7.ensures
