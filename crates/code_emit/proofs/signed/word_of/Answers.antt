use Rattle.std.proofs.Common.{arith}
use Rattle.code_emit.proofs.Pairwise.{keep_gives}
use Rattle.code_emit.proofs.signed.word_of.Goals as goal

pub returns-in-Unsigned : goal.returns-in-Unsigned
returns-in-Unsigned c = keep_gives c.args.x c.requires c.in-Unsigned.is c.low_mask.result c.of_one.result (c.low_mask.ensures.wide (omega arith)) c.of_one.ensures
