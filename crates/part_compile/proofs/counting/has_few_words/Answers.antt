use Rattle.std.proofs.Common.{◌+◌, ◌*◌, ◌<◌, ◌^◌, arith}
use Rattle.std.proofs.lemmas.Bool.Decides.{nat_tests}
use Rattle.part_compile.proofs.StateWords.{few_in_all}
use Rattle.part_compile.proofs.counting.has_few_words.Goals as goal

pub returns : goal.returns
returns c = λ t.
    let below : c.saturating_add.result < 2 ^ 32 = grind (arith, nat_tests, t) in
    let sum : c.behind_memories.result + 2 * c.args.reads < 2 ^ 32 = omega (arith, below, c.saturating_add.ensures) in
    few_in_all c.args.net.now c.behind_memories.result c.args.reads c.requires.reads (c.behind_memories.ensures (omega (arith, sum))) sum
