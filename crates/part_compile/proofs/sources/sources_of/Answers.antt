use Rattle.part_compile.proofs.Rowed.{all_of}
use Rattle.part_compile.proofs.sources.sources_of.Goals as goal

pub returns : goal.returns
returns c = all_of c.args.net.now c.requires.net c.requires.said (record { leaves = c.in_ok-leaves.leaves; memories = c.in_ok-memories.memories }) c.in_ok-leaves.ensures c.in_ok-memories.ensures
