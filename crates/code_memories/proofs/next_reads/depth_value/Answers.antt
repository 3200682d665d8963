use Rattle.std.proofs.Common.{refl}
use Rattle.code_memories.proofs.Reading.{number_made}
use Rattle.code_memories.proofs.next_reads.depth_value.Goals as goal

pub returns-clause-value : goal.returns-clause-value
returns-clause-value c = number_made _ c.args.depth refl refl refl
