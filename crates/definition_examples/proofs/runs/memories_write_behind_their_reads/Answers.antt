use Rattle.definition_examples.proofs.OneMemory.{ports_have, settles_now, settles_later, next_written, next_kept, next_captured}
use Rattle.definition_examples.proofs.runs.memories_write_behind_their_reads.Goals as goal

pub returns-clause-ports : goal.returns-clause-ports
returns-clause-ports c = ports_have

pub returns-clause-latency_0 : goal.returns-clause-latency_0
returns-clause-latency_0 c = settles_now

pub returns-clause-latency_1 : goal.returns-clause-latency_1
returns-clause-latency_1 c = settles_later

pub returns-clause-written : goal.returns-clause-written
returns-clause-written c = next_written

pub returns-clause-kept : goal.returns-clause-kept
returns-clause-kept c = next_kept

pub returns-clause-captured : goal.returns-clause-captured
returns-clause-captured c = next_captured
