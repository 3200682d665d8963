use Rattle.token_reader.proofs.Takes.{not_taken, not_taken_memory}
use Rattle.token_reader.proofs.Sources.{source_part}
use Rattle.token_reader.proofs.take.refusal_at.Goals as goal

pub refusal-requires-clause-inside : goal.refusal-requires-clause-inside
refusal-requires-clause-inside c = source_part c.args.text.now c.args.laid.now c.args.at _ c.requires c.in-Ok.ensures.ok

pub returns-in-Ok : goal.returns-in-Ok
returns-in-Ok c = λ s none. not_taken s c.args.text.now c.args.laid.now c.args.at c.in-Ok.part c.refusal.result c.in-Ok.ensures.ok (none c.in-Ok.part c.in-Ok.ensures.ok) c.refusal.ensures

pub returns-in-Err : goal.returns-in-Err
returns-in-Err c = λ s none. rw c.in-Err.ensures.err (not_taken_memory s c.args.text.now c.args.laid.now c.args.at)
