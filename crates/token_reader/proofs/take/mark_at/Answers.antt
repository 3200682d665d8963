use Rattle.fir_grammar.specs.Grammar.{The_mark}
use Rattle.token_reader.proofs.Takes.{none_here}
use Rattle.token_reader.proofs.take.mark_at.Goals as goal

pub returns-else-is_mark-clause-err : goal.returns-else-is_mark-clause-err
returns-else-is_mark-clause-err c = c.refusal_at.ensures (The_mark c.args.mark) (none_here (The_mark c.args.mark) c.args.text.now c.args.laid.now c.args.at c.in_ok-part.part c.in_ok-part.ensures.ok (c.is_mark.ensures c.args.text.now).1 c.if-is_mark.false)
