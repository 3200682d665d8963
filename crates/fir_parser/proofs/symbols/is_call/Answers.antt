use Rattle.fir_parser.proofs.Steps.{same_call}
use Rattle.fir_parser.proofs.symbols.is_call.Goals as goal

pub returns-in-Some : goal.returns-in-Some
returns-in-Some c = same_call c.in-Some.word.now c.args.text.now c.args.call.now c.eq.result c.in-Some.ensures.some (rw c.as_bytes.ensures.value at c.eq.ensures)
