use Rattle.token_reader.proofs.Takes.{no_number}
use Rattle.token_reader.proofs.take.magnitude.Goals as goal

pub returns-in-Ok-clause-some : goal.returns-in-Ok-clause-some
returns-in-Ok-clause-some c = (c.in-Item.token, c.in-Item.is, c.in-Digits.is, rw c.bytes.ensures at c.in-Ok.ensures.answer.0)

pub returns-in-Err-clause-none : goal.returns-in-Err-clause-none
returns-in-Err-clause-none c = rw c.in-Item.is (no_number c.args.text.now c.bytes.result.now c.in-Item.token c.in-Err._fault (rw c.in-Item.is at c.requires) c.in-Digits.is c.bytes.ensures c.in-Err.ensures.answer)
