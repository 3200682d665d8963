use Rattle.fir_grammar.specs.Faults.{listed, unlisted}
use Rattle.token_reader.proofs.take.refusal.Goals as goal

pub returns-then-is_listed : goal.returns-then-is_listed
returns-then-is_listed c = rw c.place_of_part-place.ensures (listed (c.is_listed.ensures.0 c.if-is_listed.true))

pub returns-else-is_listed : goal.returns-else-is_listed
returns-else-is_listed c = rw c.place_of_part-place.ensures (unlisted (λ h. let e = c.is_listed.ensures.1 h in let n = c.if-is_listed.false in cc))
