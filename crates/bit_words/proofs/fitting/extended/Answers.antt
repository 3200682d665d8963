use Rattle.bit_words.proofs.Complement.{extended_bits}
use Rattle.bit_words.proofs.fitting.extended.Goals as goal

pub returns-in-Signed : goal.returns-in-Signed
returns-in-Signed c = λ to small. extended_bits _ _ _ _ to c.in-Signed.is c.args.value.narrow c.args.value.within c.greatest.ensures (c.is_negative.ensures.0 c.if-is_negative.true) small
