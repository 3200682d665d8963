use Rattle.fir_grammar.specs.Faults.{listed_words}
use Rattle.token_reader.proofs.Called.{call_listed, word_listed, call_ends}
use Rattle.token_reader.proofs.take.is_listed_call.Goals as goal

pub returns-in-Some : goal.returns-in-Some
returns-in-Some c = (
  λ h. call_listed listed_words c.in-Some.word.now c.args.call.now c.in-Some.ensures.some (c.is_listed_word.ensures.0 h),
  λ h. c.is_listed_word.ensures.1 (word_listed listed_words c.in-Some.word.now c.args.call.now c.in-Some.ensures.some h),
)

pub returns-in-None : goal.returns-in-None
returns-in-None c = (λ h. absurd cc, λ h. let e = call_ends listed_words c.args.call.now h in absurd (c.in-None.ensures.none e.0 e.1))
