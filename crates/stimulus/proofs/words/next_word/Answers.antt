use Rattle.stimulus.proofs.Inking.{next_word_is, no_word}
use Rattle.stimulus.proofs.words.next_word.Goals as goal

pub returns-then-at-end-clause-none : goal.returns-then-at-end-clause-none
returns-then-at-end-clause-none c = no_word c.args.bytes.now c.args.from c.behind_blanks-at.result c.behind_ink-end.result c.behind_blanks-at.ensures.same c.behind_ink-end.ensures c.if-at-end.true c.behind_blanks-at.ensures.stops

pub returns-clause-some : goal.returns-clause-some
returns-clause-some c = next_word_is c.args.bytes.now c.args.from c.behind_blanks-at.result c.behind_ink-end.result c.behind_blanks-at.ensures.same c.behind_blanks-at.ensures.onward c.behind_ink-end.ensures c.if-at-end.false
