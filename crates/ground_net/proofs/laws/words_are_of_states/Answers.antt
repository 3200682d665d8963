use Rattle.ground_net.proofs.StateWords.{words_back, words_within, words_fit, words_counted}
use Rattle.ground_net.proofs.laws.words_are_of_states.Goals as goal

pub returns-clause-back : goal.returns-clause-back
returns-clause-back c = λ net words h. words_back net words h

pub returns-clause-within : goal.returns-clause-within
returns-clause-within c = λ net words. words_within net words

pub returns-clause-fit : goal.returns-clause-fit
returns-clause-fit c = λ net s. words_fit net s

pub returns-clause-counted : goal.returns-clause-counted
returns-clause-counted c = λ net words h. words_counted net words h
