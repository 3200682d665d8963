use Rattle.definition_examples.proofs.Delayed.{delayed_is, delayed_words, delayed_order}
use Rattle.definition_examples.proofs.net_examples.nets_exist.Goals as goal

pub returns-clause-well_formed : goal.returns-clause-well_formed
returns-clause-well_formed c = delayed_is

pub returns-clause-words : goal.returns-clause-words
returns-clause-words c = delayed_words

pub returns-clause-order : goal.returns-clause-order
returns-clause-order c = delayed_order
