use Rattle.expand_whens.proofs.Guards.{choice_value, choice_mentions, choice_shape}
use Rattle.expand_whens.proofs.guard.choice.Goals as goal

pub returns-clause-value : goal.returns-clause-value
returns-clause-value c = rw (c.from_vec.ensures, c.in_ok-items.ensures.items) (choice_value _ _ _ c.bit.ensures.value c.bit.ensures.mentions c.bit.ensures.shape)

pub returns-clause-mentions : goal.returns-clause-mentions
returns-clause-mentions c = rw (c.from_vec.ensures, c.in_ok-items.ensures.items) (choice_mentions _ _ _ c.bit.ensures.value c.bit.ensures.mentions c.bit.ensures.shape)

pub returns-clause-shape : goal.returns-clause-shape
returns-clause-shape c = rw (c.from_vec.ensures, c.in_ok-items.ensures.items) (choice_shape _ _ _ c.bit.ensures.value c.bit.ensures.mentions c.bit.ensures.shape)
