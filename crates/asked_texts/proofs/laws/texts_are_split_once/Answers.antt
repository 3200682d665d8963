use Rattle.asked_texts.proofs.Splitting.{split_once, split_or_none}
use Rattle.asked_texts.proofs.laws.texts_are_split_once.Goals as goal

pub returns-clause-parts : goal.returns-clause-parts
returns-clause-parts c = split_once

pub returns-clause-none : goal.returns-clause-none
returns-clause-none c = split_or_none
