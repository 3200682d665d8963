use Rattle.asked_texts.proofs.Examples as example
use Rattle.asked_texts.proofs.laws.texts_are_split.Goals as goal

pub returns-clause-behind : goal.returns-clause-behind
returns-clause-behind c = example.behind

pub returns-clause-in_front : goal.returns-clause-in_front
returns-clause-in_front c = example.in_front

pub returns-clause-at_the_end : goal.returns-clause-at_the_end
returns-clause-at_the_end c = example.at_the_end

pub returns-clause-of_two : goal.returns-clause-of_two
returns-clause-of_two c = example.of_two

pub returns-clause-none : goal.returns-clause-none
returns-clause-none c = example.none

pub returns-clause-none_in_no_text : goal.returns-clause-none_in_no_text
returns-clause-none_in_no_text c = example.none_in_no_text
