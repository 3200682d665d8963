use Rattle.name_laws.proofs.Items.{word_no_item, item_names}
use Rattle.name_laws.proofs.laws.words_are_no_item_names.Goals as goal

pub returns-clause-words : goal.returns-clause-words
returns-clause-words c = λ name word item. word_no_item name word item

pub returns-clause-names : goal.returns-clause-names
returns-clause-names c = λ name item. item_names name item
