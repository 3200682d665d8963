use Rattle.depth_laws.proofs.Few.{shallow_tree}
use Rattle.depth_laws.proofs.laws.shallow_texts_have_few_suffixes.Goals as goal

pub returns : goal.returns
returns c = λ text list major main modules names is h. (shallow_tree text list major main modules names is h).suffixes
