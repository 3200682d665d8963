use Rattle.circuit_texts.proofs.Existing.{some_found}
use Rattle.circuit_texts.proofs.log_laws.sound_items_are_found.Goals as goal

pub returns : goal.returns
returns c = λ texts design net serves prints has. some_found texts design net serves prints has
