use Rattle.snapshot_text.proofs.Named.{cells_named}
use Rattle.snapshot_text.proofs.laws.names_are_words.Goals as goal

pub returns : goal.returns
returns c = cells_named
