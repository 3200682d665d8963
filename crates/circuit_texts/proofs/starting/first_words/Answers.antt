use Rattle.snapshot_text.specs.Steps.{cells_ahead}
use Rattle.circuit_texts.proofs.Firsts.{all_zeros}
use Rattle.circuit_texts.proofs.starting.first_words.Goals as goal

pub returns : goal.returns
returns c = all_zeros c.args.net.now c.requires c.lines.words (cells_ahead c.lines.cursor) c.lines.invariant.zeros c.in_default.ensures.none
