use Rattle.token_reader.proofs.Sources.{source_part}
use Rattle.token_reader.proofs.brackets.open_bracket.Goals as goal

pub place_of_part-requires-clause-inside : goal.place_of_part-requires-clause-inside
place_of_part-requires-clause-inside c = source_part c.args.text.now c.args.laid.now c.args.at c.in_ok-part.part c.requires.source c.in_ok-part.ensures.here
