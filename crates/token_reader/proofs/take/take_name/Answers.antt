use Rattle.token_reader.proofs.Sources.{source_part}
use Rattle.fir_layout.specs.declared.laid.Laid.TheVariants.{Item}
use Rattle.std.proofs.Common.{Some, ◌∙◌, ap}
use Rattle.token_reader.proofs.take.take_name.Goals as goal

pub add_name-requires-clause-inside : goal.add_name-requires-clause-inside
add_name-requires-clause-inside c = source_part c.args.text.now c.args.laid.now c.args.at (Item c.in-Item.token) c.requires.source (c.in_ok-token.ensures.ok ∙ ap (λ l. Some l) c.in-Item.is)
