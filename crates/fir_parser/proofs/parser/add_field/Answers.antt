use Rattle.fir_parser.proofs.Apart.{apart_none}
use Rattle.fir_parser.proofs.parser.add_field.Goals as goal

pub returns-clause-ok : goal.returns-clause-ok
returns-clause-ok c = c.in_ok-_id.ensures.added.added (apart_none c.args.text.now c.args.names.now c.requires.new)
