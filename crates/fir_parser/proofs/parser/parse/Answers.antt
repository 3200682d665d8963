use Rattle.fir_parser.proofs.Texts.{accepts_from, refuses_from}
use Rattle.fir_parser.proofs.parser.parse.Goals as goal

pub returns-clause-accepts : goal.returns-clause-accepts
returns-clause-accepts c = accepts_from c.args.bytes.now c.args.laid.now c.read_all.result c.read_all.ensures.ok c.read_all.ensures.fault

pub returns-clause-refuses : goal.returns-clause-refuses
returns-clause-refuses c = refuses_from c.args.bytes.now c.args.laid.now c.read_all.result c.read_all.ensures.ok c.read_all.ensures.shallow c.read_all.ensures.fault
