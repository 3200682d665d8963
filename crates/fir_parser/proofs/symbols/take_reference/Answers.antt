use Rattle.fir_parser.proofs.Steps.{passes_whole}
use Rattle.fir_parser.proofs.symbols.take_reference.Goals as goal

pub returns : goal.returns
returns c = let it = c.in_ok-it.ensures in passes_whole c.args.reader.now c.read_reference.new.reader c.requires.at it.bytes it.laid it.brackets it.major it.read it.whole it.room
