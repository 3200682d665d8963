use Rattle.fir_grammar.specs.Grammar.{Nothing, Closes}
use Rattle.fir_parser.proofs.Steps.{refuses, taken_close, stands_closed, blocks_closed}
use Rattle.fir_parser.proofs.symbols.take_close.Goals as goal

pub returns-then-not-meets : goal.returns-then-not-meets
returns-then-not-meets c = refuses Nothing Closes _ _ (c.if-not-meets.ensures) c.fault_here.ensures

pub returns : goal.returns
returns c = record { taken = taken_close _ _ (c.if-not-meets.ensures) c.advance.ensures; at = stands_closed _ _ c.requires.at (c.if-not-meets.ensures) c.advance.ensures; blocks = blocks_closed _ _ (c.if-not-meets.ensures) c.advance.ensures }
