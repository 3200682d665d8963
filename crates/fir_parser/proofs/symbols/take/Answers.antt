use Rattle.fir_grammar.specs.Grammar.{Nothing}
use Rattle.fir_parser.specs.Expected.{terminal}
use Rattle.fir_parser.proofs.Steps.{refuses, taken, stands_behind, blocks_behind, fresh_behind, calm_expected}
use Rattle.fir_parser.proofs.symbols.take.Goals as goal

pub returns-then-not-meets-clause-reads : goal.returns-then-not-meets-clause-reads
returns-then-not-meets-clause-reads c = refuses Nothing (terminal c.args.expected) _ _ (c.if-not-meets.ensures) c.fault_here.ensures

pub returns-clause-reads : goal.returns-clause-reads
returns-clause-reads c = let m = c.if-not-meets.ensures in
    record { taken = taken _ _ m.laid (terminal c.args.expected) c.requires.at (calm_expected c.args.expected c.requires.quiet) m.stands m.takes c.advance.ensures; at = stands_behind _ _ m.laid (terminal c.args.expected) c.requires.at (calm_expected c.args.expected c.requires.quiet) m.stands m.takes c.advance.ensures; blocks = blocks_behind _ _ m.laid (terminal c.args.expected) c.requires.at (calm_expected c.args.expected c.requires.quiet) m.stands m.takes c.advance.ensures }

pub returns-clause-fresh : goal.returns-clause-fresh
returns-clause-fresh c = let m = c.if-not-meets.ensures in
    fresh_behind _ _ m.laid (terminal c.args.expected) c.requires.at (calm_expected c.args.expected c.requires.quiet) m.stands m.takes c.advance.ensures
