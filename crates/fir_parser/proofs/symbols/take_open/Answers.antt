use Rattle.std.proofs.lemmas.Option.{slice_get_within}
use Rattle.fir_grammar.specs.Grammar.{Nothing, Opens}
use Rattle.fir_parser.proofs.Steps.{refuses, refuses_deep, taken_open, stands_opened, blocks_opened}
use Rattle.fir_parser.proofs.symbols.take_open.Goals as goal

pub returns-then-not-meets-clause-reads : goal.returns-then-not-meets-clause-reads
returns-then-not-meets-clause-reads c = refuses Nothing Opens _ _ c.if-not-meets.ensures c.fault_here.ensures

pub place_here-requires-clause-within : goal.place_here-requires-clause-within
place_here-requires-clause-within c = let m = c.if-not-meets.ensures in slice_get_within _ _ m.laid m.stands

pub returns-then-blocks-ge-MOST_BLOCKS-clause-reads : goal.returns-then-blocks-ge-MOST_BLOCKS-clause-reads
returns-then-blocks-ge-MOST_BLOCKS-clause-reads c = let m = c.if-not-meets.ensures in
    rw (c.place_here.ensures m.laid m.stands) (refuses_deep c.args.reader.now c.args.reader.now m.laid c.args.blocks m.stands m.takes c.requires.1 c.if-blocks-ge-MOST_BLOCKS.true)

pub returns-clause-reads : goal.returns-clause-reads
returns-clause-reads c = let m = c.if-not-meets.ensures in
    record { taken = taken_open c.args.reader.now c.advance.new.reader m.laid c.args.blocks m.stands m.takes c.requires.1 c.if-blocks-ge-MOST_BLOCKS.false c.advance.ensures; at = stands_opened c.args.reader.now c.advance.new.reader m.laid c.args.blocks c.requires.0 m.stands m.takes c.requires.1 c.if-blocks-ge-MOST_BLOCKS.false c.advance.ensures; blocks = blocks_opened c.args.reader.now c.advance.new.reader m.laid c.args.blocks m.stands m.takes c.requires.1 c.advance.ensures }
