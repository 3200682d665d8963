use Rattle.std.proofs.lemmas.Option.{slice_get_within}
use Rattle.fir_grammar.specs.Grammar.{Its_place, The_word}
use Rattle.fir_parser.proofs.Steps.{refuses, taken_placed, stands_behind, blocks_behind, fresh_word}
use Rattle.fir_parser.proofs.symbols.take_placed_word.Goals as goal

pub returns-then-not-meets-clause-reads : goal.returns-then-not-meets-clause-reads
returns-then-not-meets-clause-reads c = refuses Its_place (The_word c.args.text.now) _ _ c.if-not-meets.ensures c.fault_here.ensures

pub place_here-place-requires-clause-within : goal.place_here-place-requires-clause-within
place_here-place-requires-clause-within c = let m = c.if-not-meets.ensures in slice_get_within _ _ m.laid m.stands

pub returns-clause-reads : goal.returns-clause-reads
returns-clause-reads c = let m = c.if-not-meets.ensures in
    record { taken = rw (c.place_here-place.ensures m.laid m.stands) (taken_placed c.args.reader.now c.advance.new.reader m.laid (The_word c.args.text.now) c.requires.at tt m.stands m.takes c.advance.ensures); at = stands_behind c.args.reader.now c.advance.new.reader m.laid (The_word c.args.text.now) c.requires.at tt m.stands m.takes c.advance.ensures; blocks = blocks_behind c.args.reader.now c.advance.new.reader m.laid (The_word c.args.text.now) c.requires.at tt m.stands m.takes c.advance.ensures }

pub returns-clause-fresh : goal.returns-clause-fresh
returns-clause-fresh c = let m = c.if-not-meets.ensures in
    fresh_word c.args.reader.now c.advance.new.reader m.laid c.args.text.now c.requires.at m.stands m.takes c.advance.ensures
