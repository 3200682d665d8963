use Rattle.std.proofs.lemmas.Option.{slice_get_within}
use Rattle.fir_grammar.specs.Grammar.{Its_place, The_call}
use Rattle.fir_parser.proofs.Steps.{refuses, taken_placed, stands_behind, blocks_behind}
use Rattle.fir_parser.proofs.symbols.take_call.Goals as goal

pub returns-then-not-meets : goal.returns-then-not-meets
returns-then-not-meets c = refuses Its_place (The_call c.args.text.now) _ _ c.if-not-meets.ensures c.fault_here.ensures

pub place_here-place-requires-clause-within : goal.place_here-place-requires-clause-within
place_here-place-requires-clause-within c = let m = c.if-not-meets.ensures in slice_get_within _ _ m.laid m.stands

pub returns : goal.returns
returns c = let m = c.if-not-meets.ensures in
    record { taken = rw (c.place_here-place.ensures m.laid m.stands) (taken_placed c.args.reader.now c.advance.new.reader m.laid (The_call c.args.text.now) c.requires.at c.requires.item m.stands m.takes c.advance.ensures); at = stands_behind c.args.reader.now c.advance.new.reader m.laid (The_call c.args.text.now) c.requires.at c.requires.item m.stands m.takes c.advance.ensures; blocks = blocks_behind c.args.reader.now c.advance.new.reader m.laid (The_call c.args.text.now) c.requires.at c.requires.item m.stands m.takes c.advance.ensures }
