use Rattle.fir_layout.specs.declared.laid.Laid.TheVariants.{Item}
use Rattle.fir_grammar.specs.Grammar.{Its_magnitude, A_number}
use Rattle.fir_parser.proofs.Steps.{refuses, not_met, taken_number, stands_behind, blocks_behind}
use Rattle.fir_parser.proofs.symbols.take_number.Goals as goal

pub number_here-requires : goal.number_here-requires
number_here-requires c = record { short = c.requires.at.short; laid = c.requires.at.laid }

pub returns-in_default : goal.returns-in_default
returns-in_default c = refuses Its_magnitude A_number _ _ (not_met A_number c.args.reader.now c.in_default.ensures.none) c.fault_here.ensures

pub returns : goal.returns
returns c = let h = c.in-Some.ensures.some in
    record { taken = taken_number c.args.reader.now c.advance.new.reader _ _ c.in-Some.ensures.some c.advance.ensures; at = stands_behind c.args.reader.now c.advance.new.reader (Item h.token) A_number c.requires.at tt h.taken.here h.taken.takes c.advance.ensures; blocks = blocks_behind c.args.reader.now c.advance.new.reader (Item h.token) A_number c.requires.at tt h.taken.here h.taken.takes c.advance.ensures }
