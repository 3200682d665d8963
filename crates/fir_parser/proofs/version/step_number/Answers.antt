use Rattle.fir_layout.specs.declared.laid.Laid.TheVariants.{Item}
use Rattle.fir_grammar.specs.Grammar.{Nothing, A_number}
use Rattle.fir_parser.proofs.Steps.{refuses, not_met}
use Rattle.fir_parser.proofs.Dotted.{number_met}
use Rattle.fir_parser.proofs.version.step_number.Goals as goal

pub number_here-requires : goal.number_here-requires
number_here-requires c = record { short = c.requires.short; laid = c.requires.laid }

pub returns-in_default-clause-refused : goal.returns-in_default-clause-refused
returns-in_default-clause-refused c = refuses Nothing A_number _ _ (not_met A_number c.args.reader.now c.in_default.ensures.none) c.fault_here.ensures

pub returns-clause-meets : goal.returns-clause-meets
returns-clause-meets c = let h = c.in-Some.ensures.some in number_met c.args.reader.now (Item h.token) h.taken.here h.taken.takes
