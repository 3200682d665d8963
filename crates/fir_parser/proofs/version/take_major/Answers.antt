use Rattle.fir_grammar.specs.Grammar.{A_number}
use Rattle.fir_parser.proofs.Steps.{not_met}
use Rattle.fir_parser.proofs.Dotted.{version_absent, other_version, major_taken, major_stands, major_blocks, major_suffixes}
use Rattle.fir_parser.proofs.version.take_major.Goals as goal

pub number_here-requires : goal.number_here-requires
number_here-requires c = record { short = c.requires.at.short; laid = c.requires.at.laid }

pub returns-in_default-clause-refused : goal.returns-in_default-clause-refused
returns-in_default-clause-refused c = version_absent _ _ (not_met A_number c.args.reader.now c.in_default.ensures.none) c.fault_here.ensures

pub returns-in_default-major_of-clause-refused : goal.returns-in_default-major_of-clause-refused
returns-in_default-major_of-clause-refused c = other_version c.args.reader.now _ _ c.in-Some.ensures.some c.in_default-major_of.ensures.none

pub returns-clause-ok : goal.returns-clause-ok
returns-clause-ok c = rw c.in-Some-major_of.ensures.same (major_taken c.args.reader.now c.advance.new.reader c.in-Some.number.0 c.in-Some.number.1 c.in-Some.ensures.some (rw c.in-Some-major_of.ensures.same at c.in-Some-major_of.ensures.known) c.advance.ensures)

pub returns-clause-at : goal.returns-clause-at
returns-clause-at c = major_stands c.args.reader.now c.advance.new.reader c.in-Some.number.0 c.in-Some.number.1 c.in-Some.ensures.some (rw c.in-Some-major_of.ensures.same at c.in-Some-major_of.ensures.known) c.advance.ensures c.requires.at

pub returns-clause-blocks : goal.returns-clause-blocks
returns-clause-blocks c = major_blocks c.args.reader.now c.advance.new.reader c.in-Some.number.0 c.in-Some.number.1 c.in-Some.ensures.some (rw c.in-Some-major_of.ensures.same at c.in-Some-major_of.ensures.known) c.advance.ensures c.requires.at

pub returns-clause-suffixes : goal.returns-clause-suffixes
returns-clause-suffixes c = major_suffixes c.args.reader.now c.advance.new.reader c.in-Some.number.0 c.in-Some.number.1 c.in-Some.ensures.some (rw c.in-Some-major_of.ensures.same at c.in-Some-major_of.ensures.known) c.advance.ensures c.requires.at
