use Rattle.std.proofs.Common.{arith, sym}
use Rattle.token_reader.proofs.text.place_among.Goals as goal

pub overflow_cast-result : goal.overflow_cast-result
overflow_cast-result c = let few = c.line_of-line.ensures.few in let within = c.requires.within in let short = c.requires.short in omega (arith, few, within, short)

pub overflow_sub-result : goal.overflow_sub-result
overflow_sub-result c = c.line_of-line.ensures.some

pub bounds-lines-line : goal.bounds-lines-line
bounds-lines-line c = let some = c.line_of-line.ensures.some in let within = c.line_of-line.ensures.within in omega (arith, some, within)

pub overflow_sub-result-2 : goal.overflow_sub-result-2
overflow_sub-result-2 c = c.line_of-line.ensures.below

pub returns : goal.returns
returns c = sym c.line_of-line.ensures.is
