use Rattle.std.proofs.Common.{◌≡◌, ◌-◌, length, ◌++◌}
use Rattle.fir_grammar.specs.Grammar.{Memory_lines}
use Rattle.fir_parser.specs.Taking.{StandsAt, blocks_at}
use Rattle.fir_parser.proofs.Loops.{Continues}
use Rattle.fir_parser.proofs.memory.read_lines.Given as goal

abbrev pub invariant-loop-alloc : goal.invariant-loop-alloc
invariant-loop-alloc l = StandsAt l.reader × (blocks_at l.reader ≡ blocks_at l.fn.reader) × Continues Memory_lines l.fn.reader l.reader (λ v. l.lines ++ v)

abbrev pub decreases-loop-alloc : goal.decreases-loop-alloc
decreases-loop-alloc l = length l.reader.laid.now - l.reader.at
