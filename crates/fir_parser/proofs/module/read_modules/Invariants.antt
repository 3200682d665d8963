use Rattle.std.proofs.Common.{◌≡◌, ◌-◌, length, ◌++◌}
use Rattle.fir_grammar.specs.Grammar.{Modules}
use Rattle.fir_parser.specs.Taking.{StandsAt, blocks_at}
use Rattle.fir_parser.proofs.Loops.{Continues}
use Rattle.fir_parser.proofs.module.read_modules.Given as goal

abbrev pub invariant-loop-alloc : goal.invariant-loop-alloc
invariant-loop-alloc l = StandsAt l.reader × (blocks_at l.reader ≡ blocks_at l.fn.reader) × Continues Modules l.fn.reader l.reader (λ v. l.modules ++ v)

abbrev pub decreases-loop-alloc : goal.decreases-loop-alloc
decreases-loop-alloc l = length l.reader.laid.now - l.reader.at
