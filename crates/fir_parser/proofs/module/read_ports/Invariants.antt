use Rattle.std.proofs.Common.{◌≡◌, ◌-◌, length, ◌++◌}
use Rattle.fir_grammar.specs.Grammar.{Ports}
use Rattle.fir_parser.specs.Taking.{StandsAt, blocks_at}
use Rattle.fir_parser.proofs.Loops.{Continues}
use Rattle.fir_parser.proofs.module.read_ports.Given as goal

abbrev pub invariant-loop-reader : goal.invariant-loop-reader
invariant-loop-reader l = StandsAt l.reader × (blocks_at l.reader ≡ blocks_at l.fn.reader) × Continues Ports l.fn.reader l.reader (λ v. (l.ports ++ v.0, v.1))

abbrev pub decreases-loop-reader : goal.decreases-loop-reader
decreases-loop-reader l = length l.reader.laid.now - l.reader.at
