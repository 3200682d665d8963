use Rattle.std.proofs.Common.{◌≡◌, ◌-◌, ◌*◌, ◌+◌, length, ◌++◌}
use Rattle.fir_grammar.specs.Grammar.{Statements}
use Rattle.fir_parser.specs.Taking.{StandsAt, blocks_at}
use Rattle.fir_parser.proofs.Loops.{Continues, Branches_so_far}
use Rattle.fir_parser.proofs.block.+block.Given as goal

abbrev pub decreases-read_statements : goal.decreases-read_statements
decreases-read_statements l = 8 * (128 - l.blocks) + 6

abbrev pub decreases-read_statement : goal.decreases-read_statement
decreases-read_statement l = 8 * (128 - l.blocks) + 5

abbrev pub decreases-read_when : goal.decreases-read_when
decreases-read_when l = 8 * (128 - l.blocks) + 4

abbrev pub decreases-read_branches : goal.decreases-read_branches
decreases-read_branches l = 8 * (128 - l.blocks) + 3

abbrev pub decreases-read_else_when : goal.decreases-read_else_when
decreases-read_else_when l = 8 * (128 - l.blocks) + 2

abbrev pub decreases-read_else : goal.decreases-read_else
decreases-read_else l = 8 * (128 - l.blocks) + 2

abbrev pub decreases-read_arm : goal.decreases-read_arm
decreases-read_arm l = 8 * (128 - l.blocks) + 1

abbrev pub decreases-read_block : goal.decreases-read_block
decreases-read_block l = 8 * (128 - l.blocks) + 0

abbrev pub invariant-read_statements-loop-alloc : goal.invariant-read_statements-loop-alloc
invariant-read_statements-loop-alloc l = StandsAt l.reader × (blocks_at l.reader ≡ blocks_at l.fn.reader) × Continues Statements l.fn.reader l.reader (λ v. l.statements ++ v)

abbrev pub decreases-read_statements-loop-alloc : goal.decreases-read_statements-loop-alloc
decreases-read_statements-loop-alloc l = length l.reader.laid.now - l.reader.at

abbrev pub invariant-read_branches-loop-reader : goal.invariant-read_branches-loop-reader
invariant-read_branches-loop-reader l = StandsAt l.reader × (blocks_at l.reader ≡ blocks_at l.fn.reader) × Branches_so_far l.fn.reader l.reader l.fn.before l.arms

abbrev pub decreases-read_branches-loop-reader : goal.decreases-read_branches-loop-reader
decreases-read_branches-loop-reader l = length l.reader.laid.now - l.reader.at
