use Rattle.std.proofs.Common.{length, ◌-◌, ◌≤◌}
use Rattle.fir_lexer.proofs.Readings.{LexedTo}
use Rattle.fir_lexer.proofs.lexing.read_tokens.Given as goal

abbrev pub invariant-loop-at : goal.invariant-loop-at
invariant-loop-at l = record { within : l.at ≤ length l.bytes; lexed : LexedTo l.bytes l.tokens.items l.at }

abbrev pub decreases-loop-at : goal.decreases-loop-at
decreases-loop-at l = length l.bytes - l.at
