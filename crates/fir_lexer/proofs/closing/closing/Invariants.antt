use Rattle.std.proofs.Common.{length, ◌+◌, ◌-◌, ◌≤◌}
use Rattle.fir_lexer.specs.Bytes.{Closes}
use Rattle.fir_lexer.specs.Scan.{Follows}
use Rattle.fir_lexer.proofs.closing.closing.Given as goal

abbrev pub invariant-loop-unclosed : goal.invariant-loop-unclosed
invariant-loop-unclosed l = record {
  follows : Follows (Closes l.fn.string l.fn.brackets) (Closes l.unclosed.string l.unclosed.brackets) l.bytes l.at;
  counted : l.unclosed.brackets ≤ l.at + 1;
}

abbrev pub decreases-loop-unclosed : goal.decreases-loop-unclosed
decreases-loop-unclosed l = length l.bytes - l.at
