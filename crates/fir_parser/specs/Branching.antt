-- The branches of a `when` behind arms that were read before them.
use Rattle.std.specs.Prelude.{◌≡◌, List, [], ◌∷◌, ◌++◌}
use Rattle.item_lines.specs.declared.line.Line.{Line}
use Rattle.item_lines.specs.declared.line.LineArm.{LineArm}
use Rattle.fir_grammar.specs.Grammar.{A, Branches}
use Rattle.fir_expr.specs.declared.reader.Reader.{Reader}
use Rattle.fir_parser.specs.Taking.{HasTaken}

pub record Branched (before : List LineArm) (old new : Reader) (arms : List LineArm) (other : List Line) : Type 0 where
  pub more : List LineArm
  pub made : arms ≡ before ++ more
  pub taken : HasTaken (A Branches ∷ []) old new ((more, other), tt)
