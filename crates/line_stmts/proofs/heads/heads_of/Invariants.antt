use Rattle.std.proofs.Common.{◌≡◌, [], take}
use Rattle.fir_tree.specs.Numbered.{IsDistinct}
use Rattle.item_lines.specs.Items.{heads}
use Rattle.item_lines.specs.Naming.{IsMade}
use Rattle.line_stmts.proofs.heads.heads_of.Given as goal

abbrev pub invariant-loop-place : goal.invariant-loop-place
invariant-loop-place l = record {
  number : l.number ≡ l.place-index;
  made : IsDistinct l.fn.names → IsMade [] l.made l.names (heads 0 (take l.place-index l.places) l.fn.names);
}
