use Rattle.std.proofs.Common.{◌≡◌, All, map, take, if◌then◌else◌}
use Rattle.std.specs.Prelude.{Some, None}
use Rattle.type_check.specs.Expressions.{judged, suffix_step, typed_operands, all_among, along}
use Rattle.type_check.specs.Judging.{part_reached, operand_of, IsFound, together}
use Rattle.type_check.specs.Walks.{Adds}
use Rattle.type_check.proofs.judge.+judge.Given as goal

abbrev pub invariant-judge_all-loop-expr : goal.invariant-judge_all-loop-expr
invariant-judge_all-loop-expr l = record {
  operands : typed_operands l.known.parts (map judged (take l.expr-index l.exprs)) ≡ (if l.complete then Some (map operand_of l.typed.items) else None);
  typed : All (IsFound l.known.parts) l.typed.items;
  found : Adds (together (all_among l.known.parts (map judged (take l.expr-index l.exprs)))) l.fn.found l.found;
}

abbrev pub invariant-walk_steps-loop-suffix : goal.invariant-walk_steps-loop-suffix
invariant-walk_steps-loop-suffix l = record {
  part : part_reached l.reached ≡ (along (map suffix_step (take l.suffix-index l.suffixes)) l.known.parts (part_reached l.fn.base)).part;
  found : Adds (along (map suffix_step (take l.suffix-index l.suffixes)) l.known.parts (part_reached l.fn.base)) l.fn.found l.found;
}
