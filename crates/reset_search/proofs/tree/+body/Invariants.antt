use Rattle.std.proofs.Common.{◌≡◌, ◌+◌, ◌++◌, map, drop}
use Rattle.reset_search.specs.Resolved.{becomes_stmt, all_from, in_all}
use Rattle.reset_search.specs.Rows.{marked}
use Rattle.reset_search.specs.Layers.{arm_becomes}
use Rattle.reset_search.proofs.tree.+body.Given as goal

abbrev pub invariant-resolve_body-loop-statement : goal.invariant-resolve_body-loop-statement
invariant-resolve_body-loop-statement l = record {
  body : all_from (map (becomes_stmt (marked l.marks.keys.keys)) l.statements) l.fn.next ≡ l.made ++ all_from (map (becomes_stmt (marked l.marks.keys.keys)) (drop l.statement-index l.statements)) l.next;
  next : l.fn.next + in_all (map (becomes_stmt (marked l.marks.keys.keys)) l.statements) ≡ l.next + in_all (map (becomes_stmt (marked l.marks.keys.keys)) (drop l.statement-index l.statements));
}

abbrev pub invariant-resolve_arms-loop-arm : goal.invariant-resolve_arms-loop-arm
invariant-resolve_arms-loop-arm l = record {
  arms : all_from (map (arm_becomes (marked l.marks.keys.keys)) l.arms) l.fn.next ≡ l.made ++ all_from (map (arm_becomes (marked l.marks.keys.keys)) (drop l.arm-index l.arms)) l.next;
  next : l.fn.next + in_all (map (arm_becomes (marked l.marks.keys.keys)) l.arms) ≡ l.next + in_all (map (arm_becomes (marked l.marks.keys.keys)) (drop l.arm-index l.arms));
}
