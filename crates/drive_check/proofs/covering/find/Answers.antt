use Rattle.std.proofs.Common.{rules, ◌≡◌, ◌∙◌, ap, false, drop, get_or, arith}
use Rattle.std.proofs.lemmas.Grind.{common_steps}
use Rattle.drive_check.proofs.Naming.{modules_more, where_true, where_false}
use Rattle.drive_check.proofs.covering.find.Goals as goal
use Rattle.drive_check.proofs.covering.find.Goals.{then-unwrap_or+in_ok-push_module, else-unwrap_or}

pub loop-number-preserved : goal.loop-number-preserved
loop-number-preserved c =
    let flag : get_or c.as_slice-reached.result.now c.loop-number.number false ≡ c.unwrap_or.result = search rules in
    let types : c.unwrap_or-rest.result.now ≡ drop c.len.result c.loop-number.rest.now = grind (arith, common_steps) in
    modules_more c.as_slice-modules.result.now c.as_slice-reached.result.now c.loop-number.number c.len.result c.index-modules-number.result c.in_ok-names.names.items
    c.loop-number.rest.now c.unwrap_or-rest.result.now _ c.loop-number.faults.items c.if-unwrap_or.faults.items (search rules) c.index-modules-number.is c.loop-number.invariant
    (elim c.if-unwrap_or.branch [
      | then-unwrap_or+in_ok-push_module w ↦ ap (λ faults. faults.items) w.faults-is ∙ w.in_ok-push_module.ensures ∙ where_true c.loop-number.faults.items _ _ (flag ∙ w.if-unwrap_or.true)
      | else-unwrap_or w ↦ ap (λ faults. faults.items) w.faults-is ∙ where_false c.loop-number.faults.items _ _ (flag ∙ w.if-unwrap_or.false)
    ])
    c.in_ok-names.ensures (search rules) types
