use Rattle.std.proofs.Common.{rules, ◌≡◌, ◌∙◌, ap, sym, subst, false, drop, get_or, arith}
use Rattle.std.proofs.lemmas.Grind.{common_steps}
use Rattle.fir_tree.specs.declared.circuit.Circuit.{Circuit}
use Rattle.fir_meaning.specs.Components.{modules_of}
use Rattle.drive_check.specs.Sites.{names_of}
use Rattle.drive_check.specs.Typing.{typed}
use Rattle.one_clock.specs.Tables.{Keeps}
use Rattle.one_clock.proofs.Tabling.{tabled_more, tabled_all, after_true, after_false}
use Rattle.one_clock.proofs.table.table_of.Goals as goal
use Rattle.one_clock.proofs.table.table_of.Goals.{then-unwrap_or+in_ok-keep, else-unwrap_or}

pub loop-number-preserved : goal.loop-number-preserved
loop-number-preserved c =
    let x = c.index-modules-number.result in
    let types = typed (names_of x) c.loop-number.rest.now in
    let old = c.loop-number.table.entries in
    let new = c.if-unwrap_or.table.entries in
    let flag = get_or c.as_slice-reached.result.now c.loop-number.number false in
    let is_flag : flag ≡ c.unwrap_or.result = search rules in
    let later : c.unwrap_or-rest.result.now ≡ drop c.len.result c.loop-number.rest.now = grind (arith, common_steps) in
    tabled_more c.as_slice-modules.result.now (modules_of c.args.fitted.now) c.as_slice-reached.result.now c.loop-number.number c.len.result x c.in_ok-names.names.items
    c.loop-number.rest.now c.unwrap_or-rest.result.now old new (c.modules_are_named.ensures.once c.args.fitted.now c.requires.names) (search rules) c.index-modules-number.is c.loop-number.invariant
    (elim c.if-unwrap_or.branch [
      | then-unwrap_or+in_ok-keep w ↦ after_true types x old new flag (is_flag ∙ w.if-unwrap_or.true)
          (subst (Keeps types x old) (sym (ap (λ table. table.entries) w.table-is)) w.in_ok-keep.ensures)
      | else-unwrap_or w ↦ after_false types x old new flag (is_flag ∙ w.if-unwrap_or.false) (ap (λ table. table.entries) w.table-is)
    ])
    c.in_ok-names.ensures (search rules) later

pub returns : goal.returns
returns c = λ m its.
    tabled_all c.as_slice-modules.result.now c.args.fitted.now.checked.resolved.modules (modules_of c.args.fitted.now) c.as_slice-reached.result.now c.args.fitted.now.checked.scope.reached
    c.loop-number.table.entries c.loop-number.number c.loop-number.rest.now c.loop-number.invariant (search rules) (c.as_slice-modules.ensures ∙ ap (λ (x : Circuit). x.modules) c.get.ensures) c.as_slice-reached.ensures
    its.k its.holder m its.here its.number its.reached
