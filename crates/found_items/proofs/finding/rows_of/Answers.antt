use Rattle.std.proofs.Common.{rules, ◌≡◌, ◌∙◌, ◌<◌, ℕ, ap, sym, subst, drop, get_or, length, List, Some, arith}
use Rattle.std.specs.Prelude.{slice_get}
use Rattle.std.proofs.lemmas.Grind.{common_steps}
use Rattle.fir_tree.specs.declared.circuit.Circuit.{Circuit}
use Rattle.fir_tree.specs.declared.circuit.Module.{Module}
use Rattle.lower_aggregates.proofs.Circuits.{stands_next}
use Rattle.found_items.specs.declared.table.Row.{Row}
use Rattle.found_items.specs.Tables.{AreRowsAt}
use Rattle.found_items.proofs.Rows.{all_more, longer}
use Rattle.found_items.proofs.finding.rows_of.Goals as goal

pub loop-number-preserved : goal.loop-number-preserved
loop-number-preserved c =
    let fitted = c.args.fitted.now in
    let below : c.loop-number.number < length fitted.checked.resolved.modules = search rules in
    let is : c.index-holders-number.result ≡ get_or fitted.checked.resolved.modules c.loop-number.number c.index-holders-number.result =
    c.index-holders-number.is ∙ ap (λ (l : List Module). get_or l c.loop-number.number c.index-holders-number.result) (c.as_slice-holders.ensures ∙ ap (λ (x : Circuit). x.modules) c.get.ensures) in
    let later : c.unwrap_or-rest.result.now ≡ drop c.in_ok-count.count c.loop-number.rest.now = grind (arith, common_steps) in
    let pushed = c.in_ok-push.ensures.items in (
      stands_next fitted c.loop-number.number c.in_ok-count.count c.index-holders-number.result c.loop-number.rest.now c.unwrap_or-rest.result.now below is c.loop-number.invariant.0 c.in_ok-count.ensures later,
      longer c.loop-number.rows.items c.push.new.self.items c.loop-number.number c.in_ok-own.own c.loop-number.invariant.1 pushed,
      subst (λ (l : List (List Row)). (k : ℕ) (own : List Row) → slice_get l k ≡ Some own → AreRowsAt fitted k own) (sym pushed)
          (all_more (AreRowsAt fitted) c.loop-number.rows.items c.loop-number.number c.in_ok-own.own c.loop-number.invariant.1 c.loop-number.invariant.2 c.in_ok-own.ensures),
    )
