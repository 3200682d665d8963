use Rattle.std.proofs.Common.{◌≡◌, sym, ap, ◌∙◌, ◌-◌, arith}
use Rattle.std.specs.List.{flat_map}
use Rattle.std.specs.declared.ops.ControlFlow.TheVariants.{Continue}
use Rattle.std.proofs.lemmas.Grind.{common_steps}
use Rattle.std.proofs.lemmas.List.Folds.{flat_map-map}
use Rattle.fir_tree.specs.declared.expr.Expr.{the_lemmas}
use Rattle.reference_flow.specs.Flows.{components_of, expr_flows}
use Rattle.reference_flow.specs.Counting.{passed, suffix_flows}
use Rattle.reference_flow.proofs.Passing.{passed-front, one_more, broken_here}
use Rattle.reference_flow.proofs.Sentences.{flows-ref, flows-index, flows-no_index}
use Rattle.reference_flow.proofs.Stepping.{at_end}
use Rattle.reference_flow.proofs.flows.+pass_expr.Goals as goal
use Rattle.reference_flow.proofs.flows.+pass_expr.Goals.{in-Index+in_ok-left-in-Index, in-Field, in-Field-2}

pub returns-in_err-left-in-Index : goal.returns-in_err-left-in-Index
returns-in_err-left-in-Index t c =
    let components = components_of c.args.modules.now c.args.holder.now in
    let index = flows-index components c.suffix-item.result _ _ c.in-Index.is in
    c.from_residual.ensures
    ∙ sym (ap (λ fs. passed fs c.args.left) (flows-ref components c.args.expr.now c.in-Ref.name c.in-Ref.suffixes c.in-Ref.is)
    ∙ passed-front _ (flat_map (λ s. suffix_flows s components) c.in-Ref.suffixes) c.args.left c.if-left-eq0.false
    ∙ (rw c.as_slice-suffixes.ensures at (broken_here (λ s. suffix_flows s components) c.as_slice-suffixes.result.now c.loop-suffix.suffix-index c.suffix-item.result (c.args.left - 1)
    c.loop-suffix.left _ c.loop-suffix-test.true c.suffix-item.is c.loop-suffix.invariant (ap (λ fs. passed fs c.loop-suffix.left) index ∙ sym c.in_err-left-in-Index.ensures))))

pub loop-suffix-preserved : goal.loop-suffix-preserved
loop-suffix-preserved t c =
    let components = components_of c.args.modules.now c.args.holder.now in
    one_more (λ s. suffix_flows s components) c.as_slice-suffixes.result.now c.loop-suffix.suffix-index c.suffix-item.result (c.args.left - 1) c.loop-suffix.left _
    c.loop-suffix-test.true c.suffix-item.is c.loop-suffix.invariant (elim c.match-suffix.branch [
      | in-Index+in_ok-left-in-Index w ↦
          ap (λ fs. passed fs c.loop-suffix.left) (flows-index components c.suffix-item.result _ _ w.in-Index.is) ∙ sym w.in_ok-left-in-Index.ensures ∙ ap Continue (sym w.left-is)
      | in-Field w ↦ ap (λ fs. passed fs c.loop-suffix.left) (flows-no_index components c.suffix-item.result w.in-Field.is) ∙ ap Continue (sym w.left-is)
      | in-Field-2 w ↦ ap (λ fs. passed fs c.loop-suffix.left) (flows-no_index components c.suffix-item.result w.in-Field.is) ∙ ap Continue (sym w.left-is)
    ])

pub returns-after-loop-suffix : goal.returns-after-loop-suffix
returns-after-loop-suffix t c =
    let components = components_of c.args.modules.now c.args.holder.now in
    sym (ap (λ fs. passed fs c.args.left) (flows-ref components c.args.expr.now c.in-Ref.name c.in-Ref.suffixes c.in-Ref.is)
    ∙ passed-front _ (flat_map (λ s. suffix_flows s components) c.in-Ref.suffixes) c.args.left c.if-left-eq0.false
    ∙ (rw c.as_slice-suffixes.ensures at (at_end (λ xs. passed (flat_map (λ s. suffix_flows s components) xs) (c.args.left - 1) ≡ Continue c.loop-suffix.left)
    c.as_slice-suffixes.result.now c.loop-suffix.suffix-index c.loop-suffix-test.false c.loop-suffix.invariant)))

pub returns-in_err-left-in-Prim : goal.returns-in_err-left-in-Prim
returns-in_err-left-in-Prim t c =
    let components = components_of c.args.modules.now c.args.holder.now in
    let whole : expr_flows c.args.expr.now components ≡ flat_map (λ e. expr_flows e components) c.in-Prim.operands = grind (arith, common_steps, the_lemmas, flat_map-map) in
    c.from_residual-in_err-left-in-Prim.ensures
    ∙ sym (ap (λ fs. passed fs c.args.left) whole
    ∙ (rw c.as_slice-operand-items.ensures at (broken_here (λ e. expr_flows e components) c.as_slice-operand-items.result.now c.loop-operand.operand-index c.operand-item.result
    c.args.left c.loop-operand.left _ c.loop-operand-test.true c.operand-item.is c.loop-operand.invariant (sym c.in_err-left-in-Prim.ensures))))

pub loop-operand-preserved : goal.loop-operand-preserved
loop-operand-preserved t c =
    one_more _ c.as_slice-operand-items.result.now c.loop-operand.operand-index c.operand-item.result c.args.left c.loop-operand.left _
    c.loop-operand-test.true c.operand-item.is c.loop-operand.invariant (sym c.in_ok-left-in-Prim.ensures)

pub returns-after-loop-operand : goal.returns-after-loop-operand
returns-after-loop-operand t c =
    let components = components_of c.args.modules.now c.args.holder.now in
    let whole : expr_flows c.args.expr.now components ≡ flat_map (λ e. expr_flows e components) c.in-Prim.operands = grind (arith, common_steps, the_lemmas, flat_map-map) in
    sym (ap (λ fs. passed fs c.args.left) whole
    ∙ (rw c.as_slice-operand-items.ensures at (at_end (λ xs. passed (flat_map (λ e. expr_flows e components) xs) c.args.left ≡ Continue c.loop-operand.left)
    c.as_slice-operand-items.result.now c.loop-operand.operand-index c.loop-operand-test.false c.loop-operand.invariant)))
