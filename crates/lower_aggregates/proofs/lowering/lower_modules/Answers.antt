use Rattle.std.proofs.Common.{rules, ◌≡◌, ◌∙◌, ◌<◌, ap, sym, subst, drop, get_or, length, List, arith}
use Rattle.std.proofs.lemmas.Grind.{common_steps}
use Rattle.fir_tree.specs.declared.circuit.Circuit.{Circuit}
use Rattle.fir_tree.specs.declared.circuit.Module.{Module}
use Rattle.lower_aggregates.specs.Circuits.{AreMade}
use Rattle.lower_aggregates.proofs.Circuits.{stands_next, made_more, long_more}
use Rattle.lower_aggregates.proofs.lowering.lower_modules.Goals as goal

pub loop-number-preserved : goal.loop-number-preserved
loop-number-preserved c =
    let below : c.loop-number.number < length c.args.fitted.now.checked.resolved.modules = search rules in
    let is : c.index-holders-number.result ≡ get_or c.args.fitted.now.checked.resolved.modules c.loop-number.number c.index-holders-number.result =
    c.index-holders-number.is ∙ ap (λ (l : List Module). get_or l c.loop-number.number c.index-holders-number.result) (c.as_slice-holders.ensures ∙ ap (λ (x : Circuit). x.modules) c.get.ensures) in
    let later : c.unwrap_or-rest.result.now ≡ drop c.in_ok-count.count c.loop-number.rest.now = grind (arith, common_steps) in (
      stands_next c.args.fitted.now c.loop-number.number c.in_ok-count.count c.index-holders-number.result c.loop-number.rest.now c.unwrap_or-rest.result.now below is c.loop-number.invariant.0 c.in_ok-count.ensures later,
      long_more c.loop-number.modules c.push.new.self c.loop-number.number c.in_ok-module.module c.loop-number.invariant.1 (search rules),
      subst (AreMade c.args.fitted.now) (sym (search rules)) (made_more c.args.fitted.now c.loop-number.modules c.loop-number.number c.in_ok-module.module c.loop-number.invariant.1 c.loop-number.invariant.2 c.in_ok-module.ensures),
    )
