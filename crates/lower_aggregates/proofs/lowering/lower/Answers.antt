use Rattle.std.proofs.Common.{map, subst, ap, ◌∙◌}
use Rattle.fir_tree.specs.declared.circuit.Circuit.{Circuit}
use Rattle.lower_aggregates.specs.Circuits.{IsPlaced}
use Rattle.lower_aggregates.proofs.Circuits.{placed_known, placed_means, all_short}
use Rattle.lower_aggregates.proofs.lowering.lower.Goals as goal

pub number_of-main-requires : goal.number_of-main-requires
number_of-main-requires c =
    rw c.get-circuit.ensures (placed_known c.args.fitted.now.checked.resolved c.in_ok-numbers.numbers.entries (subst (λ l. IsPlaced (map (λ m. m.name) l) c.in_ok-numbers.numbers.entries) (c.as_slice.ensures ∙ ap (λ (x : Circuit). x.modules) c.get-circuit.ensures) c.in_ok-numbers.ensures)
    c.args.fitted.now.checked.resolved.main.id c.requires.scope.main c.requires.scope.is_main)

pub returns-clause-lowered : goal.returns-clause-lowered
returns-clause-lowered c = record {
  main = placed_means c.args.fitted.now.checked.resolved c.in_ok-numbers.numbers.entries
      (subst (λ l. IsPlaced (map (λ m. m.name) l) c.in_ok-numbers.numbers.entries) (c.as_slice.ensures ∙ ap (λ (x : Circuit). x.modules) c.get-circuit.ensures) c.in_ok-numbers.ensures) c.args.fitted.now.checked.resolved.main.id c.number_of-main.result (rw c.get-circuit.ensures at c.number_of-main.ensures);
  counted = c.in_ok-modules.ensures.counted;
  modules = λ k m g e reached at. (c.in_ok-modules.ensures.made k g at).lowered m e reached;
}

pub returns-clause-numbered : goal.returns-clause-numbered
returns-clause-numbered c = all_short c.args.fitted.now c.in_ok-modules.modules c.in_ok-modules.ensures.made
