use Rattle.std.proofs.Common.{rules, ◌≡◌, ◌∙◌, ap, subst, get_or, slice_get, Some, true, List}
use Rattle.fir_tree.specs.declared.circuit.Circuit.{Circuit}
use Rattle.fir_tree.specs.declared.circuit.Module.{Module}
use Rattle.lower_aggregates.proofs.Circuits.{lowerable, one_lowerable, enough}
use Rattle.lower_aggregates.proofs.lowering.lower_at.Goals as goal

pub lower_module-requires-clause-counted : goal.lower_module-requires-clause-counted
lower_module-requires-clause-counted c =
    enough c.args.fitted.now c.args.number c.index-as_slice-number.result c.args.types.now c.requires.within
    (c.index-as_slice-number.is ∙ ap (λ (l : List Module). get_or l c.args.number c.index-as_slice-number.result) (c.as_slice-2.ensures ∙ ap (λ (x : Circuit). x.modules) c.get-circuit.ensures)) c.requires.stands
    (c.pieces_are_components.ensures.counted c.index-as_slice-number.result)

pub lower_module-requires-clause-stands : goal.lower_module-requires-clause-stands
lower_module-requires-clause-stands c =
    let flag : c.is_reached.result ≡ true = search rules in
    let reached : slice_get c.args.fitted.now.checked.scope.reached c.args.number ≡ Some true = subst (λ l. slice_get l c.args.number ≡ Some true) c.as_slice.ensures (c.is_reached.ensures.0 flag) in
    let is : c.index-as_slice-number.result ≡ get_or c.args.fitted.now.checked.resolved.modules c.args.number c.index-as_slice-number.result =
    c.index-as_slice-number.is ∙ ap (λ (l : List Module). get_or l c.args.number c.index-as_slice-number.result) (c.as_slice-2.ensures ∙ ap (λ (x : Circuit). x.modules) c.get-circuit.ensures) in
    let one = one_lowerable c.reached_modules_stand_at_paths.ensures.reached c.modules_are_named.ensures.numbered c.args.fitted.now c.requires.formed c.args.numbers.now.entries c.requires.placed c.args.number
    c.index-as_slice-number.result c.args.types.now c.requires.within is c.requires.stands reached in
    (c.args.fitted.now.checked.resolved, c.args.fitted.now.checked.scope, one.0, one.1)

pub returns : goal.returns
returns c =
    let made = rw c.get-circuit.ensures at c.in_ok-made.ensures in
    let is : c.index-as_slice-number.result ≡ get_or c.args.fitted.now.checked.resolved.modules c.args.number c.index-as_slice-number.result =
    c.index-as_slice-number.is ∙ ap (λ (l : List Module). get_or l c.args.number c.index-as_slice-number.result) (c.as_slice-2.ensures ∙ ap (λ (x : Circuit). x.modules) c.get-circuit.ensures) in
    record {
      short = search rules;
      lowered = λ m e reached. made c.args.fitted.now.checked.resolved c.args.fitted.now.checked.scope m
          (lowerable c.reached_modules_stand_at_paths.ensures.reached c.modules_are_named.ensures.numbered c.args.fitted.now c.requires.formed c.args.numbers.now.entries c.requires.placed c.args.number
          c.index-as_slice-number.result c.args.types.now c.requires.within is c.requires.stands reached m e);
    }
