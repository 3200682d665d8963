use Rattle.std.proofs.Common.{◌∙◌, sym, ap, map, arith, option_map}
use Rattle.fir_meaning.specs.Components.{design_of, module_named}
use Rattle.drive_check.specs.Keys.{leaf_of_key}
use Rattle.plain_cycle.specs.Parts.{bares_held}
use Rattle.plain_run.proofs.Ports.{inputs_kept, flat_more, inputs_all}
use Rattle.plain_run.proofs.leaves.main_inputs.Goals as goal

pub loop-at-preserved : goal.loop-at-preserved
loop-at-preserved c =
    flat_more inputs_kept c.as_slice-declared.result.now c.in-Some.parts.types.now c.loop-at.at c.index-declared-at.result c.index-types-at.result (map leaf_of_key c.loop-at.inputs)
    (map leaf_of_key c.push_port.new.inputs) (omega arith) (omega arith) c.index-declared-at.is c.index-types-at.is c.in_ok-push_port.ensures c.loop-at.invariant

pub returns : goal.returns
returns c =
    let design = design_of c.args.fitted.now in
    inputs_all (module_named design design.main) c.as_slice-declared.result.now c.in-Some.parts.declared.items c.in-Some.parts.types.now c.loop-at.at c.as_slice-declared.ensures.value
    (ap (option_map bares_held) (sym c.in-Some.is) ∙ (rw c.get.ensures at c.in_ok-parts.ensures)) (omega arith) (map leaf_of_key c.loop-at.inputs) c.loop-at.invariant
