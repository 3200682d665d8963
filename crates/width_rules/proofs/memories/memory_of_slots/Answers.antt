use Rattle.std.proofs.Common.{rules, ap, ◌∙◌, sym, ◌&&◌}
use Rattle.std.specs.List.{list_any}
use Rattle.std.proofs.lemmas.Result.{IfOk-weaker}
use Rattle.fir_tree.specs.Parts.{source_of}
use Rattle.width_rules.specs.Targets.{is_port, has_variable}
use Rattle.width_rules.proofs.Cuts.{memory_joined, memory_varies}
use Rattle.width_rules.proofs.Walking.{component_is}
use Rattle.width_rules.proofs.memories.memory_of_slots.Goals as goal

pub returns : goal.returns
returns c =
    let slots = memory_joined c.args.memory.now c.as_slice-lines.result.now c.element_of-element.result.now c.depth_of.result c.args.slots c.in_ok-widths.widths c.in_ok-lists.lists
    c.as_slice-lines.ensures (search rules) (search rules) (search rules) (search rules) in
    IfOk-weaker c.of_lists.result _ _ (λ component is. component_is component (ap source_of c.in_ok-known.ensures.typ) slots is) c.of_lists.ensures

pub of_lists-requires : goal.of_lists-requires
of_lists-requires c =
    c.may_vary-varies.ensures ∙ ap (λ s. list_any is_port c.as_slice-lines.result.now && has_variable s) c.as_slice.ensures
    ∙ sym (memory_varies c.as_slice-lines.result.now c.element_of-element.result.now c.depth_of.result c.args.slots c.in_ok-widths.widths c.in_ok-lists.lists (search rules) (search rules))
