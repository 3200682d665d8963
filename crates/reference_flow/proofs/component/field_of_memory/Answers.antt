use Rattle.std.proofs.Common.{◌≡◌, ◌==◌, find, refl, ap, rules, filter_map, None}
use Rattle.std.proofs.lemmas.Bool.{eq-eqb}
use Rattle.fir_types.specs.Bundles.{memory_of, port_field}
use Rattle.fir_types.specs.Memories.{element_of, depth_of}
use Rattle.fir_tree.specs.Parts.{source_of}
use Rattle.reference_flow.proofs.Stepping.{at_end, field-found, found_here, found_none_more, passes_no_port, passes_other_port}
use Rattle.reference_flow.proofs.component.field_of_memory.Goals as goal
use Rattle.reference_flow.proofs.component.field_of_memory.Goals.{in-MemPort+else-name-id, in_default}

pub returns-then-name-id : goal.returns-then-name-id
returns-then-name-id c = (
  c.in-MemPort.name.place,
  field-found (source_of (memory_of c.args.memory.now)) _ c.args.id _ refl
      (found_here (port_field (element_of c.args.memory.now) (depth_of c.args.memory.now)) (λ f. f.name.id == c.args.id) c.args.memory.now.lines c.loop-line.line-index
      c.line-item.result _ (search rules) (search rules) c.loop-line.invariant (ap (port_field (element_of c.args.memory.now) (depth_of c.args.memory.now)) c.in-MemPort.is)
      (eq-eqb _ _ c.if-name-id.true)),
)

pub loop-line-preserved : goal.loop-line-preserved
loop-line-preserved c =
    found_none_more (port_field (element_of c.args.memory.now) (depth_of c.args.memory.now)) (λ f. f.name.id == c.args.id) c.args.memory.now.lines c.loop-line.line-index
    c.line-item.result (search rules) (search rules) c.loop-line.invariant
    (elim c.match-line.branch [ in-MemPort+else-name-id w ↦ passes_other_port _ _ _ w.in-MemPort.is w.if-name-id.false | in_default w ↦ passes_no_port _ _ _ c.line-item.result w.in_default.not-MemPort ])

pub returns : goal.returns
returns c =
    field-found (source_of (memory_of c.args.memory.now)) _ c.args.id None refl
    (at_end (λ lines. find (λ f. f.name.id == c.args.id) (filter_map (port_field (element_of c.args.memory.now) (depth_of c.args.memory.now)) lines) ≡ None)
    c.args.memory.now.lines c.loop-line.line-index (rw c.as_slice-line-items.ensures at c.loop-line-test.false) c.loop-line.invariant)
