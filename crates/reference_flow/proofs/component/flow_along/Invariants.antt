use Rattle.std.proofs.Common.{map, take}
use Rattle.fir_tree.specs.declared.part.Part.{Part}
use Rattle.reference_flow.specs.Flows.{suffix_step, named}
use Rattle.reference_flow.specs.Reached.{Means}
use Rattle.reference_flow.proofs.component.flow_along.Given as goal

abbrev pub invariant-loop-suffix : goal.invariant-loop-suffix
invariant-loop-suffix l = (part : Part) → Means l.start part → Means l.reached (named (map suffix_step (take l.suffix-index l.suffixes)) part)
