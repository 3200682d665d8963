use Rattle.std.proofs.Common.{◌≡◌, take}
use Rattle.std.specs.List.{flat_map}
use Rattle.std.specs.declared.ops.ControlFlow.TheVariants.{Continue}
use Rattle.reference_flow.specs.Counting.{passed}
use Rattle.reference_flow.specs.Flows.{module_flows}
use Rattle.reference_flow.proofs.flows.pass_modules.Given as goal

abbrev pub invariant-loop-holder : goal.invariant-loop-holder
invariant-loop-holder l = passed (flat_map (module_flows l.modules) (take l.holder-index l.modules)) l.fn.left ≡ Continue l.left
