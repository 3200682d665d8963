-- References that are passed on the way to one of them.
use Rattle.std.specs.Prelude.{ℕ, zero, suc, List, [], ◌∷◌}
use Rattle.std.specs.declared.ops.ControlFlow.{ControlFlow}
use Rattle.std.specs.declared.ops.ControlFlow.TheVariants.{Continue, Break}
use Rattle.fir_tree.specs.declared.expr.Suffix.{Suffix}
use Rattle.fir_tree.specs.declared.part.Flow.{Flow}
use Rattle.reference_flow.specs.Flows.{Flows, suffix_step}

-- The flow of the reference behind so many others, or how many are left to be passed behind the list.
abbrev pub passed : List Flow → ℕ → ControlFlow Flow ℕ
passed [] left = Continue left
passed (flow ∷ flows) zero = Break flow
passed (flow ∷ flows) (suc left) = passed flows left

-- the flows of the references in a suffix
abbrev pub suffix_flows : Suffix → Flows
suffix_flows suffix = (suffix_step suffix).flows
