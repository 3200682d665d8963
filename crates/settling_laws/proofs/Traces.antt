-- A well formed circuit without a loop has one trace.
use Rattle.std.proofs.Common.{◌≡◌, List, ℤ}
use Rattle.fir_tree.specs.declared.scope.Fitted.{Fitted}
use Rattle.fir_meaning.specs.Components.{design_of}
use Rattle.fir_meaning.specs.States.{State, Inputs, Trace}
use Rattle.fir_meaning.specs.Loops.{HasNoLoop}
use Rattle.fir_meaning.proofs.Settling.{state_itself}
use Rattle.fir_meaning.proofs.Nexts.{rows_same}
use Rattle.circuit_laws.specs.WellFormed.{IsWellFormed}
use Rattle.settling_laws.proofs.Listing.{has_leaves}
use Rattle.settling_laws.proofs.Reading.{takes_leaves}

pub one_trace : (fitted : Fitted) → IsWellFormed fitted → HasNoLoop (design_of fitted) → (s : State) (given : List Inputs) (rows other : List (List ℤ)) → Trace (design_of fitted) s given rows
    → Trace (design_of fitted) s given other → rows ≡ other
one_trace fitted well none s given rows other one two =
    let leaves = has_leaves fitted well in
    rows_same (design_of fitted) leaves.0 well.bundles none leaves.1 (takes_leaves fitted well) (state_itself (design_of fitted) s) one two
