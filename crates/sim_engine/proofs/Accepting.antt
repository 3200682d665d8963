-- What the stages up to the widths let pass is well formed: its least widths are those of the judgement, which have no fault. Operations and
-- names are judged in the circuit as it is spelled, and are the same in the tree with its `Reset`s resolved.
use Rattle.std.proofs.Common.{ℕ, List, ◌∙◌}
use Rattle.fir_tree.specs.declared.scope.Fitted.{Fitted}
use Rattle.circuit_laws.specs.WellFormed.{IsWellFormed}
use Rattle.fitted_laws.specs.Accepted.{IsAccepted}
use Rattle.fitted_laws.proofs.Spelled.{spelled_shaped}
use Rattle.fitted_laws.proofs.WellFormed.{accepted_well_formed}
use Rattle.reset_names.proofs.Marking.{same_names, same_shape}
use Rattle.reset_names.proofs.Crossing.{none_there}
use Rattle.sim_engine.specs.Stages.{IsFitted}
use Rattle.sim_engine.proofs.Solving.{same_fault}

pub accepted_circuit : (text : List ℕ) (fitted : Fitted) → IsFitted text fitted → IsAccepted fitted
accepted_circuit text fitted fits =
    let widthed = fits.widthed in
    let typed = widthed.sized.typed in
    let circuit = fitted.checked.circuit in
    let tree = fitted.checked.resolved in
    record {
      shaped = same_shape circuit tree typed.resolved ∙ spelled_shaped text typed.named.parsed.list circuit typed.named.parsed.spelled;
      scope = fits.types.solved.scope;
      names = none_there circuit tree (same_names circuit tree typed.resolved) typed.named.none;
      types = typed.none;
      fit = record {
        widths = fits.types.widths;
        least = fits.types.solved.least;
        fitted_is = fits.types.fitted_is;
        none = λ given h. widthed.none given
            (same_fault fitted.checked.resolved fitted.checked widthed.checked fits.types.widths widthed.widths given fits.types.solved widthed.solved h);
      };
    }

pub fitted_well_formed : (text : List ℕ) (fitted : Fitted) → IsFitted text fitted → IsWellFormed fitted
fitted_well_formed text fitted fits = accepted_well_formed fitted (accepted_circuit text fitted fits)
