-- Circuits that the checks let pass: what the contracts of the checks of names, types and widths say of one.
use Rattle.std.specs.Prelude.{◌≡◌, true}
use Rattle.place_text.specs.First.{HasNone}
use Rattle.fir_tree.specs.declared.scope.Fitted.{Fitted}
use Rattle.fir_names.specs.Scopes.{IsScope}
use Rattle.fir_names.specs.Faults.{IsFault as IsNameFault}
use Rattle.type_check.specs.Faults.{IsFault as IsTypeFault}
use Rattle.width_fit.specs.Fitting.{IsFit}
use Rattle.fitted_laws.specs.Shaped.{is_shaped_circuit}

-- Operations have their operands, names and types have no fault, and the least widths have none: the types are those that they give.
pub record IsAccepted (fitted : Fitted) : Type 0 where
  pub shaped : is_shaped_circuit fitted.checked.resolved ≡ true
  pub scope : IsScope fitted.checked.resolved fitted.checked.scope
  pub names : HasNone (IsNameFault fitted.checked.resolved)
  pub types : HasNone (IsTypeFault fitted.checked.resolved)
  pub fit : IsFit fitted.checked fitted
