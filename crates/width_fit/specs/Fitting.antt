-- A circuit with fitted types.
use Rattle.std.specs.Prelude.{◌≡◌, List, length}
use Rattle.place_text.specs.First.{HasNone}
use Rattle.prim_ops.specs.declared.widths.Width.{Width}
use Rattle.fir_tree.specs.declared.circuit.Circuit.{Circuit}
use Rattle.fir_tree.specs.declared.scope.Checked.{Checked}
use Rattle.fir_tree.specs.declared.scope.Fitted.{Fitted}
use Rattle.fir_names.specs.Scopes.{IsScope}
use Rattle.type_check.specs.Statements.{types_of}
use Rattle.width_rules.specs.Circuits.{rules_in}
use Rattle.width_rules.specs.Solutions.{IsLeast}
use Rattle.width_fit.specs.Judging.{told_of}
use Rattle.width_fit.specs.Faults.{IsFault}

-- the circuit with the types that these widths give
pub record IsFitted (checked : Checked) (widths : List Width) (fitted : Fitted) : Type 0 where
  pub checked_is : fitted.checked ≡ checked
  pub declared : fitted.declared ≡ (told_of checked widths).declared
  pub nodes : fitted.nodes ≡ (told_of checked widths).nodes

-- the least widths that meet the rules of a circuit
abbrev pub AreLeast : Circuit → List Width → Type 0
AreLeast circuit widths = IsLeast (rules_in circuit).rules (length (rules_in circuit).places) widths

-- a circuit with a scope of its names and the types of its expressions, and the least widths that meet its rules
pub record IsSolved (circuit : Circuit) (checked : Checked) (widths : List Width) : Type 0 where
  pub circuit_is : checked.resolved ≡ circuit
  pub scope : IsScope circuit checked.scope
  pub types : checked.types ≡ types_of circuit
  pub least : AreLeast circuit widths

-- the least widths have no fault, and the fitted circuit has the types that they give
pub record IsFit (checked : Checked) (fitted : Fitted) : Type 0 where
  pub widths : List Width
  pub least : AreLeast checked.resolved widths
  pub fitted_is : IsFitted checked widths fitted
  pub none : HasNone (IsFault checked widths)

-- the circuit with the types that its least widths give
pub record IsFittedCircuit (circuit : Circuit) (fitted : Fitted) : Type 0 where
  pub widths : List Width
  pub solved : IsSolved circuit fitted.checked widths
  pub fitted_is : IsFitted fitted.checked widths fitted
