-- The widths that a rule can be of: those that are variables. Where a connect finds none on either side it gives no rule.
use Rattle.std.specs.Prelude.{Bool, true, false, List}
use Rattle.std.specs.List.{list_any}
use Rattle.fir_types.specs.declared.memory.MemLine.{MemLine}
use Rattle.fir_types.specs.declared.memory.MemLine.TheVariants as line
use Rattle.width_rules.specs.declared.slot.Slot.{Slot}
use Rattle.width_rules.specs.declared.slot.Slot.TheVariants as slot
use Rattle.width_rules.specs.declared.rule.Formula.{Formula}
use Rattle.width_rules.specs.declared.rule.Formula.TheVariants as formula

abbrev pub is_port : MemLine → Bool
is_port (line.MemPort at mode name) = true
is_port _ = false

abbrev pub is_variable : Slot → Bool
is_variable (slot.Fixed n) = false
is_variable (slot.Var x) = true

abbrev pub has_variable : List Slot → Bool
has_variable slots = list_any is_variable slots

abbrev pub is_target : Formula → Bool
is_target (formula.Var x) = true
is_target _ = false

abbrev pub has_target : List Formula → Bool
has_target formulas = list_any is_target formulas
