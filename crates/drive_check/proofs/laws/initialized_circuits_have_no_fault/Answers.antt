use Rattle.drive_check.proofs.Deciding.{no_fault_covers, covered_has_none}
use Rattle.drive_check.proofs.laws.initialized_circuits_have_no_fault.Goals as goal

pub returns : goal.returns
returns c = λ fitted well. (
  λ none. no_fault_covers fitted (c.reached_modules_stand_at_paths.ensures.typed fitted well) none,
  λ init. covered_has_none fitted (c.reached_modules_stand_at_paths.ensures.reached fitted well) (c.components_are_named.ensures fitted well.names) init,
)
