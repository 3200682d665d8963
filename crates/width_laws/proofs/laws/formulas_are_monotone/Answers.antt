use Rattle.width_rules.proofs.Monotone.{width_is_width, width_grows}
use Rattle.width_laws.proofs.laws.formulas_are_monotone.Goals as goal

pub returns-clause-width : goal.returns-clause-width
returns-clause-width c = width_is_width

pub returns-clause-grows : goal.returns-clause-grows
returns-clause-grows c = width_grows
