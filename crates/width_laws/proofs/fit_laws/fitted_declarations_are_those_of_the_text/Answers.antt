use Rattle.width_laws.proofs.Modules.{declarations_filled, declarations_named}
use Rattle.width_laws.proofs.fit_laws.fitted_declarations_are_those_of_the_text.Goals as goal

pub returns-clause-names : goal.returns-clause-names
returns-clause-names c = declarations_named

pub returns-clause-types : goal.returns-clause-types
returns-clause-types c = declarations_filled
