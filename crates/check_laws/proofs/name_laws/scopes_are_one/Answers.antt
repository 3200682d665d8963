use Rattle.check_laws.proofs.Agreeing.{targets_once, scopes_once}
use Rattle.check_laws.proofs.name_laws.scopes_are_one.Goals as goal

pub returns-clause-targets : goal.returns-clause-targets
returns-clause-targets c = targets_once

pub returns-clause-same : goal.returns-clause-same
returns-clause-same c = scopes_once
