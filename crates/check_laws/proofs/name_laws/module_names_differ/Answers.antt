use Rattle.check_laws.proofs.Meaning.{modules_differ}
use Rattle.check_laws.proofs.name_laws.module_names_differ.Goals as goal

pub returns : goal.returns
returns c = modules_differ
