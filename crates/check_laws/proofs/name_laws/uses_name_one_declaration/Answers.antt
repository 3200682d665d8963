use Rattle.check_laws.proofs.References.{uses_are_references}
use Rattle.check_laws.proofs.Meaning.{means_one}
use Rattle.check_laws.proofs.name_laws.uses_name_one_declaration.Goals as goal

pub returns-clause-references : goal.returns-clause-references
returns-clause-references c = uses_are_references

pub returns-clause-one : goal.returns-clause-one
returns-clause-one c = means_one
