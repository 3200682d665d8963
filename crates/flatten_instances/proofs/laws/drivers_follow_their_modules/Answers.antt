use Rattle.flatten_instances.proofs.Uniqueness.{value_of_flat, mentions_of_flat}
use Rattle.flatten_instances.proofs.laws.drivers_follow_their_modules.Goals as goal

pub returns-clause-value : goal.returns-clause-value
returns-clause-value c = value_of_flat

pub returns-clause-mentions : goal.returns-clause-mentions
returns-clause-mentions c = mentions_of_flat
