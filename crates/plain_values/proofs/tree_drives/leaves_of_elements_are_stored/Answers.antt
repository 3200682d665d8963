use Rattle.plain_values.proofs.Storing.{all_stored}
use Rattle.plain_values.proofs.tree_drives.leaves_of_elements_are_stored.Goals as goal

pub returns : goal.returns
returns c = all_stored
