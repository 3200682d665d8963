use Rattle.plain_values.proofs.Storing.{held_nothing}
use Rattle.plain_values.proofs.tree_drives.nothing_held_is_zero.Goals as goal

pub returns : goal.returns
returns c = held_nothing
