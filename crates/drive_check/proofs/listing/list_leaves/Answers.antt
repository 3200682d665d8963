use Rattle.std.proofs.Common.{arith}
use Rattle.std.proofs.lemmas.Grind.{common_steps}
use Rattle.fir_types.proofs.Walks.{from_the_whole}
use Rattle.drive_check.proofs.listing.list_leaves.Goals as goal

pub returns : goal.returns
returns c = grind (arith, common_steps, from_the_whole)
