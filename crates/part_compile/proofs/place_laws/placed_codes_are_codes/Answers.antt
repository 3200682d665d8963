use Rattle.part_compile.proofs.Placed.{placed_is_code}
use Rattle.part_compile.proofs.place_laws.placed_codes_are_codes.Goals as goal

pub returns : goal.returns
returns c = placed_is_code
