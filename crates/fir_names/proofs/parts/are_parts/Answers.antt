use Rattle.std.proofs.Common.{rules}
use Rattle.fir_names.proofs.Heads.{parts_are}
use Rattle.fir_names.proofs.parts.are_parts.Goals as goal

pub returns : goal.returns
returns c t = parts_are (c.all_near.ensures (search rules)) (c.all_near-2.ensures (search rules)) (c.all_fall.ensures t)
