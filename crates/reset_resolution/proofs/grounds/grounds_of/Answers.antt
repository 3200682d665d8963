use Rattle.std.proofs.Common.{arith}
use Rattle.std.proofs.lemmas.Grind.{common_steps}
use Rattle.reset_search.specs.Grounds.{grounds}
use Rattle.reset_resolution.proofs.Types.{seen_plain}
use Rattle.reset_resolution.proofs.grounds.grounds_of.Goals as goal

pub returns : goal.returns
returns c = let e = seen_plain (grounds c.args.typ.now) in grind (arith, common_steps, e)
