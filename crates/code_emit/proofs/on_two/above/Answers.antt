use Rattle.std.proofs.Common.{arith}
use Rattle.code_emit.proofs.Twos.{cat_operates}
use Rattle.code_emit.proofs.on_two.above.Goals as goal

pub returns : goal.returns
returns c = λ params width few kind h. cat_operates c.args.x c.args.y c.requires.first c.requires.second params kind width few (omega (arith, c.if-y-ge64.false)) h
