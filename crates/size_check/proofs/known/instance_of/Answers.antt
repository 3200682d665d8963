use Rattle.std.proofs.lemmas.Result.{IfOk-weaker}
use Rattle.std.proofs.Math.Logic.{∥∥₁_map}
use Rattle.size_check.proofs.known.instance_of.Goals as goal

pub returns-in-Some-clause-ways : goal.returns-in-Some-clause-ways
returns-in-Some-clause-ways c =
    IfOk-weaker c.share.result _ _ (λ known h. ∥∥₁_map c.in-Some.ensures.ways (h c.args.modules.now.names.now)) c.share.ensures.ways
