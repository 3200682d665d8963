use Rattle.std.proofs.Common.{[], ◌∷◌}
use Rattle.prim_ops.proofs.Fittings.{result_is}
use Rattle.net_run.proofs.evaluating.of_two.Goals as goal

pub returns : goal.returns
returns c = result_is c.args.prim (c.args.first ∷ c.args.second ∷ []) c.args.params.now c.value_of.result c.value_of.ensures
