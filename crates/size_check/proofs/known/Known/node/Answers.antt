use Rattle.std.proofs.Common.{◌∙◌, ap}
use Rattle.std.proofs.Math.Logic.{∥∥₁_map}
use Rattle.size_check.proofs.known.Known.node.Goals as goal

pub returns-clause-typ : goal.returns-clause-typ
returns-clause-typ c = c.in_ok-known.ensures.typ ∙ ap (λ w. w.typ) c.weigh-reached.ensures.weight

pub returns-clause-measured : goal.returns-clause-measured
returns-clause-measured c = λ texts all. ∥∥₁_map (c.weigh-reached.ensures.ways texts all) (c.in_ok-known.ensures.ways texts)
