use Rattle.std.proofs.Common.{◌∙◌, ap}
use Rattle.ground_net.specs.declared.ground.Ground.TheVariants.{Fit}
use Rattle.ground_exprs.proofs.Fits.{empty_there, plain_leaf, fitted_leaf}
use Rattle.ground_exprs.proofs.part_sources.source_of.Goals as goal

pub returns-then-is_empty : goal.returns-then-is_empty
returns-then-is_empty c =
    plain_leaf c.args.picks.now c.args.number c.args.leaf.now _ (empty_there c.args.picks.now c.if-is_empty.ensures) c.kind_of-kind.ensures c.width_of-width.ensures.value c.in_ok-expr.ensures

pub returns : goal.returns
returns c = fitted_leaf c.args.picks.now c.args.number c.args.leaf.now c.in_ok-expr.expr _ (ap (Fit c.kind_of-kind.result c.width_of-width.result) (c.from_vec.ensures ∙ c.in_ok-items.ensures.items))
    c.kind_of-kind.ensures c.width_of-width.ensures.value c.in_ok-expr.ensures
