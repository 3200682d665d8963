use Rattle.std.proofs.Common.{[], ◌∷◌}
use Rattle.ground_net.specs.Shapes.{shape_of_row}
use Rattle.flat_code.specs.Fine.{location_shapes}
use Rattle.code_emit.proofs.Nesting.{some_inner}
use Rattle.code_emit.proofs.nested.nested_measure.Goals as goal

pub row_measure-between-requires : goal.row_measure-between-requires
row_measure-between-requires c =
    some_inner (λ s. shape_of_row c.args.outer.prim c.args.outer.params.now (s ∷ [])) (shape_of_row c.args.inner.prim c.args.inner.params.now (location_shapes c.args.locations.now)) c.requires
