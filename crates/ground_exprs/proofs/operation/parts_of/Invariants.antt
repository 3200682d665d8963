use Rattle.std.proofs.Common.{◌≡◌, map}
use Rattle.prim_ops.specs.declared.widths.Width.TheVariants.{Bits}
use Rattle.ground_exprs.proofs.operation.parts_of.Given as goal

abbrev pub invariant-loop-operand : goal.invariant-loop-operand
invariant-loop-operand l = record {
  exprs : l.exprs ≡ map (λ o. o.expr) l.yielded;
  kinds : l.kinds ≡ map (λ o. o.kind) l.yielded;
  widths : l.widths ≡ map (λ o. Bits o.width) l.yielded;
}
