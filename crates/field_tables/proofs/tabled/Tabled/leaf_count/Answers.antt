use Rattle.std.proofs.Common.{◌∙◌, ◌*◌, ◌-◌, ◌^◌, min, ap, sym}
use Rattle.fir_types.proofs.Runs.{counted_on, at_most}
use Rattle.field_tables.proofs.Parts.{known_element, known_leaves}
use Rattle.field_tables.proofs.tabled.Tabled.leaf_count.Goals as goal

pub loop-inside-preserved : goal.loop-inside-preserved
loop-inside-preserved c =
    let inside = c.loop-inside.inside.now in
    let at = c.in-Vector.is in
    rw (c.get-inside.ensures) (
      counted_on c.args.self.typ.now inside _ c.loop-inside.factor c.in-Vector.length c.saturating_mul-factor.result _ at c.loop-inside.invariant.0 c.saturating_mul-factor.ensures,
      at_most _ _ c.saturating_mul-factor.result c.saturating_mul-factor.ensures,
      known_element inside c.in-Some.table.now c.in-Vector.element c.in-Vector.length at c.loop-inside.invariant.2,
    )

pub returns : goal.returns
returns c =
    c.saturating_mul.ensures
    ∙ ap (λ n. min (c.loop-inside.factor * n) (2 ^ 128 - 1)) (sym (known_leaves c.loop-inside.inside.now c.in-Some.table.now c.in_default-shape.not-Vector c.loop-inside.invariant.2))
    ∙ sym c.loop-inside.invariant.0
