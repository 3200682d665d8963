use Rattle.std.proofs.Common.{rules, arith, ◌≡◌, ap, ◌∙◌, refl, map, not, ◌&&◌}
use Rattle.std.specs.Prelude.{nat_lt}
use Rattle.std.specs.Bool.{beq}
use Rattle.std.proofs.lemmas.Grind.{common_steps}
use Rattle.fir_types.proofs.Runs.{element_falls}
use Rattle.reset_search.specs.Grounds.{grounds}
use Rattle.reset_resolution.specs.Layers.{seen}
use Rattle.reset_resolution.proofs.Types.{grounds-bundle, grounds-vector, seen_within, grounds_more}
use Rattle.reset_resolution.proofs.grounds.+grounds.Goals as goal

pub push_field_grounds-loop-field-preserved : goal.push_field_grounds-loop-field-preserved
push_field_grounds-loop-field-preserved t c =
    grounds_more c.args.fields.now c.loop-field.field-index c.field-item.result c.args.flip c.args.leaf (not (beq c.args.flip c.field-item.result.flip))
    c.args.found.now.items c.loop-field.found.items c.push_grounds.new.found.items (search rules) (search rules) refl c.loop-field.invariant c.in_ok-push_grounds.ensures

pub push_grounds-returns-in-Bundle : goal.push_grounds-returns-in-Bundle
push_grounds-returns-in-Bundle t c =
    let e = grounds-bundle c.loop-inside.inside.now c.in-Bundle.fields c.in-Bundle.is in
    let h = c.loop-inside.invariant.0 in
    let k = c.loop-inside.invariant.1 in
    grind (arith, common_steps, e, h, k)

pub push_grounds-loop-inside-preserved : goal.push_grounds-loop-inside-preserved
push_grounds-loop-inside-preserved t c =
    let inside = c.loop-inside.inside.now in
    let at = c.in-Vector.is in
    let turns : c.if-leaf.leaf ≡ (c.loop-inside.leaf && nat_lt 0 c.in-Vector.length) = grind (arith, common_steps) in
    rw (c.get-inside.ensures) (
      c.loop-inside.invariant.0 ∙ ap (map (seen c.args.flip c.loop-inside.leaf)) (grounds-vector inside _ _ at)
          ∙ seen_within c.args.flip c.loop-inside.leaf c.in-Vector.length c.if-leaf.leaf (grounds c.in-Vector.element) turns,
      c.loop-inside.invariant.1,
      element_falls inside _ _ _ at c.loop-inside.invariant.2,
    )
