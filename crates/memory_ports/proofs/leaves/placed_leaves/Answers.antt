use Rattle.std.proofs.Common.{◌≡◌, ◌<◌, length, Some, slice_get, refl, ◌∙◌, arith}
use Rattle.std.proofs.lemmas.Grind.{common_steps}
use Rattle.std.proofs.lemmas.Option.{slice_get_read}
use Rattle.memory_ports.specs.Placing.{part_of, parts_of}
use Rattle.memory_ports.proofs.Placements.{part_there, counts_next, leaves_next}
use Rattle.memory_ports.proofs.leaves.placed_leaves.Goals as goal

pub loop-number-preserved : goal.loop-number-preserved
loop-number-preserved c =
    let below : c.loop-number.number < length c.args.shown.now = omega (arith, c.loop-number-test.true, c.requires) in
    let leaf_there : slice_get c.args.leaves.now c.loop-number.number ≡ Some c.index-leaves-number.result = slice_get_read c.args.leaves.now _ c.loop-number.number c.index-leaves-number.result refl c.loop-number-test.true c.index-leaves-number.is in
    let shown_there : slice_get c.args.shown.now c.loop-number.number ≡ Some c.index-shown-number.result = slice_get_read c.args.shown.now _ c.loop-number.number c.index-shown-number.result refl below c.index-shown-number.is in
    let part : slice_get (parts_of c.args.leaves.now c.args.shown.now) c.loop-number.number ≡ Some (part_of c.index-leaves-number.result.role c.index-shown-number.result) =
    part_there c.args.leaves.now c.args.shown.now c.loop-number.number c.index-leaves-number.result c.index-shown-number.result leaf_there shown_there in
    record {
      counted = grind (arith, common_steps, c.in_ok-push.ensures.ok, c.loop-number.invariant.counted);
      counts = counts_next (parts_of c.args.leaves.now c.args.shown.now) c.loop-number.number _ _ part (c.in_ok-role.ensures.counts _ c.loop-number.invariant.counts);
      are = leaves_next c.args.leaves.now c.args.shown.now c.loop-number.placed _ c.loop-number.number c.index-leaves-number.result _ c.in_ok-one.one c.loop-number.invariant.counted leaf_there part
          c.in_ok-one.ensures.leaf (c.in_ok-one.ensures.role ∙ c.in_ok-role.ensures.role _ c.loop-number.invariant.counts) c.in_ok-push.ensures.ok c.loop-number.invariant.are;
    }
