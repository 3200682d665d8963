use Rattle.std.proofs.Common.{◌≡◌, ◌≢◌, ◌<◌, ◌≤◌, length, Some, slice_get, refl, sym, ◌∙◌, ap, arith}
use Rattle.std.proofs.lemmas.Grind.{common_steps}
use Rattle.std.proofs.lemmas.Option.{slice_get_read, slice_get_within}
use Rattle.memory_ports.proofs.Lists.{there_below}
use Rattle.memory_ports.proofs.Placements.{drivers_next}
use Rattle.memory_ports.proofs.drivers.placed_drivers.Goals as goal

pub loop-number-preserved : goal.loop-number-preserved
loop-number-preserved c =
    let leaf_there : slice_get c.args.flat.now.leaves c.loop-number.number ≡ Some c.leaf-item.result =
    slice_get_read c.args.flat.now.leaves _ c.loop-number.number c.leaf-item.result refl (rw c.as_slice-leaf-items.ensures at c.loop-number-test.true) (rw c.as_slice-leaf-items.ensures at c.leaf-item.is) in
    record {
      counted = grind (arith, common_steps, c.in_ok-push.ensures.ok, c.loop-number.invariant.counted);
      same_length = c.take_data-shown.ensures.counted ∙ c.loop-number.invariant.same_length;
      later = λ x h.
          let other : x ≢ c.loop-number.number = omega (arith, h) in
          let below : c.loop-number.number ≤ x = omega (arith, h) in
          c.take_data-shown.ensures.others x other ∙ c.loop-number.invariant.later x below;
      each = drivers_next c.args.flat.now c.args.marks.items c.loop-number.drivers _ c.loop-number.number c.leaf-item.result c.take_data-shown.result c.in_ok-driver.driver c.loop-number.invariant.counted leaf_there
          (sym (c.loop-number.invariant.later c.loop-number.number (omega arith)) ∙ c.take_data-shown.ensures.taken) c.in_ok-driver.ensures c.in_ok-push.ensures.ok c.loop-number.invariant.each;
    }

pub returns-clause-each : goal.returns-clause-each
returns-clause-each c = λ x leaf shown at_leaf at_shown.
    let within = slice_get_within c.args.flat.now.leaves x leaf at_leaf in
    let below : x < length c.loop-number.drivers = omega (arith, within, c.loop-number.invariant.counted, rw c.as_slice-leaf-items.ensures at c.loop-number-test.false) in
    let driver = there_below c.loop-number.drivers x below in
    driver.1 ∙ ap Some (c.loop-number.invariant.each x leaf driver.0 at_leaf driver.1 shown at_shown)
