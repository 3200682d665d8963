use Rattle.std.proofs.Common.{◌≡◌, get_or, slice_get, refl, sym, ap, ◌∙◌, arith, option_map}
use Rattle.plain_values.specs.Sites.{valuation_of}
use Rattle.plain_run.specs.Leaves.{leaf_held, leaves_of_sites}
use Rattle.plain_run.proofs.Leading.{shown_more, shown_less}
use Rattle.plain_run.proofs.running.watched_row.Goals as goal
use Rattle.plain_run.proofs.running.watched_row.Goals.{in-Some+in_ok-value_of+in_ok-push, in_default}

pub loop-number-preserved : goal.loop-number-preserved
loop-number-preserved c =
    let leaves = leaves_of_sites c.args.watch.now.sites.now in
    let rho = valuation_of c.args.run.now.sites.now c.args.values.now in
    let numbers = c.args.watch.now.numbers.now in
    let k = c.loop-number.number-index in
    let n = get_or numbers k 0 in
    let found : slice_get leaves n ≡ option_map leaf_held c.leaf_numbered.result = sym c.leaf_numbered.ensures in
    elim c.match-leaf_numbered.branch [
      | in-Some+in_ok-value_of+in_ok-push w ↦
          shown_more leaves rho numbers k n 0 (omega arith) refl (leaf_held w.in-Some.leaf) w.in_ok-value_of.field-0 c.loop-number.row c.match-leaf_numbered.row
          (found ∙ ap (option_map leaf_held) w.in-Some.is) w.in_ok-value_of.ensures (w.row-is ∙ w.in_ok-push.ensures.ok) c.loop-number.invariant
      | in_default w ↦ w.row-is ∙ shown_less leaves rho numbers k n 0 (omega arith) refl c.loop-number.row (found ∙ ap (option_map leaf_held) w.in_default.is) c.loop-number.invariant
    ]
