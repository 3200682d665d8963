use Rattle.std.proofs.Common.{◌≡◌, ◌+◌, ◌-◌, ◌<◌, length, slice_index, sym, subst, ap, arith}
use Rattle.ground_net.specs.Reads.{direct_reads}
use Rattle.cone_cutter.specs.Rows.{row_at, reads_in}
use Rattle.part_compile.proofs.Marks.{reads_within}
use Rattle.part_compile.proofs.Rows.{read_of_row}
use Rattle.part_compile.proofs.Walking.{CountsAt, counted_live, more_live, stepped}
use Rattle.part_compile.proofs.room.most_live.Goals as goal

pub loop-at-preserved : goal.loop-at-preserved
loop-at-preserved c =
    let net = c.args.net.now in
    let watch = c.args.watch.now in
    let part = c.args.part.now in
    let at = c.loop-at.at in
    let had = c.loop-at.invariant in
    let some = c.loop-at-test.true in
    let long = had.1.1 in
    let most = c.max-most.ensures in
    let one : (c.loop-at.at - 1) + 1 ≡ c.loop-at.at = omega (arith, some) in
    let below : c.loop-at.at - 1 < length c.args.part.now.assignments = omega (arith, some, long) in
    let here : CountsAt net watch part ((c.loop-at.at - 1) + 1) c.loop-at.live = subst (λ k. CountsAt net watch part k c.loop-at.live) (sym one) had.1.0 in (
      more_live net watch part c.loop-at.live.count c.loop-at.most c.max-most.result (counted_live net watch part at c.loop-at.live had.1.0) had.0 (omega (arith, most)),
      (
        stepped net watch part (at - 1) _ c.loop-at.live c.pass_leaf.new.live c.read_assignment.new.live below (ap (λ xs. slice_index xs (c.loop-at.at - 1)) c.as_slice-assignments.ensures) c.pass_leaf.ensures
            (reads_within (row_at (reads_in c.args.rows.now) _) (direct_reads net _) c.pass_leaf.new.live c.read_assignment.new.live (read_of_row net (reads_in c.args.rows.now) c.requires.rows.reads _) c.read_assignment.ensures) here,
        omega (arith, long),
      ),
    )
