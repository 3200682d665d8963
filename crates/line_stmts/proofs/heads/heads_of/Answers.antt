use Rattle.std.proofs.Common.{arith}
use Rattle.line_stmts.proofs.Standing.{more_heads_at}
use Rattle.line_stmts.proofs.heads.heads_of.Goals as goal

pub loop-place-preserved : goal.loop-place-preserved
loop-place-preserved c = record {
  number = omega (arith, c.loop-place.invariant.number);
  made = λ distinct.
      let before = c.loop-place.invariant.made distinct in
      let made = c.in_ok-statements.ensures.stmts before.distinct in
      more_heads_at c.args.places.now c.loop-place.place-index (record { line = 0; column = 0 }) c.loop-place.number c.loop-place.made c.in_ok-statements.statements.items c.append.new.made c.args.names.now c.loop-place.names
      c.head_stmts.new.names c.loop-place-test.true c.loop-place.invariant.number before made (rw c.from_vec.ensures at c.in_ok-append.ensures);
}
