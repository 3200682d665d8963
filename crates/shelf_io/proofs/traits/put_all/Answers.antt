use Rattle.std.proofs.Common.{◌∙◌, arith}
use Rattle.shelf_io.proofs.Written.{Appends-more, take-drop-all}
use Rattle.shelf_io.proofs.traits.put_all.Goals as goal

pub loop-done-preserved : goal.loop-done-preserved
loop-done-preserved g c = record {
  within = omega (arith, c.in_ok-done.ensures.within);
  appended = Appends-more _ _ _ _ _ _ c.loop-done.invariant.appended (rw take-drop-all at c.in_ok-done.ensures.appended);
  no_fault = c.in_ok-done.ensures.no_fault ∙ c.loop-done.invariant.no_fault;
}
