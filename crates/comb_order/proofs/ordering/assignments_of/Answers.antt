use Rattle.std.proofs.Common.{[], ◌∷◌, ◌++◌, ◌∙◌, take, slice_index, sym, subst}
use Rattle.std.proofs.lemmas.List.{take_more}
use Rattle.ground_net.specs.Reads.{IsAssigned}
use Rattle.comb_order.specs.Graphs.{Keeps}
use Rattle.comb_order.proofs.Keeping.{keeps_past, keeps_more}
use Rattle.comb_order.proofs.ordering.assignments_of.Goals as goal
use Rattle.comb_order.proofs.ordering.assignments_of.Goals.{then-is_assigned+in_ok-push, else-is_assigned}

pub loop-number-preserved : goal.loop-number-preserved
loop-number-preserved c =
    let is = IsAssigned c.args.leaves.now in
    let before = take c.loop-number.number-index c.args.numbers.now in
    let x = slice_index c.args.numbers.now c.loop-number.number-index in
    let more = take_more c.args.numbers.now c.loop-number.number-index 0 c.loop-number-test.true in
    subst (λ s. Keeps (IsAssigned c.args.leaves.now) s c.if-is_assigned.kept) (sym more)
    (elim c.if-is_assigned.branch [
      | then-is_assigned+in_ok-push w ↦ subst (Keeps (IsAssigned c.args.leaves.now) (before ++ x ∷ [])) (sym (w.kept-is ∙ w.in_ok-push.ensures.ok))
          (keeps_more is before c.loop-number.kept x c.loop-number.invariant w.if-is_assigned.ensures)
      | else-is_assigned w ↦ subst (Keeps (IsAssigned c.args.leaves.now) (before ++ x ∷ [])) (sym w.kept-is)
          (keeps_past is before c.loop-number.kept x c.loop-number.invariant w.if-is_assigned.ensures)
    ])
