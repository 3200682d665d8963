use Rattle.std.proofs.Common.{codes, decimal, ◌-◌}
use Rattle.circuit_make.proofs.Joining.{after_seven}
use Rattle.circuit_make.proofs.ring.push_sum.Goals as goal

pub returns : goal.returns
returns c =
    after_seven c.args.text.now.items (codes "    node s") (decimal c.args.i) (codes " = tail(add(s") (decimal (c.args.i - 1)) (codes ", r") (decimal c.args.i) (codes "), 1)\n")
    c.in_ok-extend_from_slice.ensures.items c.in_ok-push_number.ensures c.in_ok-extend_from_slice-2.ensures.items c.in_ok-push_number-2.ensures
    c.in_ok-extend_from_slice-3.ensures.items c.in_ok-push_number-3.ensures c.in_ok-extend_from_slice-4.ensures.items
