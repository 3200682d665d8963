use Rattle.std.proofs.Common.{codes, decimal, ◌-◌}
use Rattle.circuit_make.proofs.Joining.{after_five}
use Rattle.circuit_make.proofs.ring.push_last.Goals as goal

pub returns : goal.returns
returns c =
    after_five c.args.text.now.items (codes "    connect out, s") (decimal (c.args.n - 1)) (codes "\n%stimulus\ncycles ") (decimal c.args.cycles) (codes "\n")
    c.in_ok-extend_from_slice.ensures.items c.in_ok-push_number.ensures c.in_ok-extend_from_slice-2.ensures.items c.in_ok-push_number-2.ensures c.in_ok-extend_from_slice-3.ensures.items
