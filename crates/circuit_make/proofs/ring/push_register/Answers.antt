use Rattle.std.proofs.Common.{codes, decimal}
use Rattle.circuit_make.proofs.Joining.{after_three}
use Rattle.circuit_make.proofs.ring.push_register.Goals as goal

pub returns : goal.returns
returns c =
    after_three c.args.text.now.items (codes "    reg r") (decimal c.args.i) (codes " : UInt<32>, clock\n") c.in_ok-extend_from_slice.ensures.items c.in_ok-push_number.ensures
    c.in_ok-extend_from_slice-2.ensures.items
