use Rattle.std.proofs.Common.{ℕ, codes, decimal, ◌++◌, ap, ◌∙◌}
use Rattle.circuit_make.proofs.Joining.{after_seven}
use Rattle.circuit_make.specs.Rings.{before}
use Rattle.circuit_make.proofs.ring.push_connect.Goals as goal

pub returns : goal.returns
returns c =
    after_seven c.args.text.now.items (codes "    connect r") (decimal c.args.i) (codes ", tail(add(r") (decimal (before c.args.n c.args.i)) (codes ", UInt<32>(") (decimal c.args.i)
    (codes ")), 1)\n") c.in_ok-extend_from_slice.ensures.items c.in_ok-push_number.ensures c.in_ok-extend_from_slice-2.ensures.items (c.in_ok-push_number-2.ensures ∙ ap (λ (k : ℕ). c.extend_from_slice-2.new.self.items ++ decimal k) c.before-earlier.ensures)
    c.in_ok-extend_from_slice-3.ensures.items c.in_ok-push_number-3.ensures c.in_ok-extend_from_slice-4.ensures.items
