use Rattle.std.proofs.Common.{◌≡◌, ◌<◌, ◌-◌, min, sym, subst, ap, ◌∙◌, arith}
use Rattle.code_emit.specs.Ways.{Shifts}
use Rattle.code_emit.proofs.There.{some_so}
use Rattle.code_emit.proofs.on_one.shifted.Goals as goal

pub returns-in-Unsigned : goal.returns-in-Unsigned
returns-in-Unsigned c = some_so c.from_bit.result c.from_bit.ensures (λ way h R f g. h R (f c.in-Unsigned.is))

pub returns-else-x-eq0 : goal.returns-else-x-eq0
returns-else-x-eq0 c =
    let x = c.args.x in
    let some : 0 < x.width = omega (arith, c.if-x-eq0.false) in
    let low : c.min.result ≡ min c.args.low (x.width - 1) = c.min.ensures ∙ ap (min c.args.low) c.from.ensures in
    some_so c.from_bit-in-Signed.result c.from_bit-in-Signed.ensures (λ way h R f g. h R (subst (λ n. Shifts x n c.args.width R) (sym low) (g c.in-Signed.is some)))
