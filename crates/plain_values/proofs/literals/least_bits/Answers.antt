use Rattle.std.proofs.Common.{◌≡◌, ◌+◌, ◌-◌, ◌∙◌, ap, sym, suc, arith}
use Rattle.fir_types.specs.Bundles.{least_reaching}
use Rattle.plain_values.proofs.Leasts.{least_found, least_later, least_past}
use Rattle.plain_values.proofs.literals.least_bits.Goals as goal

pub returns-then-number-bits-eq0-clause-value : goal.returns-then-number-bits-eq0-clause-value
returns-then-number-bits-eq0-clause-value c = sym (c.loop-more.invariant ∙ least_found c.args.number c.args.from c.loop-more.more (omega arith) c.if-number-bits-eq0.true)

pub loop-more-preserved : goal.loop-more-preserved
loop-more-preserved c = c.loop-more.invariant ∙ least_later c.args.number c.args.from c.loop-more.more (omega arith) c.if-number-bits-eq0.false

pub returns-clause-value : goal.returns-clause-value
returns-clause-value c =
    let ended : c.loop-more.more ≡ 127 = omega arith in
    sym (c.loop-more.invariant ∙ (ap (λ k. least_reaching (suc c.args.number) (c.args.from + k) (127 - k)) ended ∙ least_past c.args.number c.args.from))
