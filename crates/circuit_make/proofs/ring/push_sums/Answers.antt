use Rattle.std.proofs.Common.{◌≡◌, ℕ, ◌+◌, ◌-◌, ◌∙◌, ◌++◌, ap, arith}
use Rattle.std.specs.List.{flat_map, range_with_len}
use Rattle.circuit_make.specs.Rings.{sum_line}
use Rattle.circuit_make.proofs.Ranges.{one_more}
use Rattle.circuit_make.proofs.ring.push_sums.Goals as goal

pub loop-i-preserved : goal.loop-i-preserved
loop-i-preserved c =
    let one : 1 + (c.loop-i.i - 1) ≡ c.loop-i.i = omega arith in
    let next : (c.loop-i.i - 1) + 1 ≡ c.loop-i.i + 1 - 1 = omega arith in
    c.in_ok-push_sum.ensures ∙ ap (λ t. t ++ sum_line c.loop-i.i) c.loop-i.invariant
    ∙ one_more sum_line c.args.text.now.items 1 (c.loop-i.i - 1) c.loop-i.i one
    ∙ ap (λ (k : ℕ). c.args.text.now.items ++ flat_map sum_line (range_with_len 1 k)) next
