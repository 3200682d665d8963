use Rattle.std.proofs.Common.{◌≡◌, ◌<◌, ◌-◌, ◌^◌, ◌++◌, min, length, subst, ap, sym, ◌∙◌}
use Rattle.ground_net.specs.Grounds.{element_count}
use Rattle.ground_net.specs.Numbers.{listed, span_lengths}
use Rattle.ground_net.proofs.Listing.{few_listed}
use Rattle.ground_net.proofs.numbers.Numbers.of_spans.Goals as goal

pub invariant_of-result : goal.invariant_of-result
invariant_of-result c =
    let is : c.count_of.result ≡ min (element_count (span_lengths c.args.spans)) (2 ^ 128 - 1) = c.count_of.ensures ∙ ap (λ ss. min (element_count (span_lengths ss)) (2 ^ 128 - 1)) c.as_slice.ensures in
    subst (λ xs. length (xs ++ listed c.args.spans c.args.first) < 2 ^ 64) (sym c.new.ensures) (few_listed c.args.spans c.args.first c.count_of.result is c.in-Ok.ensures.0)
