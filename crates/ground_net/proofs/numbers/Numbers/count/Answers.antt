use Rattle.std.proofs.Common.{◌≡◌, ◌+◌, ◌-◌, ◌^◌, min, length, arith, ap, ◌∙◌}
use Rattle.ground_net.specs.Grounds.{element_count}
use Rattle.ground_net.specs.Numbers.{span_lengths}
use Rattle.ground_net.proofs.Listing.{told_count}
use Rattle.ground_net.proofs.numbers.Numbers.count.Goals as goal

pub overflow_cast-result : goal.overflow_cast-result
overflow_cast-result c =
    let few : c.count_of.result ≡ min (element_count (span_lengths c.in-Some.stretch.spans)) (2 ^ 128 - 1) = c.count_of.ensures ∙ ap (λ ss. min (element_count (span_lengths ss)) (2 ^ 128 - 1)) c.as_slice-in-Some.ensures in
    let all = told_count c.self.inside.others c.self.inside.stretch c.in-Some.stretch c.count_of.result c.in-Some.is c.self.invariant few in
    let less = c.self.invariant in
    omega (arith, all, less)

pub overflow_add-result : goal.overflow_add-result
overflow_add-result c =
    let few : c.count_of.result ≡ min (element_count (span_lengths c.in-Some.stretch.spans)) (2 ^ 128 - 1) = c.count_of.ensures ∙ ap (λ ss. min (element_count (span_lengths ss)) (2 ^ 128 - 1)) c.as_slice-in-Some.ensures in
    let all = told_count c.self.inside.others c.self.inside.stretch c.in-Some.stretch c.count_of.result c.in-Some.is c.self.invariant few in
    let less = c.self.invariant in
    let same = ap length c.as_slice.ensures in
    omega (arith, all, less, same)

pub returns-in-Some : goal.returns-in-Some
returns-in-Some c =
    let few : c.count_of.result ≡ min (element_count (span_lengths c.in-Some.stretch.spans)) (2 ^ 128 - 1) = c.count_of.ensures ∙ ap (λ ss. min (element_count (span_lengths ss)) (2 ^ 128 - 1)) c.as_slice-in-Some.ensures in
    ap (λ xs. length xs + c.count_of.result) c.as_slice.ensures
    ∙ told_count c.self.inside.others c.self.inside.stretch c.in-Some.stretch c.count_of.result c.in-Some.is c.self.invariant few ∙ ap length c.self.view_is
