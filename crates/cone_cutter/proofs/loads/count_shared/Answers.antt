use Rattle.std.proofs.Common.{◌≡◌, ℕ, suc, ◌+◌, ◌*◌, ◌^◌, ◌%◌, cond, take, slice_index, ap, ◌∙◌, arith}
use Rattle.std.specs.Int.{bit_at}
use Rattle.std.proofs.lemmas.Nat.{one_shl}
use Rattle.std.proofs.lemmas.List.{length-take, take_all}
use Rattle.std.proofs.lemmas.List.Sums.{count_by-le-length}
use Rattle.cone_cutter.specs.Loads.{has_bit, holds, shared_by}
use Rattle.cone_cutter.specs.Tallies.{tallied}
use Rattle.cone_cutter.proofs.TallySteps.{tallied_more, tallied_part, bit_weight}
use Rattle.cone_cutter.proofs.loads.count_shared.Goals as goal

pub count_bits-requires-clause-fits : goal.count_bits-requires-clause-fits
count_bits-requires-clause-fits c = λ p lt.
    let i = c.loop-digit.digit in
    let planes = c.loop-leaf.planes in
    let weight : cond {A = ℕ} (has_bit (slice_index c.loop-leaf.planes c.loop-digit.digit) p) (1 * 2 ^ c.loop-digit.digit % 2 ^ 64) 0 ≡ 2 ^ c.loop-digit.digit * bit_at (slice_index c.loop-leaf.planes c.loop-digit.digit) p =
    ap (λ q. cond {A = ℕ} (has_bit (slice_index c.loop-leaf.planes c.loop-digit.digit) p) q 0) (one_shl i 64 c.loop-digit-test.true) ∙ bit_weight (2 ^ i) (slice_index planes i) p in
    let more = tallied_more planes i p (omega (arith, c.loop-digit-test.true, c.loop-leaf.invariant.long)) in
    omega (
      arith,
      weight,
      more,
      c.loop-digit.invariant p lt,
      tallied_part planes (suc i) p,
      c.loop-leaf.invariant.counts p,
      count_by-le-length (holds c.args.masks.now p) (take c.loop-leaf.leaf-index c.args.cone.now),
      length-take c.loop-leaf.leaf-index c.args.cone.now,
    )

pub loop-digit-preserved : goal.loop-digit-preserved
loop-digit-preserved c = λ p lt.
    let i = c.loop-digit.digit in
    let planes = c.loop-leaf.planes in
    let weight : cond {A = ℕ} (has_bit (slice_index c.loop-leaf.planes c.loop-digit.digit) p) (1 * 2 ^ c.loop-digit.digit % 2 ^ 64) 0 ≡ 2 ^ c.loop-digit.digit * bit_at (slice_index c.loop-leaf.planes c.loop-digit.digit) p =
    ap (λ q. cond {A = ℕ} (has_bit (slice_index c.loop-leaf.planes c.loop-digit.digit) p) q 0) (one_shl i 64 c.loop-digit-test.true) ∙ bit_weight (2 ^ i) (slice_index planes i) p in
    let more = tallied_more planes i p (omega (arith, c.loop-digit-test.true, c.loop-leaf.invariant.long)) in
    let next : suc c.loop-digit.digit ≡ c.loop-digit.digit + 1 = omega arith in
    let up : tallied (take (suc c.loop-digit.digit) c.loop-leaf.planes) p ≡ tallied (take (c.loop-digit.digit + 1) c.loop-leaf.planes) p = ap (λ n. tallied (take n c.loop-leaf.planes) p) next in
    omega (arith, c.count_bits.ensures p lt, weight, more, up, c.loop-digit.invariant p (omega (arith, lt, c.count_bits.auto.shared)))

pub returns : goal.returns
returns c = λ p lt.
    let all = take_all c.loop-digit.digit c.loop-leaf.planes (omega (arith, c.loop-digit-test.false, c.loop-leaf.invariant.long)) in
    let leaves = take_all c.loop-leaf.leaf-index c.args.cone.now (omega (arith, c.loop-leaf-test.false)) in
    c.loop-digit.invariant p lt ∙ (ap (λ s. tallied s p) all ∙ (c.loop-leaf.invariant.counts p ∙ ap (λ s. shared_by c.args.masks.now s p) leaves))
