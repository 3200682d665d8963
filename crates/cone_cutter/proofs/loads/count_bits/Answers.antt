use Rattle.std.proofs.Common.{◌≡◌, true, cond, ℕ, sym, subst, ap, arith, eq-eqb, w64}
use Rattle.std.specs.Int.{trailing_zeros}
use Rattle.std.proofs.lemmas.Nat.Bits.{bit_at-trailing_zeros}
use Rattle.cone_cutter.specs.Loads.{has_bit}
use Rattle.cone_cutter.proofs.LoadSteps.{CountsBits, bit_counted, bit_past}
use Rattle.cone_cutter.proofs.loads.count_bits.Goals as goal
use Rattle.cone_cutter.proofs.loads.count_bits.Goals.{then-part-shared, else-part-shared}

pub overflow_add-shared : goal.overflow_add-shared
overflow_add-shared c =
    let lowest = bit_at-trailing_zeros w64 c.bits.rest (omega (arith, c.bits-test.true)) (omega (arith, c.bits.invariant.few, c.ranges.mask.fits)) in
    let part = trailing_zeros w64 c.bits.rest in
    let has : has_bit c.bits.rest (trailing_zeros w64 c.bits.rest) ≡ true = eq-eqb _ 1 lowest.1 in
    let one : cond {A = ℕ} (has_bit c.bits.rest (trailing_zeros w64 c.bits.rest)) c.args.weight 0 ≡ c.args.weight = ap (λ b. cond {A = ℕ} b c.args.weight 0) has in
    omega (arith, c.bits.invariant.counts part c.if-part-shared.true, one, c.requires.fits part (omega (arith, c.if-part-shared.true, c.bits.auto.shared)))

pub without_bit-rest-requires : goal.without_bit-rest-requires
without_bit-rest-requires c = (bit_at-trailing_zeros w64 c.bits.rest (omega (arith, c.bits-test.true)) (omega (arith, c.bits.invariant.few, c.ranges.mask.fits))).0

pub bits-smaller : goal.bits-smaller
bits-smaller c =
    let lowest = bit_at-trailing_zeros w64 c.bits.rest (omega (arith, c.bits-test.true)) (omega (arith, c.bits.invariant.few, c.ranges.mask.fits)) in
    c.without_bit-rest.ensures.smaller (eq-eqb _ 1 lowest.1)

pub bits-preserved : goal.bits-preserved
bits-preserved c =
    let lowest = bit_at-trailing_zeros w64 c.bits.rest (omega (arith, c.bits-test.true)) (omega (arith, c.bits.invariant.few, c.ranges.mask.fits)) in
    let part = trailing_zeros w64 c.bits.rest in
    let has : has_bit c.bits.rest (trailing_zeros w64 c.bits.rest) ≡ true = eq-eqb _ 1 lowest.1 in
    let left = c.without_bit-rest.result in
    record {
      counts = elim c.if-part-shared.branch [
        | then-part-shared w ↦ subst (λ s. CountsBits c.args.weight c.args.shared.now c.args.mask s c.without_bit-rest.result) (sym w.shared-is)
            (bit_counted c.args.weight c.args.shared.now c.args.mask c.bits.shared c.bits.rest part left c.bits.invariant.counts w.if-part-shared.true (omega (arith, c.requires.few, c.bits.auto.shared)) has c.without_bit-rest.ensures.same c.without_bit-rest.ensures.others)
        | else-part-shared w ↦ subst (λ s. CountsBits c.args.weight c.args.shared.now c.args.mask s c.without_bit-rest.result) (sym w.shared-is)
            (bit_past c.args.weight c.args.shared.now c.args.mask c.bits.shared c.bits.rest part left c.bits.invariant.counts w.if-part-shared.false (omega (arith, c.requires.few, c.bits.auto.shared)) c.without_bit-rest.ensures.others)
      ];
      few = omega (arith, c.without_bit-rest.ensures.smaller has, c.bits.invariant.few);
    }
