use Rattle.std.proofs.Common.{◌≡◌, ℕ, ◌+◌, ◌^◌, ◌<◌, length, slice_index, refl, subst, ◌∙◌, arith}
use Rattle.std.specs.Int.Bits.{bit_xor}
use Rattle.std.proofs.lemmas.List.{length-set}
use Rattle.cone_cutter.specs.Tallies.{tallied}
use Rattle.cone_cutter.proofs.TallySteps.{carries_more, carries_past}
use Rattle.cone_cutter.proofs.tallies.add_mask.Goals as goal

pub carrying-preserved : goal.carrying-preserved
carrying-preserved c =
    let now = c.carrying.planes in
    let digit = c.carrying.digit in
    let carry = c.carrying.carry in
    let long = length-set now digit (bit_xor (slice_index c.carrying.planes c.carrying.digit) c.carrying.carry) in
    record {
      carries = carries_more c.args.planes.now c.args.mask now digit carry (slice_index now digit) c.carrying.invariant.carries c.if-digit-planes.true refl;
      within = omega (arith, long, c.if-digit-planes.true);
      long = long ∙ c.carrying.invariant.long;
    }

pub returns-else-digit-planes : goal.returns-else-digit-planes
returns-else-digit-planes c =
    let all : length c.args.planes.now ≡ c.carrying.digit = omega (arith, c.if-digit-planes.false, c.carrying.invariant.within, c.carrying.invariant.long) in
    carries_past c.args.planes.now c.args.mask c.carrying.planes c.carrying.digit c.carrying.carry c.carrying.invariant.carries
    (subst (λ n. (p : ℕ) → tallied c.args.planes.now p + 1 < 2 ^ n) all c.requires)
