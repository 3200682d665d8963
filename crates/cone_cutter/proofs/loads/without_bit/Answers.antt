use Rattle.std.proofs.Common.{◌==◌, ap, w64}
use Rattle.std.proofs.lemmas.Nat.{and_le_l}
use Rattle.std.proofs.lemmas.Nat.Bits.{bit_at_clear_same, bit_at_clear_other}
use Rattle.cone_cutter.proofs.LoadSteps.{smaller_without}
use Rattle.cone_cutter.proofs.loads.without_bit.Goals as goal

pub returns-clause-same : goal.returns-clause-same
returns-clause-same c = ap (λ b. b == 1) (bit_at_clear_same w64 c.args.mask c.args.part c.requires)

pub returns-clause-others : goal.returns-clause-others
returns-clause-others c = λ p lt n. ap (λ b. b == 1) (bit_at_clear_other w64 c.args.mask c.args.part c.requires p lt n)

pub returns-clause-smaller : goal.returns-clause-smaller
returns-clause-smaller c = λ yes. smaller_without _ c.args.mask c.args.part (and_le_l c.args.mask _) (ap (λ b. b == 1) (bit_at_clear_same w64 c.args.mask c.args.part c.requires)) yes
