use Rattle.std.proofs.Common.{ap, ◌==◌, eq-eqb, w64}
use Rattle.std.proofs.lemmas.Nat.Bits.{bit_at_set_same, bit_at_set_other}
use Rattle.cone_cutter.proofs.loads.with_bit.Goals as goal

pub returns-clause-same : goal.returns-clause-same
returns-clause-same c = eq-eqb _ 1 (bit_at_set_same w64 c.args.mask c.args.part c.requires)

pub returns-clause-others : goal.returns-clause-others
returns-clause-others c = λ p n. ap (λ b. b == 1) (bit_at_set_other w64 c.args.mask c.args.part c.requires p n)
