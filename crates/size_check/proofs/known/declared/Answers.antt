use Rattle.size_check.proofs.known.declared.Goals as goal

pub returns-clause-measured : goal.returns-clause-measured
returns-clause-measured c = ∣ c.in_ok-known.ensures.ways ∣₁
