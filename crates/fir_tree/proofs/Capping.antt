-- What is capped before a sum or a product is as good as what isn't.
use Rattle.std.proofs.Common.{◌≡◌, ℕ, zero, suc, ◌+◌, ◌*◌, ◌-◌, ◌^◌, min, arith}
use Rattle.std.proofs.lemmas.Grind.{common_steps}
use Rattle.fir_tree.specs.Caps.{cap}

plus_to : (m a b : ℕ) → min (min a m + min b m) m ≡ min (a + b) m
plus_to m a b = omega arith

pub cap_plus : (a b : ℕ) → cap (cap a + cap b) ≡ cap (a + b)
cap_plus a b = plus_to (2 ^ 128 - 1) a b

pub times_to : (m k a : ℕ) → min (k * min a m) m ≡ min (k * a) m
times_to m zero a = grind (arith, common_steps)
times_to m (suc k) a = grind (arith, common_steps)

pub cap_times : (k a : ℕ) → cap (k * cap a) ≡ cap (k * a)
cap_times k a = times_to (2 ^ 128 - 1) k a
