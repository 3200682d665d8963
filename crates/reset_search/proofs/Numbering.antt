-- No two places have one number.
use Rattle.std.proofs.Common.{arith, ◌≡◌, ℕ, ◌+◌, ◌*◌, refl, ap}
use Rattle.reset_search.specs.declared.spot.Spot.{Spot}
use Rattle.reset_search.specs.declared.spot.Spot.TheVariants.{Cast, Declared, OfNode}
use Rattle.reset_search.specs.Rows.{number}

pub number_once : (p q : Spot) → number p ≡ number q → p ≡ q
number_once Cast Cast e = refl
number_once Cast (Declared m) e = absurd (omega (arith, e))
number_once Cast (OfNode m) e = absurd (omega (arith, e))
number_once (Declared n) Cast e = absurd (omega (arith, e))
number_once (Declared n) (Declared m) e = ap Declared (omega (arith, e))
number_once (Declared n) (OfNode m) e = absurd (omega (arith, e))
number_once (OfNode n) Cast e = absurd (omega (arith, e))
number_once (OfNode n) (Declared m) e = absurd (omega (arith, e))
number_once (OfNode n) (OfNode m) e = ap OfNode (omega (arith, e))
