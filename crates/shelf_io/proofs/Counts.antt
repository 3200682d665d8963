-- Laws of counts that rose.
use Rattle.std.proofs.Common.{◌≡◌, ℕ, ◌<◌, ◌≤◌, ◌-◌, ◌^◌, ◌⊎◌, inl, inr, ⊎_elim, arith}
use Rattle.std.proofs.lemmas.Bool.{cases_lt}
use Rattle.shelf_io.specs.Outside.{Rose}

-- a count that didn't fall before has risen over both calls
pub Rose-later : (a b c : ℕ) → a ≤ b → Rose b c → Rose a c
Rose-later a b c kept rose = ⊎_elim (λ more. inl (omega arith)) (λ last. inr last) rose

-- a count that doesn't fall later has risen over both calls
pub Rose-earlier : (a b c : ℕ) → a ≤ b → Rose a b → b ≤ c → Rose a c
Rose-earlier a b c old rose kept = ⊎_elim (λ more. inl (omega arith)) (λ last. ⊎_elim (λ more. inl (omega arith)) (λ same. inr (omega arith)) (cases_lt (2 ^ 64 - 1) c)) rose
