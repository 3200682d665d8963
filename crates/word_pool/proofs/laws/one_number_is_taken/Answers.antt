use Rattle.std.proofs.Common.{◌≡◌, ℕ, ◌<◌, true, false, arith, ⊎_elim}
use Rattle.std.proofs.lemmas.Bool.{cases_lt}
use Rattle.word_pool.specs.Pools.{Pool, Takes, is_live}
use Rattle.word_pool.proofs.laws.one_number_is_taken.Goals as goal

not_less : (old new other : Pool) (slot least : ℕ) → Takes old new slot → Takes old other least → slot < least → ⊥
not_less old new other slot least t u lt = let yes' : is_live old slot ≡ true = u.least slot lt in let none : is_live old slot ≡ false = t.fresh in cc

pub returns : goal.returns
returns c old new other slot least t u = ⊎_elim (λ lt. absurd (not_less old new other slot least t u lt)) (λ ge. ⊎_elim (λ lt. absurd (not_less old other new least slot u t lt)) (λ le. omega (arith, ge, le)) (cases_lt least slot)) (cases_lt slot least)
