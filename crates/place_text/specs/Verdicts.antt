-- What a stage answers.
use Rattle.std.specs.Prelude.{◌≡◌, ◌⊎◌, ℕ, Option, None, Result, IfOk, IfErr, MatchResult}
use Rattle.place_text.specs.declared.place.Place.{Place}
use Rattle.place_text.specs.First.{IsFirst, HasNone}

-- The answer of a stage that makes something of what it judges, or refuses it. It is Ok, with what is to be made, only where there is
-- no fault, and Err only with want of memory, which stands nowhere, or with the first fault. Where there is no fault only want of
-- memory refuses, and where there is a first one the answer is it, or want of memory.
pub record IsVerdict {F T : Type 0} (place : F → Option Place) (rank : F → ℕ) (has : F → Type 0) (makes : T → Type 0) (result : Result T F) : Type 0 where
  pub ok : IfOk result makes
  pub none : IfOk result (λ made. HasNone has)
  pub fault : IfErr result (λ given. (place given ≡ None) ⊎ IsFirst place rank has given)
  pub accepts : HasNone has → MatchResult result makes (λ given. place given ≡ None)
  pub refuses : (first : F) → IsFirst place rank has first → MatchResult result (λ made. ⊥) (λ given. (place given ≡ None) ⊎ (given ≡ first))
