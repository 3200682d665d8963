-- The three answers of a stage are verdicts.
use Rattle.std.proofs.Common.{◌≡◌, ℕ, Option, inl, inr}
use Rattle.std.specs.Prelude.{None, Ok, Err}
use Rattle.place_text.specs.declared.place.Place.{Place}
use Rattle.place_text.specs.First.{IsFirst, HasNone}
use Rattle.place_text.specs.Verdicts.{IsVerdict}
use Rattle.place_text.proofs.Ordering.{OneEach, one_first}

module _ {F T : Type 0} {place : F → Option Place} {rank : F → ℕ} {has : F → Type 0} {makes : T → Type 0} where
  pub passes : (made : T) → makes made → HasNone has → IsVerdict place rank has makes (Ok made)
  passes made is none = record { ok = is; none = none; fault = tt; accepts = λ h. is; refuses = λ first f. none first f.is }

  pub refuses_by : OneEach place rank → (given : F) → IsFirst place rank has given → IsVerdict place rank has makes (Err given)
  refuses_by one given f = record {
    ok = tt;
    none = tt;
    fault = inr f;
    accepts = λ none. absurd (none given f.is);
    refuses = λ first g. inr (one_first place rank one given first f g);
  }

  pub wants_memory : (given : F) → place given ≡ None → IsVerdict place rank has makes (Err given)
  wants_memory given e = record { ok = tt; none = tt; fault = inl e; accepts = λ none. e; refuses = λ first g. inl e }
