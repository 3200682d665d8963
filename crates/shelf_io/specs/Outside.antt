-- What calls on the outside do.
use Rattle.std.specs.Prelude.{◌≡◌, ℕ, ◌+◌, ◌-◌, ◌<◌, ◌^◌, ◌⊎◌, min, List, [], ◌++◌, Option, Some}
use Rattle.std.specs.Option.{option_map}

-- a count of faults is greater than before, or stands at its last value
abbrev pub Rose : ℕ → ℕ → Type 0
Rose old new = (old < new) ⊎ (new ≡ 2 ^ 64 - 1)

-- one more, up to the last u64
abbrev pub counted : ℕ → ℕ
counted n = min (n + 1) (2 ^ 64 - 1)

-- what each name holds: told or not, and then a text or none
abbrev pub Texts : Type 0
Texts = Option (List ℕ → Option (List ℕ))

-- where the texts are told, the name holds one, and all of it is left
abbrev pub OpensText : Texts → List ℕ → Option (List ℕ) → Type 0
OpensText held name left = (texts : List ℕ → Option (List ℕ)) → held ≡ Some texts → (text : List ℕ) × (texts name ≡ Some text) × (left ≡ Some text)

-- these n bytes were taken from the front of what is left, where it is told; none only at its end
abbrev pub Takes : Option (List ℕ) → Option (List ℕ) → List ℕ → ℕ → Type 0
Takes old new bytes n = (text : List ℕ) → old ≡ Some text → (rest : List ℕ) × (new ≡ Some rest) × (text ≡ bytes ++ rest) × (n ≡ 0 → text ≡ [])

-- what was written gains these bytes at its end, where it is told
abbrev pub Appends : Option (List ℕ) → Option (List ℕ) → List ℕ → Type 0
Appends old new bytes = new ≡ option_map (λ written. written ++ bytes) old
