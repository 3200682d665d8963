-- What the map of names holds.
use Rattle.std.specs.Prelude.{◌≡◌, ℕ, List, Option, position, String}
use Rattle.std.specs.Global.{Global}
use Rattle.std.specs.Str.{bytes_eq}
use Rattle.std.specs.BTreeMap.{BTreeMap, get_by_text}

-- the place of a text among texts
abbrev pub number_in : List (List ℕ) → List ℕ → Option ℕ
number_in texts text = position (λ other. bytes_eq text other) texts

-- the map has the number of each text, and nothing else
pub record FindsNumbers (numbers : BTreeMap (String Global) ℕ) (texts : List (List ℕ)) : Type 0 where
  pub finds : (text : List ℕ) → get_by_text numbers text ≡ number_in texts text
