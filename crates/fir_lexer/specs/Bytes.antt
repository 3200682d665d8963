-- Bytes by what they may stand for in a token, and what closes a string or a bracket.
use Rattle.std.specs.Prelude.{◌≡◌, ◌≢◌, ℕ, suc, ◌-◌, ◌<◌, Bool, true, false, not, ◌==◌, ◌||◌, ◌&&◌, nat_le, List, [], ◌∷◌, length, slice_index, codes}
use Rattle.std.specs.List.{list_any}

-- the byte is one of these
abbrev pub one_of : List ℕ → ℕ → Bool
one_of bytes b = list_any (λ x. b == x) bytes

-- the ASCII letters of both cases
abbrev pub is_letter : ℕ → Bool
is_letter b = (nat_le 65 b && nat_le b 90) || (nat_le 97 b && nat_le b 122)

abbrev pub is_digit : ℕ → Bool
is_digit b = nat_le 48 b && nat_le b 57

abbrev pub begins_word : ℕ → Bool
begins_word b = is_letter b || one_of (codes "_$") b

-- what may follow in a token that begins with a digit
abbrev pub in_digits : ℕ → Bool
in_digits b = begins_word b || is_digit b

-- what may follow in a word, and what a name between backquotes is made of
abbrev pub in_word : ℕ → Bool
in_word b = in_digits b || (b == 45)

abbrev pub is_mark : ℕ → Bool
is_mark b = one_of (codes ":.[]()<>{}=-|") b

-- any byte but a line feed
abbrev pub in_line : ℕ → Bool
in_line b = not (b == 10)

-- The bytes, with a string open or not and so many brackets open at their begin, are just as many as close all of it.
-- Brackets count outside strings alone, and in a string a backslash takes the next byte along.
pub data Closes : Bool → ℕ → List ℕ → Type 0 where
  all_closed : Closes false 0 []
  bracket_opens : (brackets b : ℕ) (bytes : List ℕ) → b ≡ 91 → Closes false (suc (suc brackets)) bytes → Closes false (suc brackets) (b ∷ bytes)
  bracket_closes : (brackets b : ℕ) (bytes : List ℕ) → b ≡ 93 → Closes false brackets bytes → Closes false (suc brackets) (b ∷ bytes)
  string_begins : (brackets b : ℕ) (bytes : List ℕ) → b ≡ 34 → Closes true (suc brackets) bytes → Closes false (suc brackets) (b ∷ bytes)
  outside : (brackets b : ℕ) (bytes : List ℕ) → b ≢ 91 → b ≢ 93 → b ≢ 34 → Closes false (suc brackets) bytes → Closes false (suc brackets) (b ∷ bytes)
  string_ends : (brackets b : ℕ) (bytes : List ℕ) → b ≡ 34 → Closes false brackets bytes → Closes true brackets (b ∷ bytes)
  taken_along : (brackets b taken : ℕ) (bytes : List ℕ) → b ≡ 92 → Closes true brackets bytes → Closes true brackets (b ∷ taken ∷ bytes)
  inside : (brackets b : ℕ) (bytes : List ℕ) → b ≢ 34 → b ≢ 92 → Closes true brackets bytes → Closes true brackets (b ∷ bytes)

-- at this index stands a `]` with no backslash directly before it
pub record ClosesInfo (bytes : List ℕ) (at : ℕ) : Type 0 where
  pub bracket : slice_index bytes at ≡ 93
  pub bare : slice_index bytes (at - 1) ≢ 92

-- What follows the `@` of an info: a `[`, and all up to the first `]` on the line with no backslash directly before it.
pub record IsInfoRest (rest : List ℕ) : Type 0 where
  pub some : 0 < length rest
  pub opened : slice_index rest 0 ≡ 91
  pub closed : ClosesInfo rest (length rest - 1)
  pub first : (k : ℕ) → k < length rest - 1 → (slice_index rest k ≢ 10) × (¬ (ClosesInfo rest k))
