-- Reading a value change dump: how many cycles it has, and the value of each variable in each of them.
use Rattle.std.specs.Prelude.{◌≡◌, ℕ, ◌+◌, ◌<◌, ◌≤◌, ◌==◌, ◌&&◌, nat_le, Bool, true, false, List, [], ◌∷◌, ◌++◌, length, slice_get, Option, Some, None, All, if◌then◌else◌}
use Rattle.std.specs.List.{AllZip, flat_map}
use Rattle.bit_words.specs.declared.value.Value.{Value}
use Rattle.bit_words.specs.declared.number.Base.TheVariants.{Binary, Decimal}
use Rattle.bit_words.specs.Numbers.{WritesDigits}
use Rattle.ground_net.specs.declared.net.PortLeaf.{PortLeaf}
use Rattle.vcd_write.specs.Changes.{Entry, Time, Change}
use Rattle.vcd_write.specs.Texts.{id_of}

-- the lines of a text, each ended by a line feed
abbrev pub with_byte : ℕ → List (List ℕ) → List (List ℕ)
with_byte b [] = (b ∷ []) ∷ []
with_byte b (line ∷ lines) = (b ∷ line) ∷ lines

abbrev pub lines_of : List ℕ → List (List ℕ)
lines_of [] = []
lines_of (b ∷ bs) = if b == 10 then [] ∷ lines_of bs else with_byte b (lines_of bs)

-- What a line says of these variables: nothing where it begins with a dollar; a time; the bit of a variable of width 0 or 1; the bits of
-- a wider one.
pub data Tells (vars : List PortLeaf) (line : List ℕ) (told : List Entry) : Type 0 where
  heading : (rest : List ℕ) → line ≡ 36 ∷ rest → told ≡ [] → Tells vars line told
  stamp : (digits : List ℕ) (t : ℕ) → line ≡ 35 ∷ digits → WritesDigits Decimal digits t → told ≡ Time t ∷ [] → Tells vars line told
  scalar : (i bit : ℕ) (leaf : PortLeaf) → slice_get vars i ≡ Some leaf → leaf.width ≤ 1 → bit < 2 → line ≡ (48 + bit) ∷ id_of i → told ≡ Change i bit ∷ [] → Tells vars line told
  vector : (i n : ℕ) (leaf : PortLeaf) (digits : List ℕ) → slice_get vars i ≡ Some leaf → 1 < leaf.width → line ≡ 98 ∷ (digits ++ 32 ∷ id_of i) → WritesDigits Binary digits n
      → told ≡ Change i n ∷ [] → Tells vars line told

-- the bits of a variable in a cycle: those of its last change under a time that isn't behind the cycle
abbrev pub last_bits : ℕ → ℕ → ℕ → Option ℕ → List Entry → Option ℕ
last_bits c i time found [] = found
last_bits c i time found (Time t ∷ es) = last_bits c i t found es
last_bits c i time found (Change j n ∷ es) = last_bits c i time (if (j == i) && nat_le time c then Some n else found) es

-- the last time
abbrev pub last_time : Option ℕ → List Entry → Option ℕ
last_time found [] = found
last_time found (Time t ∷ es) = last_time (Some t) es
last_time found (Change j n ∷ es) = last_time found es

-- a value is of a leaf's kind and width
pub record IsOfLeaf (leaf : PortLeaf) (v : Value) : Type 0 where
  pub kind : v.kind ≡ leaf.kind
  pub width : v.width ≡ leaf.width

-- each row has a value for each variable
abbrev pub AreRows : List PortLeaf → List (List Value) → Type 0
AreRows vars rows = All (AllZip IsOfLeaf vars) rows

-- all that lines tell
abbrev pub joined : List (List Entry) → List Entry
joined told = flat_map (λ es. es) told

-- The text is read as these rows: there are as many as the last time says, and a value is that of the last change at or before its cycle, read
-- in the kind and width of its variable.
pub record VcdRead (vars : List PortLeaf) (text : List ℕ) (rows : List (List Value)) : Type 0 where
  pub told : List (List Entry)
  pub tells : AllZip (Tells vars) (lines_of text) told
  pub count : last_time None (joined told) ≡ Some (length rows)
  pub are : AreRows vars rows
  pub bits : (c i : ℕ) (row : List Value) (v : Value) → slice_get rows c ≡ Some row → slice_get row i ≡ Some v → last_bits c i 0 None (joined told) ≡ Some v.bits

-- no line feed
abbrev pub is_plain : List ℕ → Bool
is_plain [] = true
is_plain (b ∷ bs) = if b == 10 then false else is_plain bs

-- names have no line feed
pub record HasPlainNames (top : List ℕ) (vars : List PortLeaf) : Type 0 where
  pub of_top : is_plain top ≡ true
  pub of_vars : All (λ leaf. is_plain leaf.name ≡ true) vars
