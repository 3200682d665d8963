-- Parts of components as numbers of leaves, with the dynamic indices on the way to them (FIRRTL specification 3.0, "References").
use Rattle.std.specs.Prelude.{◌≡◌, ℕ, ◌+◌, ◌*◌, ◌==◌, nat_lt, Bool, List, [], ◌∷◌, map, flat_map, ℤ, pos, negsuc, Option, Some, None, Contains, true, ◌⊎◌, if◌then◌else◌}
use Rattle.std.specs.List.{list_any, list_all, range_with_len}
use Rattle.bit_words.specs.declared.value.Kind.TheVariants.{Unsigned}
use Rattle.bit_words.specs.Values.{integer_of}
use Rattle.ground_net.specs.declared.ground.Ground.{Ground}
use Rattle.ground_net.specs.declared.stretch.Span.{Span}
use Rattle.ground_net.specs.Grounds.{Instant, value, mentions}
use Rattle.ground_net.specs.Shapes.{Shape, shaped, Table, shape, is_index}
use Rattle.ground_net.specs.Cycles.{integer_at}
use Rattle.ground_exprs.specs.declared.part.Pick.{Pick}

-- An index picks one of so many elements, and none past the last one.
abbrev pub picked_from : ℕ → (ℕ → Option ℕ) → ℤ → Option ℕ
picked_from length element (pos k) = if nat_lt k length then element k else None
picked_from length element (negsuc k) = None

-- The number of a leaf of a part, from its number in the elements with the number 0; none where an index is out of its vector.
abbrev pub picked : Instant → List Pick → ℕ → Option ℕ
picked instant [] leaf = Some leaf
picked instant (pick ∷ picks) leaf = picked_from pick.length (λ k. picked instant picks (leaf + k * pick.stride)) (integer_of (value pick.index instant))

-- The numbers that it may have, whatever the indices are.
abbrev pub choices : List Pick → ℕ → List ℕ
choices [] leaf = leaf ∷ []
choices (pick ∷ picks) leaf = flat_map (λ k. choices picks (leaf + k * pick.stride)) (range_with_len 0 pick.length)

-- The indices, the lengths of their vectors, and these with their strides.
abbrev pub indices_of : List Pick → List Ground
indices_of picks = map (λ pick. pick.index) picks

abbrev pub lengths_of : List Pick → List ℕ
lengths_of picks = map (λ pick. pick.length) picks

abbrev pub span_of : Pick → Span
span_of pick = record { length = pick.length; stride = pick.stride }

abbrev pub spans_of : List Pick → List Span
spans_of picks = map span_of picks

-- What the indices mention.
abbrev pub index_mentions : List Pick → List ℕ
index_mentions picks = flat_map (λ pick. mentions pick.index) picks

-- a vector on the way has no elements
abbrev pub is_nowhere : List Pick → Bool
is_nowhere picks = list_any (λ pick. pick.length == 0) picks

-- one UInt
abbrev pub is_index_shape : Option Shape → Bool
is_index_shape (Some s) = is_index (s ∷ [])
is_index_shape None = is_index []

-- Each index is a UInt.
abbrev pub are_indices : Table → List Pick → Bool
are_indices table picks = list_all (λ pick. is_index_shape (shape pick.index table)) picks

-- The expression reads a leaf of a part: it has the leaf's integer, and 0 where an index is out of its vector. It mentions the indices
-- and each leaf that it may be.
pub record IsRead (picks : List Pick) (leaf : ℕ) (g : Ground) : Type 0 where
  pub value : (instant : Instant) → integer_of (value g instant) ≡ integer_at instant (picked instant picks leaf)
  pub only : (x : ℕ) → Contains (mentions g) x → Contains (index_mentions picks) x ⊎ Contains (choices picks leaf) x
  pub indices : (x : ℕ) → Contains (index_mentions picks) x → Contains (mentions g) x
  pub leaves : (x : ℕ) → Contains (choices picks leaf) x → Contains (mentions g) x
  pub shape : (table : Table) (s : Shape) → are_indices table picks ≡ true → ((x : ℕ) → Contains (choices picks leaf) x → table.leaf x ≡ Some s)
      → shape g table ≡ Some (if is_nowhere picks then shaped Unsigned 0 else s)
