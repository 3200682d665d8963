-- The values of ground expressions, and the leaves that they mention (FIRRTL specification 3.0, "Expressions").
use Rattle.std.specs.Prelude.{ℕ, ◌+◌, ◌*◌, nat_lt, option_map, List, [], ◌∷◌, ◌++◌, map, flat_map, ℤ, pos, negsuc, Option, Some, None, if◌then◌else◌, slice_get}
use Rattle.bit_words.specs.declared.value.Value.{Value}
use Rattle.bit_words.specs.Values.{integer_of}
use Rattle.ground_net.specs.declared.ground.Ground.{Ground, fold-Ground}
use Rattle.ground_net.specs.declared.ground.Ground.TheOpen.{Ground-F}
use Rattle.prim_ops.specs.Values.{fitted, lone, is_one, operation}

-- What is seen in a cycle: the value of each leaf, and of each leaf of each element of each memory, by its address.
pub record Instant : Type 0 where
  pub leaf : ℕ → Value
  pub load : ℕ → ℕ → Value → Value

abbrev pub InInstant : Type 0
InInstant = Instant → Value

-- The value behind the first condition that is 1, else the last item.
abbrev pub chosen : List Value → Value
chosen [] = lone []
chosen (last ∷ []) = last
chosen (condition ∷ value ∷ rest) = if is_one condition then value else chosen rest

-- the value, or 0 of the first item's kind and width where there is none
abbrev pub or_zero : List Value → Option Value → Value
or_zero items (Some v) = v
or_zero items None = fitted (lone items).kind (lone items).width (pos 0)

-- The item of this number, and 0 past the last one.
abbrev pub selected : ℤ → List Value → Value
selected (pos n) items = or_zero items (slice_get items n)
selected (negsuc n) items = or_zero items None

-- how many elements vectors of these lengths in one another have
abbrev pub element_count : List ℕ → ℕ
element_count [] = 1
element_count (n ∷ ns) = n * element_count ns

-- The place of an element among those of vectors of these lengths in one another, by its indices, the outermost first; none where an index
-- isn't below its length.
abbrev pub place : List ℤ → List ℕ → Option ℕ
place [] [] = Some 0
place (pos k ∷ is) (n ∷ ns) = if nat_lt k n then option_map (λ p. k * element_count ns + p) (place is ns) else None
place _ _ = None

-- The item at a place, and 0 where there is none.
abbrev pub indexed : Option ℕ → List Value → Value
indexed (Some k) items = or_zero items (slice_get items k)
indexed None items = or_zero items None

-- what is loaded at an address where the condition is 1, and else 0 of the same kind and width
abbrev pub loaded : (Value → Value) → List Value → Value
loaded element (address ∷ condition ∷ rest) = if is_one condition then element address else fitted (element address).kind (element address).width (pos 0)
loaded element _ = lone []

abbrev pub of_layer : Ground-F InInstant → InInstant
of_layer (Ground-F.Const v) instant = v
of_layer (Ground-F.Leaf x) instant = instant.leaf x
of_layer (Ground-F.Op prim operands params) instant = operation prim (map (λ g. g instant) operands) params
of_layer (Ground-F.Mux items) instant = chosen (map (λ g. g instant) items)
of_layer (Ground-F.Select index items) instant = selected (integer_of (lone (map (λ g. g instant) index))) (map (λ g. g instant) items)
of_layer (Ground-F.Indexed numbers indices lengths) instant =
    indexed (place (map integer_of (map (λ g. g instant) indices)) lengths) (map instant.leaf numbers)
of_layer (Ground-F.Load memory leaf items) instant = loaded (instant.load memory leaf) (map (λ g. g instant) items)
of_layer (Ground-F.Fit kind width items) instant = fitted kind width (integer_of (lone (map (λ g. g instant) items)))

-- The value of a ground expression.
abbrev pub value : Ground → Instant → Value
value = fold-Ground InInstant of_layer

-- all of the lists, one after the other
abbrev pub joined : List (List ℕ) → List ℕ
joined = flat_map (λ leaves. leaves)

abbrev pub mentioned_in : Ground-F (List ℕ) → List ℕ
mentioned_in (Ground-F.Const v) = []
mentioned_in (Ground-F.Leaf x) = x ∷ []
mentioned_in (Ground-F.Op prim operands params) = joined operands
mentioned_in (Ground-F.Mux items) = joined items
mentioned_in (Ground-F.Select index items) = joined index ++ joined items
mentioned_in (Ground-F.Indexed numbers indices lengths) = joined indices ++ numbers
mentioned_in (Ground-F.Load memory leaf items) = joined items
mentioned_in (Ground-F.Fit kind width items) = joined items

-- The leaves that a ground expression mentions.
abbrev pub mentions : Ground → List ℕ
mentions = fold-Ground (List ℕ) mentioned_in
