-- Fields of one name (FIRRTL specification 3.0, "Bundle Types": the names of a bundle's fields differ).
use Rattle.std.specs.Prelude.{◌≡◌, ℕ, nat_eq, Bool, false, ◌||◌, List, [], ◌∷◌, map}
use Rattle.std.specs.List.{list_any}
use Rattle.fir_types.specs.declared.fir_type.FirType.{FirType, fold-FirType}
use Rattle.fir_types.specs.declared.fir_type.Shape.TheOpen.{Shape-F, Field-F}

-- whether a number is there twice
abbrev pub is_doubled : List ℕ → Bool
is_doubled [] = false
is_doubled (n ∷ ns) = list_any (nat_eq n) ns || is_doubled ns

-- One layer, with the answer for each part in its place, and the name of a field beside that for its type.
abbrev pub doubled_in_shape : Shape-F Bool (ℕ × Bool) Bool → Bool
doubled_in_shape (Shape-F.Bundle fields) = is_doubled (map (λ f. f.0) fields) || list_any (λ f. f.1) fields
doubled_in_shape (Shape-F.Vector element n) = element
doubled_in_shape _ = false

abbrev pub doubled_in_field : Field-F Bool (ℕ × Bool) Bool → ℕ × Bool
doubled_in_field f = (f.name.id, f.typ)

-- whether a bundle in the text of a type has two fields of one name, also one in an element of a vector of length 0
abbrev pub has_doubled_field : FirType → Bool
has_doubled_field = fold-FirType Bool (ℕ × Bool) Bool doubled_in_shape doubled_in_field (λ t. t.shape)

abbrev pub HasNoDoubledField : FirType → Type 0
HasNoDoubledField typ = has_doubled_field typ ≡ false
