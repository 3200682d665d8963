-- Types that decide what the laws may say.
use Rattle.std.proofs.Common.{◌≡◌, ℕ, true, false, [], ◌∷◌, map, Some, refl, arith}
use Rattle.place_text.specs.declared.place.Place.{Place}
use Rattle.fir_types.specs.declared.fir_type.FirType.{FirType, the_lemmas}
use Rattle.fir_types.specs.declared.fir_type.Shape.{Shape}
use Rattle.fir_types.specs.declared.fir_type.Shape.TheVariants as shape
use Rattle.fir_types.specs.declared.fir_type.Field.{Field}
use Rattle.fir_types.specs.declared.leaf.PathStep.TheVariants as step
use Rattle.fir_types.specs.Leaves.{leaves}
use Rattle.fir_types.specs.Equivalence.{Equivalent, IsUnsigned, a_uint, a_reset}
use Rattle.fir_types.proofs.Cases.{of_unsigned, of_bundle, IsBundleLike, bundle_like}
use Rattle.check_laws.specs.GroundKinds.{ground_kind, A_signed, An_async}
use Rattle.check_laws.specs.DoubledFields.{has_doubled_field, HasNoDoubledField}

abbrev place : Place
place = record { line = 1; column = 1 }

abbrev typ : Shape → FirType
typ s = record { place = place; shape = s }

abbrev uint : ℕ → FirType
uint width = typ (shape.Unsigned (Some width))

abbrev field : ℕ → FirType → Field
field id t = record { flip = false; name = record { id = id; place = place }; typ = t }

-- A Reset has the kind of a UInt, also where that has no bits; an SInt has another one.
reset_kind : map ground_kind (leaves (typ shape.Reset)) ≡ map ground_kind (leaves (uint 0))
reset_kind = grind (arith, the_lemmas)

sint_kind : map ground_kind (leaves (typ (shape.Signed (Some 1)))) ≡ Some A_signed ∷ []
sint_kind = grind (arith, the_lemmas)

-- An AsyncReset has a kind of its own, and no UInt of one bit is equivalent to it.
async_kind : map ground_kind (leaves (typ shape.AsyncReset)) ≡ Some An_async ∷ []
async_kind = grind (arith, the_lemmas)

no_uint : IsUnsigned (typ shape.AsyncReset) → ⊥
no_uint (a_uint w e) = absurd cc
no_uint (a_reset e) = absurd cc

not_one_bit : Equivalent (uint 1) (typ shape.AsyncReset) → ⊥
not_one_bit e = no_uint (of_unsigned (a_uint (Some 1) refl) e)

-- An empty bundle and a vector of length 0 have the same leaves, none, and are not equivalent: the law has no converse.
abbrev empty : FirType
empty = typ (shape.Bundle [])

abbrev no_elements : FirType → FirType
no_elements element = typ (shape.Vector element 0)

same_leaves : leaves empty ≡ leaves (no_elements (uint 1))
same_leaves = grind (arith, the_lemmas)

like_bundle : IsBundleLike [] (no_elements (uint 1)) → ⊥
like_bundle (bundle_like gs e same) = absurd cc

not_equivalent : Equivalent empty (no_elements (uint 1)) → ⊥
not_equivalent e = like_bundle (of_bundle [] refl e)

-- { a : UInt<1>, a : UInt<1> } has two leaves of one path, and one name in two bundles is none twice.
abbrev twice : FirType
twice = typ (shape.Bundle (field 0 (uint 1) ∷ field 0 (uint 1) ∷ []))

twice_is_doubled : has_doubled_field twice ≡ true
twice_is_doubled = simp the_lemmas

twice_leaves : leaves twice ≡ record { path = step.Field 0 ∷ []; flip = false; typ = uint 1 } ∷ record { path = step.Field 0 ∷ []; flip = false; typ = uint 1 } ∷ []
twice_leaves = grind (arith, the_lemmas)

within : HasNoDoubledField (typ (shape.Bundle (field 0 (typ (shape.Bundle (field 0 (uint 1) ∷ []))) ∷ [])))
within = simp the_lemmas

-- In a vector of length 0 the text counts, though there is no leaf.
in_no_elements : has_doubled_field (no_elements twice) ≡ true
in_no_elements = simp the_lemmas

empty_is_not : HasNoDoubledField empty
empty_is_not = simp the_lemmas
