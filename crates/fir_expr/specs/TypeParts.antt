-- The parts of types as their readers leave them.
use Rattle.std.specs.Prelude.{◌≡◌, ℕ, ◌+◌, ◌≤◌, Bool, true, false, List, [], ◌∷◌, Option, codes}
use Rattle.fir_layout.specs.declared.laid.Laid.{Laid}
use Rattle.fir_layout.specs.Pieces.{pieces_of}
use Rattle.bit_words.specs.declared.value.Kind.{Kind}
use Rattle.bit_words.specs.declared.value.Kind.TheVariants as sign
use Rattle.fir_types.specs.declared.fir_type.FirType.{FirType}
use Rattle.fir_types.specs.declared.fir_type.Shape.{Shape}
use Rattle.fir_types.specs.declared.fir_type.Shape.TheVariants as shape
use Rattle.fir_types.specs.declared.fir_type.Field.{Field as BundleField}
use Rattle.fir_grammar.specs.Grammar.{The_word, The_mark, A, Lengths, Fields, vectors, plain_field, flipped_field}
use Rattle.fir_grammar.specs.Reading.{HasRead}
use Rattle.token_reader.specs.Standing.{IsWhole, wanted}
use Rattle.token_reader.specs.Parts.{IsTaken, StartsWith}
use Rattle.fir_expr.specs.Parts.{GoesInto, HasPassed}

-- lengths were read behind an element type, and the type has the vectors of it
pub record HasLengths (element : FirType) (text : List ℕ) (list : List Laid) (i : ℕ) (typ : FirType) (j : ℕ) : Type 0 where
  pub lengths : List ℕ
  pub passed : (major : ℕ) (names : List (List ℕ)) → HasPassed major (A Lengths ∷ []) text list i names (lengths, tt) j names
  pub is : typ ≡ vectors element lengths

-- fields were read with the `}` behind them, which closes a bracket that was open before them
pub record HasFields (major : ℕ) (text : List ℕ) (list : List Laid) (i : ℕ) (names : List (List ℕ)) (fields : List BundleField) (j : ℕ) (after : List (List ℕ)) : Type 0 where
  pub last : ℕ
  pub behind : j ≡ last + 1
  pub part : Laid
  pub close : IsTaken (The_mark 125) text list last part
  pub read : HasRead major (A Fields ∷ []) text list i names (fields, tt) j after
  pub whole : IsWhole (pieces_of text list) i last
  pub room : wanted after list j ≤ wanted names list i

-- whether a field that begins at i is turned round, and that its name stands at j
abbrev pub Flips : Bool → List ℕ → List Laid → ℕ → ℕ → Type 0
Flips true text list i j = GoesInto flipped_field text list i × StartsWith (The_word (codes "flip")) text list i × (j ≡ i + 1)
Flips false text list i j = GoesInto plain_field text list i × (j ≡ i)

-- the shape of an integer type of a width, where it has one
abbrev pub shape_of : Kind → Option ℕ → Shape
shape_of sign.Unsigned width = shape.Unsigned width
shape_of sign.Signed width = shape.Signed width

-- the one word of a type of this shape stands at i
abbrev pub IsBareAt : Shape → List ℕ → List Laid → ℕ → Type 0
IsBareAt shape.Clock text list i = StartsWith (The_word (codes "Clock")) text list i
IsBareAt shape.Reset text list i = StartsWith (The_word (codes "Reset")) text list i
IsBareAt _ text list i = ⊥
