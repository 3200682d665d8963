-- How a format is read from its first byte on.
use Rattle.std.specs.Prelude.{ℕ, ◌==◌, ◌||◌, List, [], ◌∷◌, ◌++◌, Option, Some, None, if◌then◌else◌, option_map}
use Rattle.fir_tree.specs.declared.print.Piece.{Piece}
use Rattle.fir_tree.specs.declared.print.Piece.TheVariants.{Show}
use Rattle.fir_tree.specs.declared.print.Radix.{Radix}
use Rattle.fir_tree.specs.declared.print.Radix.TheVariants.{Bin, Dec, Hex, Char}
use Rattle.item_lines.specs.declared.format.After.{After}
use Rattle.item_lines.specs.declared.format.After.TheVariants as after
use Rattle.item_lines.specs.Formats.{before}

-- the radix of a letter behind a `%`
abbrev pub radix_of : ℕ → Option Radix
radix_of letter = if letter == 98 then Some Bin else if letter == 100 then Some Dec else if letter == 120 then Some Hex else if letter == 99 then Some Char else None

-- the byte that a letter behind a backslash means
abbrev pub escaped : ℕ → Option ℕ
escaped letter = if letter == 110 then Some 10 else if letter == 116 then Some 9 else if letter == 92 || letter == 34 || letter == 39 then Some letter else None

-- bytes before pieces
abbrev pub fill : List ℕ → List Piece → List Piece
fill [] pieces = pieces
fill (byte ∷ bytes) pieces = before byte (fill bytes pieces)

-- a byte, or a value, before the pieces of what follows
abbrev pub meant : Option ℕ → Option (List Piece) → Option (List Piece)
meant None later = None
meant (Some byte) later = option_map (before byte) later

abbrev pub shown : Option Radix → Option (List Piece) → Option (List Piece)
shown None later = None
shown (Some radix) later = option_map (λ (pieces : List Piece). Show radix ∷ pieces) later

-- The pieces of these bytes, behind a byte that asks this of the first of them; None where they are no format.
abbrev pub pieces_from : After → List ℕ → Option (List Piece)
pieces_from after.Byte [] = Some []
pieces_from after.Percent [] = None
pieces_from after.Backslash [] = None
pieces_from after.Byte (c ∷ rest) = if c == 37 then pieces_from after.Percent rest else if c == 92 then pieces_from after.Backslash rest else meant (Some c) (pieces_from after.Byte rest)
pieces_from after.Percent (c ∷ rest) = if c == 37 then meant (Some 37) (pieces_from after.Byte rest) else shown (radix_of c) (pieces_from after.Byte rest)
pieces_from after.Backslash (c ∷ rest) = meant (escaped c) (pieces_from after.Byte rest)

-- The pieces of what follows, behind pieces and behind the bytes of one that isn't at its end.
abbrev pub behind : List Piece → List ℕ → Option (List Piece) → Option (List Piece)
behind pieces text later = option_map (λ (others : List Piece). pieces ++ fill text others) later
