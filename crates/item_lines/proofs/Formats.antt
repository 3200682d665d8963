-- Bytes are a format of one list of pieces.
use Rattle.std.proofs.Common.{◌≡◌, ◌≢◌, ℕ, zero, suc, ◌-◌, Bool, true, false, List, [], ◌∷◌, ◌++◌, length, take, if◌then◌else◌, refl, sym, ap, ◌∙◌, eqb, eqb→eq, arith, length-append}
use Rattle.std.proofs.lemmas.Grind.{common_steps}
use Rattle.std.proofs.lemmas.List.{take-append-le}
use Rattle.fir_tree.specs.declared.print.Piece.{Piece}
use Rattle.fir_tree.specs.declared.print.Piece.TheVariants.{Show}
use Rattle.fir_tree.specs.declared.print.Radix.TheVariants.{Bin, Dec, Hex, Char}
use Rattle.item_lines.specs.Formats.{before, IsFormat, nothing, a_byte, an_escape, a_percent, a_show, line_feed, tab, backslash, quote, apostrophe, IsQuotedFormat, quoted, shows}

-- what the byte before asks of the next one
data After : Type 0 where
  A_byte : After
  A_percent : After
  A_backslash : After

-- the pieces of a format, and some pieces of bytes that are none
pieces_from : After → List ℕ → List Piece
pieces_from after [] = []
pieces_from A_byte (c ∷ bytes) = if eqb c 37 then pieces_from A_percent bytes else if eqb c 92 then pieces_from A_backslash bytes else before c (pieces_from A_byte bytes)
pieces_from A_percent (c ∷ bytes) =
    if eqb c 37 then before 37 (pieces_from A_byte bytes) else if eqb c 98 then Show Bin ∷ pieces_from A_byte bytes
    else if eqb c 100 then Show Dec ∷ pieces_from A_byte bytes else if eqb c 120 then Show Hex ∷ pieces_from A_byte bytes else Show Char ∷ pieces_from A_byte bytes
pieces_from A_backslash (c ∷ bytes) = before (if eqb c 110 then 10 else if eqb c 116 then 9 else c) (pieces_from A_byte bytes)

differ : (m n : ℕ) → m ≢ n → (b : Bool) → eqb m n ≡ b → eqb m n ≡ false
differ m n other true e = absurd (other (eqb→eq m n (rw e tt)))
differ m n other false e = e

pieces_are : {bytes : List ℕ} {pieces : List Piece} → IsFormat bytes pieces → pieces_from A_byte bytes ≡ pieces
unfolding pieces_from
pieces_are nothing = refl
pieces_are (a_byte {byte} p q f) = rw (differ byte 37 p (eqb byte 37) refl, differ byte 92 q (eqb byte 92) refl) (ap (before byte) (pieces_are f))
pieces_are (an_escape line_feed f) = ap (before 10) (pieces_are f)
pieces_are (an_escape tab f) = ap (before 9) (pieces_are f)
pieces_are (an_escape backslash f) = ap (before 92) (pieces_are f)
pieces_are (an_escape quote f) = ap (before 34) (pieces_are f)
pieces_are (an_escape apostrophe f) = ap (before 39) (pieces_are f)
pieces_are (a_percent f) = ap (before 37) (pieces_are f)
pieces_are (a_show {radix = Bin} f) = ap (λ (ps : List Piece). Show Bin ∷ ps) (pieces_are f)
pieces_are (a_show {radix = Dec} f) = ap (λ (ps : List Piece). Show Dec ∷ ps) (pieces_are f)
pieces_are (a_show {radix = Hex} f) = ap (λ (ps : List Piece). Show Hex ∷ ps) (pieces_are f)
pieces_are (a_show {radix = Char} f) = ap (λ (ps : List Piece). Show Char ∷ ps) (pieces_are f)

-- what stands between the first byte and the last
abbrev inside : List ℕ → List ℕ
inside [] = []
inside (q ∷ rest) = take (length rest - 1) rest

inside_of : (bytes : List ℕ) → take (length (bytes ++ 34 ∷ []) - 1) (bytes ++ 34 ∷ []) ≡ bytes
inside_of bytes = grind (arith, common_steps, length-append, take-append-le)

pub quoted_pieces : List ℕ → List Piece
quoted_pieces bytes = pieces_from A_byte (inside bytes)

pub quoted_pieces_are : (bytes : List ℕ) {pieces : List Piece} → IsQuotedFormat bytes pieces → quoted_pieces bytes ≡ pieces
unfolding quoted_pieces
quoted_pieces_are bytes (quoted within is f) = ap (λ (b : List ℕ). pieces_from A_byte (inside b)) is ∙ ap (pieces_from A_byte) (inside_of within) ∙ pieces_are f

pub formats_agree : (bytes : List ℕ) (pieces other : List Piece) → IsQuotedFormat bytes pieces → IsQuotedFormat bytes other → pieces ≡ other
formats_agree bytes pieces other f g = sym (quoted_pieces_are bytes f) ∙ quoted_pieces_are bytes g

-- a format that shows so many values
pub shown_format : ℕ → List ℕ
shown_format zero = []
shown_format (suc n) = 37 ∷ 100 ∷ shown_format n

pub shown_pieces : ℕ → List Piece
shown_pieces zero = []
shown_pieces (suc n) = Show Dec ∷ shown_pieces n

pub shown_is : (n : ℕ) → IsFormat (shown_format n) (shown_pieces n)
unfolding shown_format shown_pieces
shown_is zero = nothing
shown_is (suc n) = a_show {radix = Dec} (shown_is n)

pub shown_many : (n : ℕ) → shows (shown_pieces n) ≡ n
unfolding shown_pieces
shown_many zero = refl
shown_many (suc n) = let h = shown_many n in omega (arith, h)

-- one value is shown by `%d`
pub one_shown : shows (quoted_pieces (34 ∷ 37 ∷ 100 ∷ 34 ∷ [])) ≡ 1
unfolding quoted_pieces pieces_from
one_shown = refl
