-- What the pieces of a class do to the levels, and that a terminal takes pieces of one class alone.
use Rattle.std.proofs.Common.{◌≡◌, ℕ, ◌+◌, ◌-◌, ◌==◌, ◌||◌, ◌&&◌, Bool, true, false, not, if◌then◌else◌, List, ◌∷◌, ◌++◌, length, codes, refl, sym, ap, subst}
use Rattle.std.specs.Prelude.{nat_le}
use Rattle.std.proofs.lemmas.Bool.{eqb-true, true≢false}
use Rattle.fir_lexer.specs.declared.token.TokenKind.TheVariants as kind
use Rattle.fir_layout.specs.Pieces.{Piece, A_token, A_line_end, A_block_opens, A_block_closes, The_end}
use Rattle.prim_ops.specs.declared.operation.PrimOp.{PrimOp}
use Rattle.prim_ops.specs.declared.operation.PrimOp.TheVariants.{Add}
use Rattle.prim_ops.specs.Operations.{name_of}
use Rattle.fir_grammar.specs.Grammar.{Terminal, The_word, The_call, A_name, A_field, A_number, A_major, A_format, A_quoted_number, The_mark, The_arrow, Line_ends, Opens, Closes, Ends, Takes}
use Rattle.fir_grammar.specs.Faults.{Levels, with_suffix, last_suffixes, closed, is_item, past_text, past, is_deep}

pub data Class : Type 0 where
  A_text : Class
  An_opening : Class
  An_item : Class
  A_dot : Class
  A_square : Class
  A_closing : Class
  Another : Class
  Block_opens : Class
  Block_closes : Class

abbrev pub class_of_mark : ℕ → Class
class_of_mark m = if m == 46 then A_dot else if m == 91 then A_square else if (m == 40) || (m == 123) then An_opening else if (m == 93) || ((m == 41) || (m == 125)) then A_closing else Another

-- the bracket of an item isn't counted
abbrev pub class_of_call : List ℕ → Class
class_of_call bytes = if is_item bytes then An_item else An_opening

abbrev pub class_of : Terminal → Class
class_of (The_word w) = A_text
class_of (The_call w) = class_of_call (w ++ codes "(")
class_of A_name = A_text
class_of A_field = A_text
class_of A_number = A_text
class_of A_major = A_text
class_of (A_format n) = Another
class_of A_quoted_number = Another
class_of (The_mark m) = class_of_mark m
class_of The_arrow = Another
class_of Line_ends = Another
class_of Opens = Block_opens
class_of Closes = Block_closes
class_of Ends = Another

abbrev pub class_of_piece : Piece → Class
class_of_piece (A_token kind.Word bytes) = A_text
class_of_piece (A_token kind.Quoted bytes) = A_text
class_of_piece (A_token kind.Digits bytes) = A_text
class_of_piece (A_token kind.Call bytes) = class_of_call bytes
class_of_piece (A_token kind.Text bytes) = Another
class_of_piece (A_token kind.Arrow bytes) = Another
class_of_piece (A_token (kind.Mark m) bytes) = class_of_mark m
class_of_piece A_line_end = Another
class_of_piece A_block_opens = Block_opens
class_of_piece A_block_closes = Block_closes
class_of_piece The_end = Another

abbrev pub past_class : Class → Levels → Levels
past_class A_text at = past_text at
past_class An_opening at = record { blocks = at.blocks; suffixes = 0 ∷ at.suffixes; dotted = false }
past_class An_item at = record { blocks = at.blocks; suffixes = at.suffixes; dotted = false }
past_class A_dot at = record { blocks = at.blocks; suffixes = with_suffix at.suffixes; dotted = true }
past_class A_square at = record { blocks = at.blocks; suffixes = 0 ∷ with_suffix at.suffixes; dotted = false }
past_class A_closing at = record { blocks = at.blocks; suffixes = closed at.suffixes; dotted = false }
past_class Another at = record { blocks = at.blocks; suffixes = at.suffixes; dotted = false }
past_class Block_opens at = record { blocks = at.blocks + 1; suffixes = at.suffixes; dotted = false }
past_class Block_closes at = record { blocks = at.blocks - 1; suffixes = at.suffixes; dotted = false }

-- for what is deep where as many brackets, suffixes or blocks are open as may be
abbrev pub deep_of : Bool → Bool → Bool → Class → Bool
deep_of p q r An_opening = p
deep_of p q r A_dot = q
deep_of p q r A_square = p || q
deep_of p q r Block_opens = r
deep_of p q r _ = false

abbrev pub deep_class : Levels → Class → Bool
deep_class at c = deep_of (nat_le 128 (length at.suffixes - 1)) (nat_le 128 (last_suffixes at.suffixes)) (nat_le 128 at.blocks) c

mark_past : (a b c d : Bool) (at : Levels)
    → (if a then record { blocks = at.blocks; suffixes = with_suffix at.suffixes; dotted = true }
    else if b then record { blocks = at.blocks; suffixes = 0 ∷ with_suffix at.suffixes; dotted = false }
    else if c then record { blocks = at.blocks; suffixes = 0 ∷ at.suffixes; dotted = false }
    else if d then record { blocks = at.blocks; suffixes = closed at.suffixes; dotted = false }
    else record { blocks = at.blocks; suffixes = at.suffixes; dotted = false })
    ≡ past_class (if a then A_dot else if b then A_square else if c then An_opening else if d then A_closing else Another) at
mark_past true b c d at = refl
mark_past false true c d at = refl
mark_past false false true d at = refl
mark_past false false false true at = refl
mark_past false false false false at = refl

call_past : (a : Bool) (at : Levels)
    → (let past : Levels = record { blocks = at.blocks; suffixes = if a then at.suffixes else 0 ∷ at.suffixes; dotted = false } in past) ≡ past_class (if a then An_item else An_opening) at
call_past true at = refl
call_past false at = refl

pub past_by_class : (p : Piece) (at : Levels) → past at p ≡ past_class (class_of_piece p) at
past_by_class (A_token kind.Word bytes) at = refl
past_by_class (A_token kind.Quoted bytes) at = refl
past_by_class (A_token kind.Digits bytes) at = refl
past_by_class (A_token kind.Call bytes) at = call_past (is_item bytes) at
past_by_class (A_token kind.Text bytes) at = refl
past_by_class (A_token kind.Arrow bytes) at = refl
past_by_class (A_token (kind.Mark m) bytes) at = mark_past (m == 46) (m == 91) ((m == 40) || (m == 123)) ((m == 93) || ((m == 41) || (m == 125))) at
past_by_class A_line_end at = refl
past_by_class A_block_opens at = refl
past_by_class A_block_closes at = refl
past_by_class The_end at = refl

mark_deep : (a b c d e p q r : Bool) → (d ≡ true → (a ≡ false) × ((b ≡ false) × (c ≡ false)))
    → ((a || (b || c)) && p) || ((d || b) && q) ≡ deep_of p q r (if d then A_dot else if b then A_square else if a || c then An_opening else if e then A_closing else Another)
mark_deep a b c true e p q r only = dot a b c (only refl)
  where
    dot : (a b c : Bool) → (a ≡ false) × ((b ≡ false) × (c ≡ false)) → ((a || (b || c)) && p) || q ≡ q
    dot false false false o = refl
    dot true b c o = absurd (true≢false (o.0))
    dot false true c o = absurd (true≢false (o.1.0))
    dot false false true o = absurd (true≢false (o.1.1))
mark_deep true true c false e true q r only = refl
mark_deep true true c false e false q r only = refl
mark_deep true false c false e true q r only = refl
mark_deep true false c false e false q r only = refl
mark_deep false true c false e true q r only = refl
mark_deep false true c false e false q r only = refl
mark_deep false false true false e true q r only = refl
mark_deep false false true false e false q r only = refl
mark_deep false false false false true p q r only = refl
mark_deep false false false false false p q r only = refl

only_dot : (m : ℕ) → (m == 46) ≡ true → ((m == 40) ≡ false) × (((m == 91) ≡ false) × ((m == 123) ≡ false))
only_dot m e = subst (λ n. ((n == 40) ≡ false) × (((n == 91) ≡ false) × ((n == 123) ≡ false))) (sym (eqb-true m 46 e)) (refl, (refl, refl))

call_deep : (a p q r : Bool) → not a && p ≡ deep_of p q r (if a then An_item else An_opening)
call_deep true p q r = refl
call_deep false p q r = refl

pub deep_by_class : (p : Piece) (at : Levels) → is_deep at p ≡ deep_class at (class_of_piece p)
deep_by_class (A_token kind.Word bytes) at = refl
deep_by_class (A_token kind.Quoted bytes) at = refl
deep_by_class (A_token kind.Digits bytes) at = refl
deep_by_class (A_token kind.Call bytes) at =
    call_deep (is_item bytes) (nat_le 128 (length at.suffixes - 1)) (nat_le 128 (last_suffixes at.suffixes)) (nat_le 128 at.blocks)
deep_by_class (A_token kind.Text bytes) at = refl
deep_by_class (A_token kind.Arrow bytes) at = refl
deep_by_class (A_token (kind.Mark m) bytes) at =
    mark_deep (m == 40) (m == 91) (m == 123) (m == 46) ((m == 93) || ((m == 41) || (m == 125))) (nat_le 128 (length at.suffixes - 1)) (nat_le 128 (last_suffixes at.suffixes)) (nat_le 128 at.blocks) (only_dot m)
deep_by_class A_line_end at = refl
deep_by_class A_block_opens at = refl
deep_by_class A_block_closes at = refl
deep_by_class The_end at = refl

pub same_class : (s : Terminal) (p : Piece) → Takes s p → class_of_piece p ≡ class_of s
same_class (The_word w) (A_token kind.Word bytes) t = refl
same_class (The_word w) (A_token kind.Quoted bytes) t = absurd t
same_class (The_word w) (A_token kind.Digits bytes) t = absurd t
same_class (The_word w) (A_token kind.Call bytes) t = absurd t
same_class (The_word w) (A_token kind.Text bytes) t = absurd t
same_class (The_word w) (A_token kind.Arrow bytes) t = absurd t
same_class (The_word w) (A_token (kind.Mark n) bytes) t = absurd t
same_class (The_word w) A_line_end t = absurd t
same_class (The_word w) A_block_opens t = absurd t
same_class (The_word w) A_block_closes t = absurd t
same_class (The_word w) The_end t = absurd t
same_class (The_call w) (A_token kind.Word bytes) t = absurd t
same_class (The_call w) (A_token kind.Quoted bytes) t = absurd t
same_class (The_call w) (A_token kind.Digits bytes) t = absurd t
same_class (The_call w) (A_token kind.Call bytes) t = ap class_of_call t
same_class (The_call w) (A_token kind.Text bytes) t = absurd t
same_class (The_call w) (A_token kind.Arrow bytes) t = absurd t
same_class (The_call w) (A_token (kind.Mark n) bytes) t = absurd t
same_class (The_call w) A_line_end t = absurd t
same_class (The_call w) A_block_opens t = absurd t
same_class (The_call w) A_block_closes t = absurd t
same_class (The_call w) The_end t = absurd t
same_class A_name (A_token kind.Word bytes) t = refl
same_class A_name (A_token kind.Quoted bytes) t = refl
same_class A_name (A_token kind.Digits bytes) t = absurd t
same_class A_name (A_token kind.Call bytes) t = absurd t
same_class A_name (A_token kind.Text bytes) t = absurd t
same_class A_name (A_token kind.Arrow bytes) t = absurd t
same_class A_name (A_token (kind.Mark n) bytes) t = absurd t
same_class A_name A_line_end t = absurd t
same_class A_name A_block_opens t = absurd t
same_class A_name A_block_closes t = absurd t
same_class A_name The_end t = absurd t
same_class A_field (A_token kind.Word bytes) t = refl
same_class A_field (A_token kind.Quoted bytes) t = refl
same_class A_field (A_token kind.Digits bytes) t = refl
same_class A_field (A_token kind.Call bytes) t = absurd t
same_class A_field (A_token kind.Text bytes) t = absurd t
same_class A_field (A_token kind.Arrow bytes) t = absurd t
same_class A_field (A_token (kind.Mark n) bytes) t = absurd t
same_class A_field A_line_end t = absurd t
same_class A_field A_block_opens t = absurd t
same_class A_field A_block_closes t = absurd t
same_class A_field The_end t = absurd t
same_class A_number (A_token kind.Word bytes) t = absurd t
same_class A_number (A_token kind.Quoted bytes) t = absurd t
same_class A_number (A_token kind.Digits bytes) t = refl
same_class A_number (A_token kind.Call bytes) t = absurd t
same_class A_number (A_token kind.Text bytes) t = absurd t
same_class A_number (A_token kind.Arrow bytes) t = absurd t
same_class A_number (A_token (kind.Mark n) bytes) t = absurd t
same_class A_number A_line_end t = absurd t
same_class A_number A_block_opens t = absurd t
same_class A_number A_block_closes t = absurd t
same_class A_number The_end t = absurd t
same_class A_major (A_token kind.Word bytes) t = absurd t
same_class A_major (A_token kind.Quoted bytes) t = absurd t
same_class A_major (A_token kind.Digits bytes) t = refl
same_class A_major (A_token kind.Call bytes) t = absurd t
same_class A_major (A_token kind.Text bytes) t = absurd t
same_class A_major (A_token kind.Arrow bytes) t = absurd t
same_class A_major (A_token (kind.Mark n) bytes) t = absurd t
same_class A_major A_line_end t = absurd t
same_class A_major A_block_opens t = absurd t
same_class A_major A_block_closes t = absurd t
same_class A_major The_end t = absurd t
same_class (A_format n) (A_token kind.Word bytes) t = absurd t
same_class (A_format n) (A_token kind.Quoted bytes) t = absurd t
same_class (A_format n) (A_token kind.Digits bytes) t = absurd t
same_class (A_format n) (A_token kind.Call bytes) t = absurd t
same_class (A_format n) (A_token kind.Text bytes) t = refl
same_class (A_format n) (A_token kind.Arrow bytes) t = absurd t
same_class (A_format n) (A_token (kind.Mark m) bytes) t = absurd t
same_class (A_format n) A_line_end t = absurd t
same_class (A_format n) A_block_opens t = absurd t
same_class (A_format n) A_block_closes t = absurd t
same_class (A_format n) The_end t = absurd t
same_class A_quoted_number (A_token kind.Word bytes) t = absurd t
same_class A_quoted_number (A_token kind.Quoted bytes) t = absurd t
same_class A_quoted_number (A_token kind.Digits bytes) t = absurd t
same_class A_quoted_number (A_token kind.Call bytes) t = absurd t
same_class A_quoted_number (A_token kind.Text bytes) t = refl
same_class A_quoted_number (A_token kind.Arrow bytes) t = absurd t
same_class A_quoted_number (A_token (kind.Mark n) bytes) t = absurd t
same_class A_quoted_number A_line_end t = absurd t
same_class A_quoted_number A_block_opens t = absurd t
same_class A_quoted_number A_block_closes t = absurd t
same_class A_quoted_number The_end t = absurd t
same_class (The_mark m) (A_token kind.Word bytes) t = absurd t
same_class (The_mark m) (A_token kind.Quoted bytes) t = absurd t
same_class (The_mark m) (A_token kind.Digits bytes) t = absurd t
same_class (The_mark m) (A_token kind.Call bytes) t = absurd t
same_class (The_mark m) (A_token kind.Text bytes) t = absurd t
same_class (The_mark m) (A_token kind.Arrow bytes) t = absurd t
same_class (The_mark m) (A_token (kind.Mark n) bytes) t = ap class_of_mark t
same_class (The_mark m) A_line_end t = absurd t
same_class (The_mark m) A_block_opens t = absurd t
same_class (The_mark m) A_block_closes t = absurd t
same_class (The_mark m) The_end t = absurd t
same_class The_arrow (A_token kind.Word bytes) t = absurd t
same_class The_arrow (A_token kind.Quoted bytes) t = absurd t
same_class The_arrow (A_token kind.Digits bytes) t = absurd t
same_class The_arrow (A_token kind.Call bytes) t = absurd t
same_class The_arrow (A_token kind.Text bytes) t = absurd t
same_class The_arrow (A_token kind.Arrow bytes) t = refl
same_class The_arrow (A_token (kind.Mark n) bytes) t = absurd t
same_class The_arrow A_line_end t = absurd t
same_class The_arrow A_block_opens t = absurd t
same_class The_arrow A_block_closes t = absurd t
same_class The_arrow The_end t = absurd t
same_class Line_ends (A_token kind.Word bytes) t = absurd t
same_class Line_ends (A_token kind.Quoted bytes) t = absurd t
same_class Line_ends (A_token kind.Digits bytes) t = absurd t
same_class Line_ends (A_token kind.Call bytes) t = absurd t
same_class Line_ends (A_token kind.Text bytes) t = absurd t
same_class Line_ends (A_token kind.Arrow bytes) t = absurd t
same_class Line_ends (A_token (kind.Mark n) bytes) t = absurd t
same_class Line_ends A_line_end t = refl
same_class Line_ends A_block_opens t = absurd t
same_class Line_ends A_block_closes t = absurd t
same_class Line_ends The_end t = absurd t
same_class Opens (A_token kind.Word bytes) t = absurd t
same_class Opens (A_token kind.Quoted bytes) t = absurd t
same_class Opens (A_token kind.Digits bytes) t = absurd t
same_class Opens (A_token kind.Call bytes) t = absurd t
same_class Opens (A_token kind.Text bytes) t = absurd t
same_class Opens (A_token kind.Arrow bytes) t = absurd t
same_class Opens (A_token (kind.Mark n) bytes) t = absurd t
same_class Opens A_line_end t = absurd t
same_class Opens A_block_opens t = refl
same_class Opens A_block_closes t = absurd t
same_class Opens The_end t = absurd t
same_class Closes (A_token kind.Word bytes) t = absurd t
same_class Closes (A_token kind.Quoted bytes) t = absurd t
same_class Closes (A_token kind.Digits bytes) t = absurd t
same_class Closes (A_token kind.Call bytes) t = absurd t
same_class Closes (A_token kind.Text bytes) t = absurd t
same_class Closes (A_token kind.Arrow bytes) t = absurd t
same_class Closes (A_token (kind.Mark n) bytes) t = absurd t
same_class Closes A_line_end t = absurd t
same_class Closes A_block_opens t = absurd t
same_class Closes A_block_closes t = refl
same_class Closes The_end t = absurd t
same_class Ends (A_token kind.Word bytes) t = absurd t
same_class Ends (A_token kind.Quoted bytes) t = absurd t
same_class Ends (A_token kind.Digits bytes) t = absurd t
same_class Ends (A_token kind.Call bytes) t = absurd t
same_class Ends (A_token kind.Text bytes) t = absurd t
same_class Ends (A_token kind.Arrow bytes) t = absurd t
same_class Ends (A_token (kind.Mark n) bytes) t = absurd t
same_class Ends A_line_end t = absurd t
same_class Ends A_block_opens t = absurd t
same_class Ends A_block_closes t = absurd t
same_class Ends The_end t = refl

-- no operation is an item
pub operation_class : (prim : PrimOp) → class_of (The_call (name_of prim)) ≡ An_opening
operation_class Add = refl
operation_class _ = refl
