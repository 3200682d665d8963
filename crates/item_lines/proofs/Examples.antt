-- Formats with their pieces, and lines with what they stand for.
use Rattle.std.proofs.Common.{◌≡◌, ℕ, [], ◌∷◌, Some, None, refl, codes, arith}
use Rattle.std.specs.Fmt.{digits}
use Rattle.std.proofs.lemmas.Grind.{common_steps}
use Rattle.item_lines.specs.declared.line.Line.{the_lemmas}
use Rattle.place_text.specs.declared.place.Place.{Place}
use Rattle.bit_words.specs.declared.value.Kind.TheVariants.{Unsigned, Signed}
use Rattle.prim_ops.specs.declared.operation.PrimOp.TheVariants.{Shr, ShrFour}
use Rattle.prim_ops.specs.declared.widths.Width.TheVariants.{Bits}
use Rattle.prim_ops.specs.Operations.{of_version}
use Rattle.prim_ops.specs.Widths.{row_width}
use Rattle.fir_types.specs.declared.name.Name.{Name}
use Rattle.fir_tree.specs.declared.expr.Expr.{Expr}
use Rattle.fir_tree.specs.declared.expr.Form.TheVariants as form
use Rattle.fir_tree.specs.declared.stmt.Stmt.TheVariants as stmt
use Rattle.fir_tree.specs.declared.print.Piece.TheVariants.{Bytes, Show}
use Rattle.fir_tree.specs.declared.print.Radix.TheVariants.{Bin, Dec}
use Rattle.item_lines.specs.declared.line.Line.TheVariants as line
use Rattle.item_lines.specs.Formats.{IsFormat, nothing, a_byte, an_escape, line_feed, a_percent, a_show, shows}
use Rattle.item_lines.specs.Items.{item_stmts, stmts_of, clock_name, argument_name, module_of, one_bit, zero_bit, component, padded}

-- `r=%d %b`, a backslash and n: four pieces with the last byte a line feed
row_format : IsFormat (codes "r=%d %b\\n") (Bytes (codes "r=") ∷ Show Dec ∷ Bytes (codes " ") ∷ Show Bin ∷ Bytes (10 ∷ []) ∷ [])
row_format = a_byte (omega arith) (omega arith) (a_byte (omega arith) (omega arith) (a_show {radix = Dec} (a_byte (omega arith) (omega arith) (a_show {radix = Bin} (an_escape line_feed nothing)))))

-- `x%%` is the bytes `x%`
percent_format : IsFormat (codes "x%%") (Bytes (codes "x%") ∷ [])
percent_format = a_byte (omega arith) (omega arith) (a_percent nothing)

-- the empty format prints nothing
empty_format : IsFormat [] []
empty_format = nothing

-- an argument is wanted for each value that is shown
two_shown : shows (Bytes (codes "r=") ∷ Show Dec ∷ Bytes (codes " ") ∷ Show Bin ∷ Bytes (10 ∷ []) ∷ []) ≡ 2
two_shown = refl

-- the names of items
names_of_items : (clock_name 0 ≡ codes "#0c") × (argument_name 12 3 ≡ codes "#12a3")
unfolding digits
names_of_items = (refl, refl)

abbrev a : Place
a = record { line = 10; column = 5 }

abbrev b : Place
b = record { line = 12; column = 7 }

abbrev e : ℕ → Expr
e n = record { place = record { line = 1; column = n }; form = form.Ref (record { id = n; place = record { line = 1; column = n } }) [] }

abbrev named : ℕ → Place → Name
named n p = record { id = n; place = p }

-- one item in its place
one_item : item_stmts 0 a (e 1) (e 1) (e 1 ∷ []) (codes "M" ∷ [])
    ≡ (stmt.Reg (named 1 a) (one_bit a) (e 1) ∷ stmt.Connect (component (named 2 a)) (e 1) ∷ stmt.Node (named 3 a) (padded (e 1)) ∷ [], codes "M" ∷ codes "#0c" ∷ codes "#0" ∷ codes "#0a0" ∷ [])
unfolding digits
one_item = refl

one_line : stmts_of (line.Print a (e 1) (e 1) [] []) (record { names = codes "M" ∷ []; items = [] })
    ≡ (stmt.Reg (named 1 a) (one_bit a) (e 1) ∷ stmt.Connect (component (named 2 a)) (e 1) ∷ [], record { names = codes "M" ∷ codes "#0c" ∷ codes "#0" ∷ []; items = record { place = a; stop = None; pieces = [] } ∷ [] })
unfolding digits
one_line = grind (arith, common_steps, the_lemmas)

one_branch : (stmts_of (line.Branch (record { condition = e 1; body = line.Stop b (e 1) (e 1) 7 ∷ [] } ∷ []) []) (record { names = codes "M" ∷ []; items = [] })).0
    ≡ stmt.When (record { condition = e 1; body = stmt.Reg (named 1 b) (one_bit b) (e 1) ∷ stmt.Connect (component (named 2 b)) (e 1) ∷ [] } ∷ []) [] ∷ []
unfolding digits
one_branch = grind (arith, common_steps, the_lemmas)

-- Two names, and then a `printf` of one argument and, in a `when`, a `stop`: the wires of both at the head, the rest in place.
body_of_two : module_of 0 (record { name = named 0 a; ports = []; body = line.Print a (e 1) (e 1) (Show Dec ∷ []) (e 1 ∷ []) ∷ line.Branch (record { condition = e 1; body = line.Stop b (e 1) (e 1) 7 ∷ [] } ∷ []) [] ∷ [] })
    (codes "M" ∷ codes "clock" ∷ [])
    ≡ (
      (
        record {
          name = named 0 a;
          ports = [];
          body =
              stmt.Wire (named 3 a) (one_bit a) ∷ stmt.Connect (component (named 3 a)) (zero_bit a) ∷ stmt.Wire (named 6 b) (one_bit b) ∷ stmt.Connect (component (named 6 b)) (zero_bit b)
              ∷ stmt.Reg (named 2 a) (one_bit a) (e 1) ∷ stmt.Connect (component (named 3 a)) (e 1) ∷ stmt.Node (named 4 a) (padded (e 1))
              ∷ stmt.When (record { condition = e 1; body = stmt.Reg (named 5 b) (one_bit b) (e 1) ∷ stmt.Connect (component (named 6 b)) (e 1) ∷ [] } ∷ []) [] ∷ [];
        },
        record { «module» = 0; number = 0; stop = None; pieces = Show Dec ∷ [] } ∷ record { «module» = 0; number = 1; stop = Some 7; pieces = [] } ∷ [],
      ),
      codes "M" ∷ codes "clock" ∷ codes "#0c" ∷ codes "#0" ∷ codes "#0a0" ∷ codes "#1c" ∷ codes "#1" ∷ [],
    )
unfolding digits
body_of_two = grind (arith, common_steps, the_lemmas)

-- A text of version 4 means `ShrFour` by `shr`: of a UInt<4> moved by 4 nothing is left, and of a SInt its sign. In version 3 a bit is left.
shr_of_versions : (of_version 4 Shr ≡ ShrFour) × (of_version 3 Shr ≡ Shr)
shr_of_versions = (refl, refl)

widths_of_shr : (row_width ShrFour (Unsigned ∷ []) (Bits 4 ∷ []) (4 ∷ []) ≡ Bits 0) × (row_width Shr (Unsigned ∷ []) (Bits 4 ∷ []) (4 ∷ []) ≡ Bits 1)
widths_of_shr = (refl, refl)

sign_is_left : row_width ShrFour (Signed ∷ []) (Bits 4 ∷ []) (9 ∷ []) ≡ Bits 1
sign_is_left = refl
