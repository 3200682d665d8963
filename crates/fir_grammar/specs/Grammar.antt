-- The grammar of circuit texts, as data: what a token must be, the rules with their cases, which lists of pieces the
-- rules derive, and which lists are fronts of what they derive. A piece is a token with its kind and bytes, the end of a
-- line, the beginning or the end of a block, or the end of the text.
use Prim.Native.String.{String}
use Rattle.std.specs.Prelude.{◌≡◌, ◌≢◌, ◌⊎◌, ℕ, suc, ◌-◌, Bool, false, true, List, [], ◌∷◌, ◌++◌, length, take, drop, codes, Option, Some, None}
use Rattle.bit_words.specs.Numbers.{letter, WritesDigits, IsMagnitude}
use Rattle.bit_words.specs.declared.number.Base.{Base}
use Rattle.bit_words.specs.declared.number.Base.TheVariants.{Decimal}
use Rattle.fir_lexer.specs.declared.token.TokenKind.TheVariants as kind
use Rattle.fir_layout.specs.Pieces.{Piece, A_token, A_line_end, A_block_opens, A_block_closes, The_end, bytes_of, piece_of}
use Rattle.prim_ops.specs.declared.operation.PrimOp.{PrimOp}
use Rattle.prim_ops.specs.Operations.{name_of, arity_of, IsWritten, of_version}
use Rattle.bit_words.specs.declared.number.Number.{Number}
use Rattle.bit_words.specs.declared.value.Kind.TheVariants as sign
use Rattle.place_text.specs.declared.place.Place.{Place}
use Rattle.place_text.specs.Places.{place}
use Rattle.fir_lexer.specs.declared.token.Token.{Token}
use Rattle.fir_lexer.specs.declared.token.TokenKind.{TokenKind}
use Rattle.fir_layout.specs.declared.laid.Laid.{Laid}
use Rattle.fir_layout.specs.declared.laid.Laid.TheVariants as laid
use Rattle.fir_types.specs.declared.name.Name.{Name}
use Rattle.fir_types.specs.declared.fir_type.FirType.{FirType}
use Rattle.fir_types.specs.declared.fir_type.Shape.TheVariants as shape
use Rattle.fir_types.specs.declared.fir_type.Field.{Field as BundleField}
use Rattle.fir_types.specs.declared.port.Port.{Port as ModulePort}
use Rattle.fir_types.specs.declared.memory.MemLine.{MemLine}
use Rattle.fir_types.specs.declared.memory.MemLine.TheVariants as line
use Rattle.fir_types.specs.declared.memory.Under.{Under}
use Rattle.fir_types.specs.declared.memory.Under.TheVariants as under
use Rattle.fir_types.specs.declared.memory.PortMode.TheVariants as mode
use Rattle.fir_tree.specs.declared.circuit.Circuit.{Circuit}
use Rattle.fir_tree.specs.declared.stmt.Stmt.TheVariants as stmt
use Rattle.fir_tree.specs.declared.expr.Expr.{Expr}
use Rattle.fir_tree.specs.declared.expr.Form.TheVariants as form
use Rattle.fir_tree.specs.declared.expr.Suffix.{Suffix}
use Rattle.fir_tree.specs.declared.expr.Suffix.TheVariants as suffix
use Rattle.fir_tree.specs.Numbered.{AddsName}
use Rattle.fir_tree.specs.declared.print.Piece.{Piece as PrintPiece}
use Rattle.item_lines.specs.declared.line.Line.{Line}
use Rattle.item_lines.specs.declared.line.Line.TheVariants as entry
use Rattle.item_lines.specs.declared.line.LineArm.{LineArm}
use Rattle.item_lines.specs.declared.line.LineModule.{LineModule}
use Rattle.item_lines.specs.Formats.{IsQuotedFormat, shows}
use Rattle.item_lines.specs.Items.{modules_of}

-- what the grammar asks of one piece

pub data Terminal : Type 0 where
  The_word : List ℕ → Terminal  -- a word with this text: a quoted name never is one
  The_call : List ℕ → Terminal  -- a word with this text and a `(` directly behind it
  A_name : Terminal  -- any word, or a name between backquotes
  A_field : Terminal  -- a name, or digits
  A_number : Terminal  -- digits that are a number
  A_major : Terminal  -- digits that are the number 3 or 4, in any base
  A_format : ℕ → Terminal  -- a string that is a format with as many values to show
  A_quoted_number : Terminal  -- a string of quoted number form
  The_mark : ℕ → Terminal
  The_arrow : Terminal
  Line_ends : Terminal
  Opens : Terminal
  Closes : Terminal
  Ends : Terminal

-- A string has quoted number form where it holds `h`, `o` or `b`, maybe a minus, and digits of that base.
pub data IsQuotedNumber (bytes : List ℕ) (negative : Bool) (magnitude : ℕ) : Type 0 where
  quoted : (base : Base) (digits : List ℕ) → base ≢ Decimal → negative ≡ false → bytes ≡ 34 ∷ letter base ∷ (digits ++ 34 ∷ [])
      → WritesDigits base digits magnitude → IsQuotedNumber bytes negative magnitude
  quoted_minus : (base : Base) (digits : List ℕ) → base ≢ Decimal → negative ≡ true → bytes ≡ 34 ∷ letter base ∷ 45 ∷ (digits ++ 34 ∷ [])
      → WritesDigits base digits magnitude → IsQuotedNumber bytes negative magnitude

abbrev pub Takes : Terminal → Piece → Type 0
Takes (The_word text) (A_token kind.Word bytes) = bytes ≡ text
Takes (The_call text) (A_token kind.Call bytes) = bytes ≡ text ++ codes "("
Takes A_name (A_token kind.Word bytes) = Unit {0}
Takes A_name (A_token kind.Quoted bytes) = Unit {0}
Takes A_field (A_token kind.Word bytes) = Unit {0}
Takes A_field (A_token kind.Quoted bytes) = Unit {0}
Takes A_field (A_token kind.Digits bytes) = Unit {0}
Takes A_number (A_token kind.Digits bytes) = (n : ℕ) × IsMagnitude bytes n
Takes A_major (A_token kind.Digits bytes) = IsMagnitude bytes 3 ⊎ IsMagnitude bytes 4
Takes (A_format n) (A_token kind.Text bytes) = (pieces : List PrintPiece) × IsQuotedFormat bytes pieces × (shows pieces ≡ n)
Takes A_quoted_number (A_token kind.Text bytes) = (negative : Bool) × (n : ℕ) × IsQuotedNumber bytes negative n
Takes (The_mark m) (A_token (kind.Mark n) bytes) = n ≡ m
Takes The_arrow (A_token kind.Arrow bytes) = Unit {0}
Takes Line_ends A_line_end = Unit {0}
Takes Opens A_block_opens = Unit {0}
Takes Closes A_block_closes = Unit {0}
Takes Ends The_end = Unit {0}
Takes _ _ = ⊥

-- The rules. `{x}` is a rule of its own: nothing, or an x and then itself. Where it always ends in one token, that token
-- stands in its last case.

pub data Rule : Type 0 where
  Text : Rule
  Circuit_body : Rule
  Modules : Rule
  Module : Rule
  Module_body : Rule
  Ports : Rule
  Port : Rule
  Type_of : Rule
  Lengths : Rule
  Base_type : Rule
  Width : Rule
  Fields : Rule
  Field : Rule
  Statements : Rule
  Statement : Rule
  Printed : Rule
  Item_end : Rule
  Block : Rule
  Branches : Rule
  Memory_lines : Rule
  Memory_line : Rule
  Under_write : Rule
  Expression : Rule
  Expressions : ℕ → Rule
  Numbers : ℕ → Rule
  Reference : Rule
  Suffixes : Rule
  Integer : Rule

-- what the tree keeps of a piece
pub data Kept : Type 0 where
  Nothing : Kept
  Its_place : Kept
  Its_name : Kept
  Its_magnitude : Kept
  Its_place_and_magnitude : Kept
  Its_number : Kept
  Its_pieces : Kept

pub data Symbol : Type 0 where
  Is : Kept → Terminal → Symbol
  A : Rule → Symbol

abbrev pub word : String → Symbol
word text = Is Nothing (The_word (codes text))

abbrev pub word_at : String → Symbol
word_at text = Is Its_place (The_word (codes text))

abbrev pub call_at : String → Symbol
call_at text = Is Its_place (The_call (codes text))

abbrev pub colon : Symbol
colon = Is Nothing (The_mark 58)

abbrev pub close : Symbol
close = Is Nothing (The_mark 41)

abbrev pub mark : ℕ → Symbol
mark m = Is Nothing (The_mark m)

abbrev pub mark_at : ℕ → Symbol
mark_at m = Is Its_place (The_mark m)

abbrev pub name : Symbol
name = Is Its_name A_name

abbrev pub field : Symbol
field = Is Its_name A_field

abbrev pub number : Symbol
number = Is Its_magnitude A_number

abbrev pub arrow : Symbol
arrow = Is Nothing The_arrow

abbrev pub line_end : Symbol
line_end = Is Nothing Line_ends

abbrev pub open_block : Symbol
open_block = Is Nothing Opens

abbrev pub close_block : Symbol
close_block = Is Nothing Closes

-- The cases of the rules, in the order of the rules. A name is a word or a quoted name; EOL is the end of a line.
pub data IsCase : Rule → List Symbol → Type 0 where
  -- text = "FIRRTL" "version" (3 or 4) "." num "." num EOL "circuit" name ":" EOL [Open {module} Close] End
  a_text : IsCase Text (word "FIRRTL" ∷ word "version" ∷ Is Its_magnitude A_major ∷ mark 46 ∷ Is Nothing A_number ∷ mark 46 ∷ Is Nothing A_number ∷ line_end
      ∷ word "circuit" ∷ name ∷ colon ∷ line_end ∷ A Circuit_body ∷ Is Nothing Ends ∷ [])
  no_modules : IsCase Circuit_body []
  some_modules : IsCase Circuit_body (open_block ∷ A Modules ∷ [])
  last_module : IsCase Modules (close_block ∷ [])
  next_module : IsCase Modules (A Module ∷ A Modules ∷ [])
  -- module = ["public"] "module" name ":" EOL [Open {port EOL} {stmt} Close]
  a_module : IsCase Module (word "module" ∷ name ∷ colon ∷ line_end ∷ A Module_body ∷ [])
  a_public_module : IsCase Module (word "public" ∷ word "module" ∷ name ∷ colon ∷ line_end ∷ A Module_body ∷ [])
  no_module_body : IsCase Module_body []
  a_module_body : IsCase Module_body (open_block ∷ A Ports ∷ [])
  next_port : IsCase Ports (A Port ∷ line_end ∷ A Ports ∷ [])
  last_port : IsCase Ports (A Statements ∷ [])
  -- port = ("input" or "output") name ":" type
  an_input : IsCase Port (word "input" ∷ name ∷ colon ∷ A Type_of ∷ [])
  an_output : IsCase Port (word "output" ∷ name ∷ colon ∷ A Type_of ∷ [])
  -- type = base {"[" num "]"}
  a_type : IsCase Type_of (A Base_type ∷ A Lengths ∷ [])
  last_length : IsCase Lengths []
  next_length : IsCase Lengths (mark 91 ∷ number ∷ mark 93 ∷ A Lengths ∷ [])
  -- base = ("UInt" or "SInt") ["<" num ">"] | "Clock" | "Reset" | "{" {["flip"] field ":" type} "}"
  an_unsigned : IsCase Base_type (word_at "UInt" ∷ A Width ∷ [])
  a_signed : IsCase Base_type (word_at "SInt" ∷ A Width ∷ [])
  a_clock : IsCase Base_type (word_at "Clock" ∷ [])
  a_reset : IsCase Base_type (word_at "Reset" ∷ [])
  a_bundle : IsCase Base_type (mark_at 123 ∷ A Fields ∷ [])
  no_width : IsCase Width []
  a_width : IsCase Width (mark 60 ∷ number ∷ mark 62 ∷ [])
  last_field : IsCase Fields (mark 125 ∷ [])
  next_field : IsCase Fields (A Field ∷ A Fields ∷ [])
  plain_field : IsCase Field (field ∷ colon ∷ A Type_of ∷ [])
  flipped_field : IsCase Field (word "flip" ∷ field ∷ colon ∷ A Type_of ∷ [])
  -- {stmt} Close
  last_statement : IsCase Statements (close_block ∷ [])
  next_statement : IsCase Statements (A Statement ∷ A Statements ∷ [])
  -- stmt = "wire" name ":" type EOL
  a_wire : IsCase Statement (word "wire" ∷ name ∷ colon ∷ A Type_of ∷ line_end ∷ [])
  -- | "reg" name ":" type expr EOL
  a_register : IsCase Statement (word "reg" ∷ name ∷ colon ∷ A Type_of ∷ A Expression ∷ line_end ∷ [])
  -- | "regreset" name ":" type expr expr expr EOL
  a_reset_register : IsCase Statement (word "regreset" ∷ name ∷ colon ∷ A Type_of ∷ A Expression ∷ A Expression ∷ A Expression ∷ line_end ∷ [])
  -- | "mem" name ":" EOL Open {memline EOL} Close
  a_memory : IsCase Statement (word "mem" ∷ name ∷ colon ∷ line_end ∷ open_block ∷ A Memory_lines ∷ [])
  -- | "inst" name "of" name EOL
  an_instance : IsCase Statement (word "inst" ∷ name ∷ word "of" ∷ name ∷ line_end ∷ [])
  -- | "node" name "=" expr EOL
  a_node : IsCase Statement (word "node" ∷ name ∷ mark 61 ∷ A Expression ∷ line_end ∷ [])
  -- | "connect" ref expr EOL
  a_connect : IsCase Statement (word "connect" ∷ A Reference ∷ A Expression ∷ line_end ∷ [])
  -- | "invalidate" ref EOL
  an_invalidate : IsCase Statement (word "invalidate" ∷ A Reference ∷ line_end ∷ [])
  -- | "when" expr ":" EOL [block] {"else" "when" expr ":" EOL [block]} ["else" ":" EOL [block]]
  a_when : IsCase Statement (word "when" ∷ A Expression ∷ colon ∷ line_end ∷ A Block ∷ A Branches ∷ [])
  -- | "skip" EOL
  a_skip : IsCase Statement (word_at "skip" ∷ line_end ∷ [])
  -- | printf( expr expr format, as many expr as it shows, ")" [":" name] EOL
  a_print : IsCase Statement (call_at "printf" ∷ A Expression ∷ A Expression ∷ A Printed ∷ A Item_end ∷ [])
  printed : (n : ℕ) → IsCase Printed (Is Its_pieces (A_format n) ∷ A (Expressions n) ∷ close ∷ [])
  -- | stop( expr expr num ")" [":" name] EOL
  a_stop : IsCase Statement (call_at "stop" ∷ A Expression ∷ A Expression ∷ number ∷ close ∷ A Item_end ∷ [])
  without_label : IsCase Item_end (line_end ∷ [])
  with_label : IsCase Item_end (colon ∷ Is Nothing A_name ∷ line_end ∷ [])
  no_branch : IsCase Branches []
  else_when : IsCase Branches (word "else" ∷ word "when" ∷ A Expression ∷ colon ∷ line_end ∷ A Block ∷ A Branches ∷ [])
  else_ : IsCase Branches (word "else" ∷ colon ∷ line_end ∷ A Block ∷ [])
  -- block = Open {stmt} Close
  no_block : IsCase Block []
  a_block : IsCase Block (open_block ∷ A Statements ∷ [])
  -- {memline EOL} Close
  last_memory_line : IsCase Memory_lines (close_block ∷ [])
  next_memory_line : IsCase Memory_lines (A Memory_line ∷ line_end ∷ A Memory_lines ∷ [])
  -- memline = "data-type" Arrow type
  a_data_type : IsCase Memory_line (word_at "data-type" ∷ arrow ∷ A Type_of ∷ [])
  -- | ("depth" or "read-latency" or "write-latency") Arrow num
  a_depth : IsCase Memory_line (word_at "depth" ∷ arrow ∷ number ∷ [])
  a_read_latency : IsCase Memory_line (word_at "read-latency" ∷ arrow ∷ number ∷ [])
  a_write_latency : IsCase Memory_line (word_at "write-latency" ∷ arrow ∷ number ∷ [])
  -- | "read-under-write" Arrow ("old" or "new" or "undefined")
  a_read_under_write : IsCase Memory_line (word_at "read-under-write" ∷ arrow ∷ A Under_write ∷ [])
  under_old : IsCase Under_write (word "old" ∷ [])
  under_new : IsCase Under_write (word "new" ∷ [])
  under_undefined : IsCase Under_write (word "undefined" ∷ [])
  -- | ("reader" or "writer" or "readwriter") Arrow name
  a_reader : IsCase Memory_line (word_at "reader" ∷ arrow ∷ name ∷ [])
  a_writer : IsCase Memory_line (word_at "writer" ∷ arrow ∷ name ∷ [])
  a_readwriter : IsCase Memory_line (word_at "readwriter" ∷ arrow ∷ name ∷ [])
  -- expr = ref | literal | mux( expr expr expr ")"
  a_reference : IsCase Expression (A Reference ∷ [])
  a_mux : IsCase Expression (call_at "mux" ∷ A (Expressions 3) ∷ close ∷ [])
  -- | op( as many expr, then as many num, as the operation takes, ")"
  an_operation : (prim : PrimOp) → IsWritten prim → IsCase Expression
      (Is Its_place (The_call (name_of prim)) ∷ A (Expressions (arity_of prim).0) ∷ A (Numbers (arity_of prim).1) ∷ close ∷ [])
  no_more_expressions : IsCase (Expressions 0) []
  one_more_expression : (n : ℕ) → IsCase (Expressions (suc n)) (A Expression ∷ A (Expressions n) ∷ [])
  no_more_numbers : IsCase (Numbers 0) []
  one_more_number : (n : ℕ) → IsCase (Numbers (suc n)) (number ∷ A (Numbers n) ∷ [])
  -- ref = name {"." field | "[" num "]" | "[" expr "]"}
  a_component : IsCase Reference (name ∷ A Suffixes ∷ [])
  no_suffix : IsCase Suffixes []
  a_field_suffix : IsCase Suffixes (mark 46 ∷ field ∷ A Suffixes ∷ [])
  an_element_suffix : IsCase Suffixes (mark_at 91 ∷ Is Its_place_and_magnitude A_number ∷ mark 93 ∷ A Suffixes ∷ [])
  an_index_suffix : IsCase Suffixes (mark_at 91 ∷ A Expression ∷ mark 93 ∷ A Suffixes ∷ [])
  -- literal = UInt( or SInt( int ")" | ("UInt" or "SInt") "<" num ">" "(" int ")"
  an_unsigned_literal : IsCase Expression (call_at "UInt" ∷ A Integer ∷ close ∷ [])
  a_signed_literal : IsCase Expression (call_at "SInt" ∷ A Integer ∷ close ∷ [])
  a_wide_unsigned_literal : IsCase Expression (word_at "UInt" ∷ mark 60 ∷ number ∷ mark 62 ∷ mark 40 ∷ A Integer ∷ close ∷ [])
  a_wide_signed_literal : IsCase Expression (word_at "SInt" ∷ mark 60 ∷ number ∷ mark 62 ∷ mark 40 ∷ A Integer ∷ close ∷ [])
  -- int = ["-"] num | a string of quoted number form
  a_plain_integer : IsCase Integer (number ∷ [])
  a_negative_integer : IsCase Integer (mark 45 ∷ number ∷ [])
  a_quoted_integer : IsCase Integer (Is Its_number A_quoted_number ∷ [])

-- the symbols derive the pieces, in order
pub data Derives : List Symbol → List Piece → Type 0 where
  done : Derives [] []
  meets : {k : Kept} {s : Terminal} {ss : List Symbol} {p : Piece} {ps : List Piece} → Takes s p → Derives ss ps → Derives (Is k s ∷ ss) (p ∷ ps)
  expands : {r : Rule} {ss : List Symbol} {ps : List Piece} (body : List Symbol) → IsCase r body → Derives (body ++ ss) ps → Derives (A r ∷ ss) ps

-- The pieces are a front of what the symbols derive: there are none, or the first is taken and the rest is a front of what
-- follows. Every case derives some list, so the fronts of a text are just the prefixes of what is derived.
pub data Front : List Symbol → List Piece → Type 0 where
  cut : {ss : List Symbol} → Front ss []
  takes_on : {k : Kept} {s : Terminal} {ss : List Symbol} {p : Piece} {ps : List Piece} → Takes s p → Front ss ps → Front (Is k s ∷ ss) (p ∷ ps)
  goes_into : {r : Rule} {ss : List Symbol} {ps : List Piece} (body : List Symbol) → IsCase r body → Front (body ++ ss) ps → Front (A r ∷ ss) ps

-- what is built for each rule
abbrev pub Tree : Rule → Type 0
Tree Text = ℕ × (Name × List LineModule)
Tree Circuit_body = List LineModule
Tree Modules = List LineModule
Tree Module = LineModule
Tree Module_body = List ModulePort × List Line
Tree Ports = List ModulePort × List Line
Tree Port = ModulePort
Tree Type_of = FirType
Tree Lengths = List ℕ
Tree Base_type = FirType
Tree Width = Option ℕ
Tree Fields = List BundleField
Tree Field = BundleField
Tree Statements = List Line
Tree Statement = Line
Tree Printed = List PrintPiece × List Expr
Tree Item_end = Unit {0}
Tree Block = List Line
Tree Branches = List LineArm × List Line
Tree Memory_lines = List MemLine
Tree Memory_line = MemLine
Tree Under_write = Under
Tree Expression = Expr
Tree (Expressions n) = List Expr
Tree (Numbers n) = List ℕ
Tree Reference = Expr
Tree Suffixes = List Suffix
Tree Integer = Number

-- what the symbols of a case give to its tree: the kept parts of the pieces, and the trees of the rules, in order
abbrev pub Values : List Symbol → Type 0
Values [] = Unit {0}
Values (Is Nothing s ∷ ss) = Values ss
Values (Is Its_place s ∷ ss) = Place × Values ss
Values (Is Its_name s ∷ ss) = Name × Values ss
Values (Is Its_magnitude s ∷ ss) = ℕ × Values ss
Values (Is Its_place_and_magnitude s ∷ ss) = Place × (ℕ × Values ss)
Values (Is Its_number s ∷ ss) = Number × Values ss
Values (Is Its_pieces s ∷ ss) = List PrintPiece × Values ss
Values (A r ∷ ss) = Tree r × Values ss

-- a base type, and vectors of it with these lengths, the innermost first
abbrev pub vectors : FirType → List ℕ → FirType
vectors typ [] = typ
vectors typ (n ∷ ns) = vectors (record { place = typ.place; shape = shape.Vector typ n }) ns

-- The tree of each case in a text of this version, in the order of the cases. A type and an expression have the place of their first piece.
abbrev pub tree : ℕ → {r : Rule} {body : List Symbol} → IsCase r body → Values body → Tree r
tree major a_text (version, (main, (modules, _))) = (version, (main, modules))
tree major no_modules _ = []
tree major some_modules (modules, _) = modules
tree major last_module _ = []
tree major next_module (first, (others, _)) = first ∷ others
tree major a_module (name, (body, _)) = record { name = name; ports = body.0; body = body.1 }
tree major a_public_module (name, (body, _)) = record { name = name; ports = body.0; body = body.1 }
tree major no_module_body _ = ([], [])
tree major a_module_body (body, _) = body
tree major next_port (port, (body, _)) = (port ∷ body.0, body.1)
tree major last_port (statements, _) = ([], statements)
tree major an_input (name, (typ, _)) = record { output = false; name = name; typ = typ }
tree major an_output (name, (typ, _)) = record { output = true; name = name; typ = typ }
tree major a_type (base, (lengths, _)) = vectors base lengths
tree major last_length _ = []
tree major next_length (n, (ns, _)) = n ∷ ns
tree major an_unsigned (at, (width, _)) = record { place = at; shape = shape.Unsigned width }
tree major a_signed (at, (width, _)) = record { place = at; shape = shape.Signed width }
tree major a_clock (at, _) = record { place = at; shape = shape.Clock }
tree major a_reset (at, _) = record { place = at; shape = shape.Reset }
tree major a_bundle (at, (fields, _)) = record { place = at; shape = shape.Bundle fields }
tree major no_width _ = None
tree major a_width (n, _) = Some n
tree major last_field _ = []
tree major next_field (first, (others, _)) = first ∷ others
tree major plain_field (name, (typ, _)) = record { flip = false; name = name; typ = typ }
tree major flipped_field (name, (typ, _)) = record { flip = true; name = name; typ = typ }
tree major last_statement _ = []
tree major next_statement (first, (others, _)) = first ∷ others
tree major a_wire (name, (typ, _)) = entry.Plain (stmt.Wire name typ)
tree major a_register (name, (typ, (clock, _))) = entry.Plain (stmt.Reg name typ clock)
tree major a_reset_register (name, (typ, (clock, (reset, (init, _))))) = entry.Plain (stmt.RegReset name typ clock reset init)
tree major a_memory (name, (lines, _)) = entry.Plain (stmt.Mem (record { name = name; lines = lines }))
tree major an_instance (name, (of, _)) = entry.Plain (stmt.Inst name of)
tree major a_node (name, (value, _)) = entry.Plain (stmt.Node name value)
tree major a_connect (driven, (source, _)) = entry.Plain (stmt.Connect driven source)
tree major an_invalidate (driven, _) = entry.Plain (stmt.Invalidate driven)
tree major a_when (condition, (body, (branches, _))) = entry.Branch (record { condition = condition; body = body } ∷ branches.0) branches.1
tree major a_skip (at, _) = entry.Plain (stmt.Skip at)
tree major a_print (at, (clock, (condition, (what, _)))) = entry.Print at clock condition what.0 what.1
tree major (printed n) (pieces, (arguments, _)) = (pieces, arguments)
tree major a_stop (at, (clock, (condition, (code, _)))) = entry.Stop at clock condition code
tree major without_label _ = tt
tree major with_label _ = tt
tree major no_branch _ = ([], [])
tree major else_when (condition, (body, (branches, _))) = (record { condition = condition; body = body } ∷ branches.0, branches.1)
tree major else_ (body, _) = ([], body)
tree major no_block _ = []
tree major a_block (statements, _) = statements
tree major last_memory_line _ = []
tree major next_memory_line (first, (others, _)) = first ∷ others
tree major a_data_type (at, (typ, _)) = line.Element at typ
tree major a_depth (at, (n, _)) = line.Depth at n
tree major a_read_latency (at, (n, _)) = line.ReadLatency at n
tree major a_write_latency (at, (n, _)) = line.WriteLatency at n
tree major a_read_under_write (at, (what, _)) = line.ReadUnder at what
tree major under_old _ = under.Old
tree major under_new _ = under.New
tree major under_undefined _ = under.Undefined
tree major a_reader (at, (name, _)) = line.MemPort at mode.Reader name
tree major a_writer (at, (name, _)) = line.MemPort at mode.Writer name
tree major a_readwriter (at, (name, _)) = line.MemPort at mode.ReadWriter name
tree major a_reference (expr, _) = expr
tree major a_mux (at, (operands, _)) = record { place = at; form = form.Mux operands }
tree major (an_operation prim written) (at, (operands, (parameters, _))) = record { place = at; form = form.Prim (of_version major prim) operands parameters }
tree major no_more_expressions _ = []
tree major (one_more_expression n) (first, (others, _)) = first ∷ others
tree major no_more_numbers _ = []
tree major (one_more_number n) (first, (others, _)) = first ∷ others
tree major a_component (name, (suffixes, _)) = record { place = name.place; form = form.Ref name suffixes }
tree major no_suffix _ = []
tree major a_field_suffix (name, (others, _)) = suffix.Field name ∷ others
tree major an_element_suffix (at, (number_at, (n, (others, _)))) = suffix.At at number_at n ∷ others
tree major an_index_suffix (at, (index, (others, _))) = suffix.Index at index ∷ others
tree major an_unsigned_literal (at, (n, _)) = record { place = at; form = form.Literal sign.Unsigned None n }
tree major a_signed_literal (at, (n, _)) = record { place = at; form = form.Literal sign.Signed None n }
tree major a_wide_unsigned_literal (at, (width, (n, _))) = record { place = at; form = form.Literal sign.Unsigned (Some width) n }
tree major a_wide_signed_literal (at, (width, (n, _))) = record { place = at; form = form.Literal sign.Signed (Some width) n }
tree major a_plain_integer (n, _) = record { negative = false; magnitude = n }
tree major a_negative_integer (n, _) = record { negative = true; magnitude = n }
tree major a_quoted_integer (n, _) = n

-- where a part of the laid list begins, as an offset into the text
abbrev pub start_of : Laid → ℕ
start_of (laid.Item token) = token.start
start_of (laid.LineEnd at) = at
start_of (laid.Open at) = at
start_of (laid.Close at) = at
start_of (laid.End at) = at

-- the text of a name: without the backquotes, where it has them
abbrev pub name_in : TokenKind → List ℕ → List ℕ
name_in kind.Quoted bytes = take (length bytes - 2) (drop 1 bytes)
name_in _ bytes = bytes

-- From the first list the symbols are spelled up to the second, and give these values. The names are numbered in the order
-- of their first use: those used before, then those used after it.
module _ (major : ℕ) (text : List ℕ) where
  pub data Spells : (ss : List Symbol) → List Laid → List (List ℕ) → Values ss → List Laid → List (List ℕ) → Type 0 where
    no_symbol : {ls : List Laid} {names : List (List ℕ)} → Spells [] ls names tt ls names
    a_rule : {r : Rule} {ss : List Symbol} {body : List Symbol} {ls mid rest : List Laid} {names between after : List (List ℕ)} {ws : Values body} {vs : Values ss}
        → (case : IsCase r body) → Spells body ls names ws mid between → Spells ss mid between vs rest after → Spells (A r ∷ ss) ls names (tree major case ws, vs) rest after
    a_piece : {s : Terminal} {ss : List Symbol} {l : Laid} {ls rest : List Laid} {names after : List (List ℕ)} {vs : Values ss}
        → Takes s (piece_of text l) → Spells ss ls names vs rest after → Spells (Is Nothing s ∷ ss) (l ∷ ls) names vs rest after
    a_place : {s : Terminal} {ss : List Symbol} {l : Laid} {ls rest : List Laid} {names after : List (List ℕ)} {vs : Values ss}
        → Takes s (piece_of text l) → Spells ss ls names vs rest after → Spells (Is Its_place s ∷ ss) (l ∷ ls) names (place text (start_of l), vs) rest after
    a_name : {s : Terminal} {ss : List Symbol} {token : Token} {ls rest : List Laid} {names more after : List (List ℕ)} {vs : Values ss} {id : ℕ}
        → Takes s (piece_of text (laid.Item token)) → AddsName names more (name_in token.kind (bytes_of text token)) id → Spells ss ls more vs rest after
        → Spells (Is Its_name s ∷ ss) (laid.Item token ∷ ls) names (record { id = id; place = place text token.start }, vs) rest after
    a_magnitude : {s : Terminal} {ss : List Symbol} {token : Token} {ls rest : List Laid} {names after : List (List ℕ)} {vs : Values ss} {n : ℕ}
        → Takes s (piece_of text (laid.Item token)) → IsMagnitude (bytes_of text token) n → Spells ss ls names vs rest after
        → Spells (Is Its_magnitude s ∷ ss) (laid.Item token ∷ ls) names (n, vs) rest after
    a_placed_magnitude : {s : Terminal} {ss : List Symbol} {token : Token} {ls rest : List Laid} {names after : List (List ℕ)} {vs : Values ss} {n : ℕ}
        → Takes s (piece_of text (laid.Item token)) → IsMagnitude (bytes_of text token) n → Spells ss ls names vs rest after
        → Spells (Is Its_place_and_magnitude s ∷ ss) (laid.Item token ∷ ls) names (place text token.start, (n, vs)) rest after
    a_quoted : {s : Terminal} {ss : List Symbol} {token : Token} {ls rest : List Laid} {names after : List (List ℕ)} {vs : Values ss} {n : Number}
        → Takes s (piece_of text (laid.Item token)) → IsQuotedNumber (bytes_of text token) n.negative n.magnitude → Spells ss ls names vs rest after
        → Spells (Is Its_number s ∷ ss) (laid.Item token ∷ ls) names (n, vs) rest after
    a_format : {s : Terminal} {ss : List Symbol} {token : Token} {ls rest : List Laid} {names after : List (List ℕ)} {vs : Values ss} {pieces : List PrintPiece}
        → Takes s (piece_of text (laid.Item token)) → IsQuotedFormat (bytes_of text token) pieces → Spells ss ls names vs rest after
        → Spells (Is Its_pieces s ∷ ss) (laid.Item token ∷ ls) names (pieces, vs) rest after

-- the fields of memory ports, which have the first numbers
abbrev pub field_names : List (List ℕ)
field_names = codes "addr" ∷ codes "en" ∷ codes "clk" ∷ codes "data" ∷ codes "mask" ∷ codes "rdata" ∷ codes "wmode" ∷ codes "wdata" ∷ codes "wmask" ∷ []

-- The laid list of a text is the spelling of these modules, read in its version. The texts of names are numbered first.
pub record IsSpelled (text : List ℕ) (list : List Laid) (major : ℕ) (main : Name) (modules : List LineModule) (names : List (List ℕ)) : Type 0 where
  pub spelled : Spells major text (A Text ∷ []) list field_names ((major, (main, modules)), tt) [] names

-- the circuit of modules as a text writes them: each item stands for its statements
abbrev pub circuit_of : Name → List LineModule → List (List ℕ) → Circuit
circuit_of main modules names =
    let made = modules_of 0 modules names in
    record { names = made.1; main = main; modules = made.0.0; prints = made.0.1 }

-- the laid list of a text is the spelling of the circuit
pub record IsCircuit (text : List ℕ) (list : List Laid) (circuit : Circuit) : Type 0 where
  pub major : ℕ
  pub lines : List LineModule
  pub names : List (List ℕ)
  pub spelled : IsSpelled text list major circuit.main lines names
  pub is : circuit ≡ circuit_of circuit.main lines names
