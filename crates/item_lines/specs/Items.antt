-- What the items of a text stand for. The `printf` and `stop` lines of a module are numbered from 0 in text order. The item with number
-- k stands for a wire `#k`, which is 0 from the beginning of the body, and in its own place for a register `#kc` under its clock, a
-- connect of its condition to the wire, and a node `#kaj` for each argument. No text can write these names.
use Rattle.std.specs.Prelude.{ℕ, ◌+◌, false, List, [], ◌∷◌, ◌++◌, map, length, Option, Some, None, if◌then◌else◌, bytes_eq, codes, decimal}
use Rattle.bit_words.specs.declared.value.Kind.TheVariants.{Unsigned as Plain_kind}
use Rattle.place_text.specs.declared.place.Place.{Place}
use Rattle.fir_types.specs.declared.name.Name.{Name}
use Rattle.fir_types.specs.declared.fir_type.FirType.{FirType}
use Rattle.fir_types.specs.declared.fir_type.Shape.TheVariants as shape
use Rattle.prim_ops.specs.declared.operation.PrimOp.TheVariants.{Pad}
use Rattle.fir_tree.specs.declared.expr.Expr.{Expr}
use Rattle.fir_tree.specs.declared.expr.Form.TheVariants as form
use Rattle.fir_tree.specs.declared.stmt.Stmt.{Stmt}
use Rattle.fir_tree.specs.declared.stmt.Stmt.TheVariants as stmt
use Rattle.fir_tree.specs.declared.stmt.Arm.{Arm}
use Rattle.fir_tree.specs.declared.circuit.Module.{Module}
use Rattle.fir_tree.specs.declared.print.Piece.{Piece}
use Rattle.fir_tree.specs.declared.print.PrintItem.{PrintItem}
use Rattle.item_lines.specs.declared.line.Line.{Line, fold-Line}
use Rattle.item_lines.specs.declared.line.Line.TheOpen.{Line-F, LineArm-F}
use Rattle.item_lines.specs.declared.line.LineModule.{LineModule}

-- the names of an item
abbrev pub wire_name : ℕ → List ℕ
wire_name k = codes "#" ++ decimal k

abbrev pub clock_name : ℕ → List ℕ
clock_name k = wire_name k ++ codes "c"

abbrev pub argument_name : ℕ → ℕ → List ℕ
argument_name k j = wire_name k ++ codes "a" ++ decimal j

-- The texts with one that is added at the end where it is new, and the number that it has there.
abbrev pub with_name : List (List ℕ) → List ℕ → List (List ℕ)
with_name [] text = text ∷ []
with_name (first ∷ others) text = if bytes_eq first text then first ∷ others else first ∷ with_name others text

abbrev pub number_in : List (List ℕ) → List ℕ → ℕ
number_in [] text = 0
number_in (first ∷ others) text = if bytes_eq first text then 0 else number_in others text + 1

abbrev pub name_at : List (List ℕ) → List ℕ → Place → Name
name_at names text at = record { id = number_in names text; place = at }

-- `UInt<1>`, `UInt<1>(0)`, a reference to a component, and `pad(e, 0)`, which has the place of e
abbrev pub one_bit : Place → FirType
one_bit at = record { place = at; shape = shape.Unsigned (Some 1) }

abbrev pub zero_bit : Place → Expr
zero_bit at = record { place = at; form = form.Literal Plain_kind (Some 1) (record { negative = false; magnitude = 0 }) }

abbrev pub component : Name → Expr
component name = record { place = name.place; form = form.Ref name [] }

abbrev pub padded : Expr → Expr
padded e = record { place = e.place; form = form.Prim Pad (e ∷ []) (0 ∷ []) }

-- What is made, and the texts of the names that there are then.
abbrev pub Made : Type 0 → Type 0
Made T = T × List (List ℕ)

-- a node for each argument of item k, from number j on
abbrev pub argument_nodes : ℕ → ℕ → Place → List Expr → List (List ℕ) → Made (List Stmt)
argument_nodes k j at [] names = ([], names)
argument_nodes k j at (e ∷ others) names =
    let more = with_name names (argument_name k j) in
    let rest = argument_nodes k (j + 1) at others more in
    (stmt.Node (name_at more (argument_name k j) at) (padded e) ∷ rest.0, rest.1)

-- what stands in the place of item k
abbrev pub item_stmts : ℕ → Place → Expr → Expr → List Expr → List (List ℕ) → Made (List Stmt)
item_stmts k at clock condition arguments names =
    let more = with_name names (clock_name k) in
    let most = with_name more (wire_name k) in
    let nodes = argument_nodes k 0 at arguments most in
    (stmt.Reg (name_at more (clock_name k) at) (one_bit at) clock ∷ stmt.Connect (component (name_at most (wire_name k) at)) condition ∷ nodes.0, nodes.1)

-- what stands for it at the beginning of the body
abbrev pub head_stmts : ℕ → Place → List (List ℕ) → Made (List Stmt)
head_stmts k at names =
    let more = with_name names (wire_name k) in
    let wire = name_at more (wire_name k) at in
    (stmt.Wire wire (one_bit at) ∷ stmt.Connect (component wire) (zero_bit at) ∷ [], more)

-- and for all items from number k on, in order
abbrev pub heads : ℕ → List Place → List (List ℕ) → Made (List Stmt)
heads k [] names = ([], names)
heads k (at ∷ others) names =
    let first = head_stmts k at names in
    let rest = heads (k + 1) others first.1 in
    (first.0 ++ rest.0, rest.1)

-- An item of a module: its place, its code where it is a `stop`, and its pieces.
pub record Item : Type 0 where
  pub place : Place
  pub stop : Option ℕ
  pub pieces : List Piece

-- The names and the items of the lines before.
pub record Before : Type 0 where
  pub names : List (List ℕ)
  pub items : List Item

-- What lines stand for behind others, and what there is before the next ones.
abbrev pub Stands : Type 0 → Type 0
Stands T = Before → T × Before

-- one after the other
abbrev pub in_order : {T : Type 0} → List (Stands T) → Stands (List T)
in_order [] b = ([], b)
in_order (first ∷ later) b =
    let x = first b in
    let xs = in_order later x.1 in
    (x.0 ∷ xs.0, xs.1)

abbrev pub joined : List (List Stmt) → List Stmt
joined [] = []
joined (stmts ∷ later) = stmts ++ joined later

abbrev pub in_block : List (Stands (List Stmt)) → Stands (List Stmt)
in_block lines b =
    let made = in_order lines b in
    (joined made.0, made.1)

-- the next item
abbrev pub the_item : Place → Expr → Expr → List Expr → Option ℕ → List Piece → Stands (List Stmt)
the_item at clock condition arguments stop pieces b =
    let made = item_stmts (length b.items) at clock condition arguments b.names in
    (made.0, record { names = made.1; items = b.items ++ record { place = at; stop = stop; pieces = pieces } ∷ [] })

abbrev pub of_line : Line-F (Stands (List Stmt)) (Stands Arm) → Stands (List Stmt)
of_line (Line-F.Plain s) b = (s ∷ [], b)
of_line (Line-F.Branch arms other) b =
    let made = in_order arms b in
    let last = in_block other made.1 in
    (stmt.When made.0 last.0 ∷ [], last.1)
of_line (Line-F.Print at clock condition pieces arguments) b = the_item at clock condition arguments None pieces b
of_line (Line-F.Stop at clock condition code) b = the_item at clock condition [] (Some code) [] b

abbrev pub of_arm : LineArm-F (Stands (List Stmt)) (Stands Arm) → Stands Arm
of_arm a b =
    let made = in_block a.body b in
    (record { condition = a.condition; body = made.0 }, made.1)

abbrev pub stmts_of : Line → Stands (List Stmt)
stmts_of = fold-Line (Stands (List Stmt)) (Stands Arm) of_line of_arm

-- the items of module m, numbered from k on
abbrev pub prints_from : ℕ → ℕ → List Item → List PrintItem
prints_from m k [] = []
prints_from m k (item ∷ others) = record { «module» = m; number = k; stop = item.stop; pieces = item.pieces } ∷ prints_from m (k + 1) others

-- A module and its items, behind these names.
abbrev pub module_of : ℕ → LineModule → List (List ℕ) → Made (Module × List PrintItem)
module_of m lines names =
    let body = in_block (map stmts_of lines.body) (record { names = names; items = [] }) in
    let first = heads 0 (map (λ item. item.place) body.1.items) body.1.names in
    ((record { name = lines.name; ports = lines.ports; body = first.0 ++ body.0 }, prints_from m 0 body.1.items), first.1)

-- All modules from number m on, and all their items.
abbrev pub modules_of : ℕ → List LineModule → List (List ℕ) → Made (List Module × List PrintItem)
modules_of m [] names = (([], []), names)
modules_of m (first ∷ others) names =
    let made = module_of m first names in
    let rest = modules_of (m + 1) others made.1 in
    ((made.0.0 ∷ rest.0.0, made.0.1 ++ rest.0.1), rest.1)
