-- Two circuits, swept. The counter
--   input clock : Clock
--   input reset : UInt<1>
--   output out : UInt<4>
--   regreset r : UInt<4>, clock, reset, UInt<4>(0)
--   connect r, tail(add(r, UInt<4>(1)), 1)
--   connect out, r
-- shows after two sweeps what its register holds. The names are 10 to 13, and 30 is the module. The chain
--   wire v : UInt<4>
--   wire w : UInt<4>
--   connect v, w
--   connect w, UInt<4>(5)
-- needs two sweeps, whatever the order in its text. The names are 14 and 15, and 31 is the module.
use Rattle.std.proofs.Common.{◌≡◌, ℕ, false, List, [], ◌∷◌, find, Some, arith, pos, refl, ap, ◌∙◌, option_map, if◌then◌else◌}
use Rattle.std.proofs.lemmas.Grind.{common_steps}
use Rattle.place_text.specs.declared.place.Place.{Place}
use Rattle.bit_words.specs.declared.value.Kind.TheVariants.{Unsigned}
use Rattle.fir_types.specs.declared.name.Name.{Name}
use Rattle.fir_types.specs.declared.fir_type.FirType.{FirType, the_lemmas as type_lemmas}
use Rattle.fir_types.specs.declared.fir_type.Shape.TheVariants as shape
use Rattle.fir_types.specs.declared.leaf.TypeLeaf.{TypeLeaf}
use Rattle.fir_types.specs.Leaves.{leaves}
use Rattle.fir_tree.specs.declared.expr.Expr.{Expr, the_lemmas as expr_lemmas}
use Rattle.fir_tree.specs.declared.expr.Form.TheVariants as form
use Rattle.fir_tree.specs.declared.stmt.Stmt.{Stmt, the_lemmas as stmt_lemmas}
use Rattle.fir_tree.specs.declared.stmt.Stmt.TheVariants as stmt
use Rattle.prim_ops.specs.declared.operation.PrimOp.TheVariants.{Add, Tail}
use Rattle.fir_meaning.specs.Components.{Design, TypedModule, Component, An_input, An_output, A_wire, A_reset_register, Leaf, is_clock}
use Rattle.fir_meaning.specs.Values.{Valuation, scene_of}
use Rattle.fir_meaning.specs.Drives.{drives, same_way}
use Rattle.fir_meaning.specs.States.{State, Inputs, or_else}
use Rattle.settling_laws.specs.Sweeps.{of_sort, asked, swept}

abbrev place : Place
place = record { line = 1; column = 1 }

abbrev name : ℕ → Name
name id = record { id = id; place = place }

abbrev uint : ℕ → FirType
uint width = record { place = place; shape = shape.Unsigned (Some width) }

abbrev clock_type : FirType
clock_type = record { place = place; shape = shape.Clock }

abbrev ref : ℕ → Expr
ref id = record { place = place; form = form.Ref (name id) [] }

abbrev literal : ℕ → Expr
literal n = record { place = place; form = form.Literal Unsigned (Some 4) (record { negative = false; magnitude = n }) }

abbrev leaf : ℕ → Leaf
leaf c = record { component = c; way = [] }

abbrev whole : TypeLeaf
whole = record { path = []; flip = false; typ = uint 4 }

four_leaves : leaves (uint 4) ≡ whole ∷ []
four_leaves = grind (arith, common_steps, type_lemmas)

not_clock : is_clock whole ≡ false
not_clock = grind (arith, common_steps, type_lemmas)

-- what a sweep has at the one leaf of a component of main
asked_whole : (design : Design) (s : State) (given : Inputs) (rho : Valuation) (m : TypedModule) (c : Component)
    → or_else (pos 0) (option_map (asked design s given rho [] (m, c)) (find (λ l. same_way l.path []) (leaves (uint 4)))) ≡ of_sort design s given rho c.declaration.sort [] (m, c) whole
asked_whole design s given rho m c =
    ap (λ ls. or_else (pos 0) (option_map (asked design s given rho [] (m, c)) (find (λ l. same_way l.path []) ls))) four_leaves
    ∙ ap (λ b. if b then pos 0 else of_sort design s given rho c.declaration.sort [] (m, c) whole) not_clock

-- The counter

abbrev count_later : List Stmt
count_later = stmt.Connect (ref 13) (record { place = place; form = form.Prim Tail (record { place = place; form = form.Prim Add (ref 13 ∷ literal 1 ∷ []) [] } ∷ []) (1 ∷ []) }) ∷ stmt.Connect (ref 12) (ref 13) ∷ []

abbrev count_body : List Stmt
count_body = stmt.RegReset (name 13) (uint 4) (ref 10) (ref 11) (literal 0) ∷ count_later

abbrev clock : Component
clock = record { declaration = record { name = 10; place = place; sort = An_input; block = count_body; behind = count_body }; typ = clock_type }

abbrev reset : Component
reset = record { declaration = record { name = 11; place = place; sort = An_input; block = count_body; behind = count_body }; typ = uint 1 }

abbrev out : Component
out = record { declaration = record { name = 12; place = place; sort = An_output; block = count_body; behind = count_body }; typ = uint 4 }

abbrev register : Component
register = record { declaration = record { name = 13; place = place; sort = A_reset_register (ref 10) (ref 11) (literal 0); block = count_body; behind = count_later }; typ = uint 4 }

abbrev counter : TypedModule
counter = record { name = 30; components = clock ∷ reset ∷ out ∷ register ∷ [] }

abbrev counting : Design
counting = record { main = 30; modules = counter ∷ [] }

out_driven : (rho : Valuation) → rho [] 13 [] ≡ pos 2 → drives (scene_of counter [] rho) (leaf 12) count_body ≡ Some (pos 2)
out_driven rho e = grind (arith, common_steps, stmt_lemmas, expr_lemmas, type_lemmas, e)

-- The register shows what it holds from the first sweep on, and the output from the second.
register_once : (s : State) (given : Inputs) → swept counting s given 1 [] 13 [] ≡ s.registers [] 13 []
register_once s given = asked_whole counting s given (swept counting s given 0) counter register

output_twice : (s : State) (given : Inputs) → s.registers [] 13 [] ≡ pos 2 → swept counting s given 2 [] 12 [] ≡ pos 2
output_twice s given holds =
    asked_whole counting s given (swept counting s given 1) counter out ∙ ap (or_else (pos 0)) (out_driven (swept counting s given 1) (register_once s given ∙ holds))

-- The chain

abbrev connects : List Stmt
connects = stmt.Connect (ref 14) (ref 15) ∷ stmt.Connect (ref 15) (literal 5) ∷ []

abbrev behind_v : List Stmt
behind_v = stmt.Wire (name 15) (uint 4) ∷ connects

abbrev chain_body : List Stmt
chain_body = stmt.Wire (name 14) (uint 4) ∷ behind_v

abbrev v : Component
v = record { declaration = record { name = 14; place = place; sort = A_wire; block = chain_body; behind = behind_v }; typ = uint 4 }

abbrev w : Component
w = record { declaration = record { name = 15; place = place; sort = A_wire; block = chain_body; behind = connects }; typ = uint 4 }

abbrev chain : TypedModule
chain = record { name = 31; components = v ∷ w ∷ [] }

abbrev chained : Design
chained = record { main = 31; modules = chain ∷ [] }

w_driven : (rho : Valuation) → drives (scene_of chain [] rho) (leaf 15) chain_body ≡ Some (pos 5)
w_driven rho = grind (arith, common_steps, stmt_lemmas, expr_lemmas, type_lemmas)

v_before : (rho : Valuation) → rho [] 15 [] ≡ pos 0 → drives (scene_of chain [] rho) (leaf 14) chain_body ≡ Some (pos 0)
v_before rho e = grind (arith, common_steps, stmt_lemmas, expr_lemmas, type_lemmas, e)

v_after : (rho : Valuation) → rho [] 15 [] ≡ pos 5 → drives (scene_of chain [] rho) (leaf 14) chain_body ≡ Some (pos 5)
v_after rho e = grind (arith, common_steps, stmt_lemmas, expr_lemmas, type_lemmas, e)

w_once : (s : State) (given : Inputs) → swept chained s given 1 [] 15 [] ≡ pos 5
w_once s given = asked_whole chained s given (swept chained s given 0) chain w ∙ ap (or_else (pos 0)) (w_driven (swept chained s given 0))

-- After one sweep v is still 0, and after two it has what w has.
v_once : (s : State) (given : Inputs) → swept chained s given 1 [] 14 [] ≡ pos 0
v_once s given = asked_whole chained s given (swept chained s given 0) chain v ∙ ap (or_else (pos 0)) (v_before (swept chained s given 0) refl)

v_twice : (s : State) (given : Inputs) → swept chained s given 2 [] 14 [] ≡ pos 5
v_twice s given = asked_whole chained s given (swept chained s given 1) chain v ∙ ap (or_else (pos 0)) (v_after (swept chained s given 1) (w_once s given))
