-- The heads of items leave 0 in their wires, and a settled wire is 1 exactly where its item is enabled.
use Rattle.std.proofs.Common.{◌≡◌, ℕ, ◌+◌, Bool, true, false, List, [], ◌∷◌, ◌++◌, map, Option, Some, None, ℤ, refl, sym, ap, ◌∙◌, subst, arith, if◌then◌else◌, option_map}
use Rattle.std.specs.Prelude.{pos, ◌↔◌, Contains}
use Rattle.std.proofs.lemmas.Grind.{common_steps}
use Rattle.place_text.specs.declared.place.Place.{Place}
use Rattle.bit_words.specs.declared.value.Kind.TheVariants.{Unsigned as Plain_kind}
use Rattle.fir_types.specs.declared.name.Name.{Name}
use Rattle.fir_types.specs.declared.fir_type.Shape.TheViews.{out-Shape}
use Rattle.fir_types.specs.declared.fir_type.FirType.{FirType}
use Rattle.fir_tree.specs.declared.expr.Expr.{Expr, the_lemmas as expr_lemmas}
use Rattle.fir_tree.specs.declared.stmt.Stmt.{Stmt, the_lemmas as stmt_lemmas}
use Rattle.fir_tree.specs.declared.stmt.Stmt.TheVariants as stmt
use Rattle.item_lines.specs.Items.{zero_bit, component, head_stmts, heads}
use Rattle.fir_meaning.specs.Components.{Design, TypedModule, Component, Leaf, A_wire, module_at, type_or_empty, is_clock_shape}
use Rattle.fir_meaning.specs.Values.{Valuation, Scene, scene_of, value, spot_of, fitted}
use Rattle.fir_meaning.specs.Drives as drive
use Rattle.fir_meaning.specs.Drives.{effect, drives, left_in, set_by_connect}
use Rattle.fir_meaning.specs.States.{State, Inputs, Settled, is_driven}
use Rattle.fir_meaning.specs.WellTyped.{known_in}
use Rattle.print_stop.specs.Printing.{leads_to, Enabled}
use Rattle.print_stop.specs.Wires.{is_whole, IsBit, wire_leaf, or_zero, OnlyZero}
use Rattle.print_stop.specs.Wired.{IsItemWire}
use Rattle.print_stop.proofs.Bits.{bit_of, bit_at, is_wire}
use Rattle.print_stop.proofs.Typed.{unsigned_bit, typed_whole, one_leaf, no_clock}
use Rattle.print_stop.proofs.Enabling.{one_where_enabled}

effect-wire : (scene : Scene) (leaf : Leaf) (name : Name) (typ : FirType) (last : Option ℤ) → effect scene leaf (stmt.Wire name typ) last ≡ last
effect-wire scene leaf name typ last = grind (arith, common_steps, stmt_lemmas)

effect-connect : (scene : Scene) (leaf : Leaf) (left right : Expr) (last : Option ℤ) → effect scene leaf (stmt.Connect left right) last ≡ left_in leaf last (set_by_connect scene left right)
effect-connect scene leaf left right last = grind (arith, common_steps, stmt_lemmas)

component_whole : (scene : Scene) (wire : ℕ) (name : Name) → is_whole scene wire (component name) ≡ true
component_whole scene wire name = grind (arith, common_steps, expr_lemmas)

literal_whole : (scene : Scene) (wire : ℕ) (at : Place) → is_whole scene wire (zero_bit at) ≡ true
literal_whole scene wire at = grind (arith, common_steps, expr_lemmas)

value_zero : (scene : Scene) (at : Place) → value (zero_bit at) scene ≡ fitted Plain_kind 1 (pos 0) ∷ []
value_zero scene at = grind (arith, common_steps, expr_lemmas)

in_turn_append : (scene : Scene) (leaf : Leaf) (block more : List Stmt) (last : Option ℤ)
    → drive.in_turn (map (effect scene leaf) (block ++ more)) last ≡ drive.in_turn (map (effect scene leaf) more) (drive.in_turn (map (effect scene leaf) block) last)
in_turn_append scene leaf [] more last = refl
in_turn_append scene leaf (s ∷ block) more last = in_turn_append scene leaf block more (effect scene leaf s last)

module _ (scene : Scene) (wire : ℕ) (bit : IsBit scene wire) where
  zero_value : (at : Place) → bit_of scene bit.leaf (zero_bit at) ≡ pos 0
  zero_value at = bit_at scene bit.leaf (zero_bit at) (fitted Plain_kind 1 (pos 0)) (value_zero scene at) bit.kind bit.width

  head_zero : (k : ℕ) (at : Place) (names : List (List ℕ)) (last : Option ℤ) → or_zero last ≡ pos 0
      → or_zero (drive.in_turn (map (effect scene (wire_leaf wire)) (head_stmts k at names).0) last) ≡ pos 0
  head_zero k at names last is =
      let name : Name = _ in
      ap (λ (o : Option ℤ). or_zero (effect scene (wire_leaf wire) (stmt.Connect (component name) (zero_bit at)) o)) (effect-wire scene (wire_leaf wire) _ _ last)
      ∙ ap or_zero (effect-connect scene (wire_leaf wire) (component name) (zero_bit at) last)
      ∙ (is_wire scene wire bit).connects (component name) (zero_bit at) last (component_whole scene wire name) (literal_whole scene wire at)
      ∙ by (leads_to wire (spot_of scene (component name)))
    where
      by : (b : Bool) → (if b then bit_of scene bit.leaf (zero_bit at) else or_zero last) ≡ pos 0
      by true = zero_value at
      by false = is

  heads_zero : (k : ℕ) (places : List Place) (names : List (List ℕ)) (last : Option ℤ) → or_zero last ≡ pos 0
      → or_zero (drive.in_turn (map (effect scene (wire_leaf wire)) (heads k places names).0) last) ≡ pos 0
  heads_zero k [] names last is = is
  heads_zero k (at ∷ places) names last is =
      let first = head_stmts k at names in
      ap or_zero (in_turn_append scene (wire_leaf wire) first.0 (heads (k + 1) places first.1).0 last)
      ∙ heads_zero (k + 1) places first.1 (drive.in_turn (map (effect scene (wire_leaf wire)) first.0) last) (head_zero k at names last is)

  pub heads_leave_zero : (k : ℕ) (places : List Place) (names : List (List ℕ)) → OnlyZero scene wire (heads k places names).0
  heads_leave_zero k places names = heads_zero k places names None refl

driven_wire : (c : Component) → c.declaration.sort ≡ A_wire → is_clock_shape (out-Shape c.typ.shape) ≡ false → is_driven c (record { path = []; flip = false; typ = c.typ }) ≡ true
driven_wire c sort clock = rw (sort, clock) refl

module _ (design : Design) (s : State) (given : Inputs) (rho : Valuation) (path : List ℕ) (m : TypedModule) (c : Component) (behind : List Stmt) where
  pub settled_enabled : Settled design s given rho → module_at design path ≡ Some m → IsItemWire m c behind
      → ((scene_of m path rho).integers c.declaration.name [] ≡ pos 1) ↔ Enabled (scene_of m path rho) c.declaration.name behind
  settled_enabled settled there is =
      let scene : Scene = scene_of m path rho in
      let wire : ℕ = c.declaration.name in
      let bit : IsBit scene wire = unsigned_bit scene wire c.typ (ap type_or_empty is.declared) is.one_bit in
      let known = ap (option_map (λ (d : Component). d.typ)) is.declared in
      let whole = typed_whole (known_in m) scene wire c.typ (Some 1) known is.one_bit behind is.typed in
      let sink : is_driven c bit.leaf ≡ true = driven_wire c is.sort (no_clock c.typ (Some 1) is.one_bit) in
      let left = settled.driven path m c bit.leaf (record { reached = there; declared = is.declared; listed = subst (λ ls. Contains ls bit.leaf) (sym (one_leaf c.typ (Some 1) is.one_bit)) (0, omega arith, refl) }) sink in
      one_where_enabled scene wire bit (heads is.first is.places is.names).0 behind (heads_leave_zero scene wire bit is.first is.places is.names) whole
      ((scene_of m path rho).integers c.declaration.name []) (subst (λ (block : List Stmt). drives scene (wire_leaf wire) block ≡ Some ((scene_of m path rho).integers c.declaration.name [])) is.block left)
