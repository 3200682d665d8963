-- What isn't sound: an item whose names no text has, one whose module has no wire for it, and a wire of two bits.
use Rattle.std.proofs.Common.{◌≡◌, ℕ, List, [], ◌∷◌, Option, Some, refl, sym, ◌∙◌, subst, arith}
use Rattle.std.proofs.lemmas.Option.{none-some, same_Some}
use Rattle.fir_types.specs.declared.fir_type.Shape.TheVariants as shape
use Rattle.fir_tree.specs.declared.print.Piece.{Piece}
use Rattle.fir_tree.specs.declared.print.PrintItem.{PrintItem}
use Rattle.fir_tree.specs.declared.stmt.Stmt.{Stmt}
use Rattle.item_lines.specs.Items.{wire_name}
use Rattle.fir_meaning.specs.Components.{Design, TypedModule, Component, component_named}
use Rattle.print_stop.specs.Wired.{IsItemWire}
use Rattle.print_stop.proofs.Typed.{unsigned_width}
use Rattle.found_items.specs.Finding.{HasItems}

no_names : (design : Design) (print : PrintItem) → ¬ (HasItems [] design (print ∷ []))
no_names design print h = none-some (wire_name print.number) (h.named print (wire_name print.number) (0, omega arith, refl) (0, omega arith, refl))

module _ (number : ℕ) (stop : Option ℕ) (pieces : List Piece) where
  bare : TypedModule
  bare = record { name = 0; components = [] }

  alone : Design
  alone = record { main = 0; modules = bare ∷ [] }

  print : PrintItem
  print = record { «module» = 0; number = number; stop = stop; pieces = pieces }

  no_wire : (texts : List (List ℕ)) → ¬ (HasItems texts alone (print ∷ []))
  unfolding bare alone print
  no_wire texts h =
      let sound = h.sound [] bare print refl (0, omega arith, refl) in
      let same : bare ≡ sound.m = same_Some bare sound.m sound.stands in
      none-some sound.wire (subst (λ (m : TypedModule). component_named m sound.wire.declaration.name ≡ Some sound.wire) (sym same) sound.is.declared)

two_bits : (m : TypedModule) (c : Component) (behind : List Stmt) → c.typ.shape ≡ shape.Unsigned (Some 2) → ¬ (IsItemWire m c behind)
two_bits m c behind two is =
    let wide : 2 ≡ 1 = sym (unsigned_width c.typ (Some 2) two) ∙ unsigned_width c.typ (Some 1) is.one_bit in
    omega (arith, wide)
