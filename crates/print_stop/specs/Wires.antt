-- References to the wire of an item: each names the whole of it.
use Rattle.std.specs.Prelude.{◌≡◌, ℕ, ◌&&◌, Bool, true, false, List, [], ◌∷◌, map, Option, Some, None, ℤ, pos, if◌then◌else◌}
use Rattle.fir_tree.specs.declared.expr.Expr.{Expr}
use Rattle.fir_tree.specs.declared.expr.Form.{Form}
use Rattle.fir_tree.specs.declared.expr.Suffix.{Suffix}
use Rattle.fir_tree.specs.declared.expr.Form.TheOpen.{Form-F}
use Rattle.fir_tree.specs.declared.expr.Form.TheViews.{out-Form}
use Rattle.fir_tree.specs.declared.stmt.Stmt.{Stmt, fold-Stmt}
use Rattle.fir_tree.specs.declared.stmt.Stmt.TheOpen.{Stmt-F, Arm-F}
use Rattle.bit_words.specs.declared.value.Kind.TheVariants.{Unsigned}
use Rattle.fir_types.specs.declared.leaf.TypeLeaf.{TypeLeaf}
use Rattle.fir_types.specs.Leaves.{leaves}
use Rattle.fir_meaning.specs.Components.{Leaf, kind_of_leaf, width_of_leaf}
use Rattle.fir_meaning.specs.Drives.{drives}
use Rattle.fir_meaning.specs.Values.{Scene, spot_of}
use Rattle.print_stop.specs.Printing.{leads_to}

-- a component without a suffix
abbrev pub is_bare_form : Form-F Form Suffix Expr → Bool
is_bare_form (Form-F.Ref name []) = true
is_bare_form _ = false

-- a reference that leads to the wire names the whole of it
abbrev pub is_whole : Scene → ℕ → Expr → Bool
is_whole scene wire e = if leads_to wire (spot_of scene e) then is_bare_form (out-Form e.form) else true

abbrev pub wholes : List Bool → Bool
wholes [] = true
wholes (first ∷ others) = first && wholes others

abbrev pub whole_stmt : Scene → ℕ → Stmt-F Bool Bool → Bool
whole_stmt scene wire (Stmt-F.Connect left right) = is_whole scene wire left && is_whole scene wire right
whole_stmt scene wire (Stmt-F.Invalidate target) = is_whole scene wire target
whole_stmt scene wire (Stmt-F.When arms other) = wholes arms && wholes other
whole_stmt scene wire _ = true

abbrev pub whole_arm : Arm-F Bool Bool → Bool
whole_arm a = wholes a.body

-- No statement of the block connects or invalidates a part of the wire.
abbrev pub whole_in : Scene → ℕ → List Stmt → Bool
whole_in scene wire block = wholes (map (fold-Stmt Bool Bool (whole_stmt scene wire) whole_arm) block)

-- The component is a UInt<1>: one leaf of one bit that isn't flipped.
pub record IsBit (scene : Scene) (wire : ℕ) : Type 0 where
  pub leaf : TypeLeaf
  pub only : leaves (scene.types wire) ≡ leaf ∷ []
  pub path : leaf.path ≡ []
  pub flip : leaf.flip ≡ false
  pub kind : kind_of_leaf leaf ≡ Unsigned
  pub width : width_of_leaf leaf ≡ 1

-- the leaf of a wire of one bit
abbrev pub wire_leaf : ℕ → Leaf
wire_leaf wire = record { component = wire; way = [] }

-- what was driven, and 0 where nothing was
abbrev pub or_zero : Option ℤ → ℤ
or_zero (Some n) = n
or_zero None = pos 0

-- The statements drive nothing but 0 to the wire.
abbrev pub OnlyZero : Scene → ℕ → List Stmt → Type 0
OnlyZero scene wire heads = or_zero (drives scene (wire_leaf wire) heads) ≡ pos 0
