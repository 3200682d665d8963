-- The leaf of an item's wire is 1 exactly where the item is enabled.
use Rattle.std.proofs.Common.{◌≡◌, ℕ, Bool, true, List, [], ◌++◌, Option, Some, None, ℤ, refl, sym, ap, ◌∙◌}
use Rattle.std.specs.Prelude.{pos, ◌↔◌}
use Rattle.fir_tree.specs.declared.expr.Expr.{Expr}
use Rattle.fir_tree.specs.declared.stmt.Stmt.{Stmt}
use Rattle.fir_meaning.specs.Values.{Scene, value}
use Rattle.fir_meaning.specs.Drives.{drives}
use Rattle.print_stop.specs.Printing.{connected, Enabled, is_odd}
use Rattle.print_stop.specs.Wires.{whole_in, IsBit, wire_leaf, or_zero, OnlyZero}
use Rattle.print_stop.proofs.Follows.{bit_or_zero, drives_connected}
use Rattle.print_stop.proofs.Bits.{bit_of, bit_is_odd, is_wire}

module _ (scene : Scene) (wire : ℕ) (bit : IsBit scene wire) (heads behind : List Stmt) (zero : OnlyZero scene wire heads) (whole : whole_in scene wire behind ≡ true) (n : ℤ)
    (left : drives scene (wire_leaf wire) (heads ++ behind) ≡ Some n) where
  shows : n ≡ bit_or_zero scene (wire_leaf wire) wire (bit_of scene bit.leaf) (connected scene wire behind)
  shows = ap or_zero (sym left) ∙ drives_connected scene (wire_leaf wire) wire (bit_of scene bit.leaf) (is_wire scene wire bit) heads behind zero whole

  by_connect : (last : Option Expr) → connected scene wire behind ≡ last → bit_or_zero scene (wire_leaf wire) wire (bit_of scene bit.leaf) last ≡ pos 1 → Enabled scene wire behind
  by_connect None is one = cc
  by_connect (Some e) is one = record { condition = e; reached = is; holds = (bit_is_odd scene bit.leaf e bit.kind bit.width).0 one }

  pub one_where_enabled : (n ≡ pos 1) ↔ Enabled scene wire behind
  one_where_enabled = (
    (λ one. by_connect (connected scene wire behind) refl (sym shows ∙ one)),
    λ (h : Enabled scene wire behind). shows ∙ ap (bit_or_zero scene (wire_leaf wire) wire (bit_of scene bit.leaf)) h.reached ∙ (bit_is_odd scene bit.leaf h.condition bit.kind bit.width).1 h.holds,
  )
