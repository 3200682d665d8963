-- Statements by their layers, and what stands in a list.
use Rattle.std.proofs.Common.{◌≡◌, refl, ap, ◌∙◌, subst}
use Rattle.fir_tree.specs.declared.stmt.Stmt.{Stmt, ind-Stmt}
use Rattle.fir_tree.specs.declared.stmt.Arm.{Arm}
use Rattle.fir_tree.specs.declared.stmt.Stmt.TheOpen.{Stmt-F}
use Rattle.fir_tree.specs.declared.stmt.Stmt.TheFolds.{map-Stmt}
use Rattle.fir_tree.specs.declared.stmt.Stmt.TheViews.{roll-Stmt, out-Stmt}
use Rattle.fir_tree.specs.declared.stmt.Stmt.TheVariants.{rolls-Wire, rolls-Reg, rolls-RegReset, rolls-Mem, rolls-Inst, rolls-Node, rolls-Connect, rolls-Invalidate, rolls-When, rolls-Skip, outs-Wire, outs-Reg, outs-RegReset, outs-Mem, outs-Inst, outs-Node, outs-Connect, outs-Invalidate, outs-When, outs-Skip}

-- a statement is rolled from its layer, which is what comes out of it
pub record Layer (s : Stmt) : Type 0 where
  pub layer : Stmt-F Stmt Arm
  pub rolled : s ≡ roll-Stmt layer
  pub out : out-Stmt s ≡ layer

pub out_roll : (z : Stmt-F Stmt Arm) → out-Stmt (roll-Stmt z) ≡ z
out_roll (Stmt-F.Wire name typ) = ap out-Stmt (rolls-Wire name typ) ∙ outs-Wire name typ
out_roll (Stmt-F.Reg name typ clock) = ap out-Stmt (rolls-Reg name typ clock) ∙ outs-Reg name typ clock
out_roll (Stmt-F.RegReset name typ clock reset init) = ap out-Stmt (rolls-RegReset name typ clock reset init) ∙ outs-RegReset name typ clock reset init
out_roll (Stmt-F.Mem memory) = ap out-Stmt (rolls-Mem memory) ∙ outs-Mem memory
out_roll (Stmt-F.Inst name target) = ap out-Stmt (rolls-Inst name target) ∙ outs-Inst name target
out_roll (Stmt-F.Node name e) = ap out-Stmt (rolls-Node name e) ∙ outs-Node name e
out_roll (Stmt-F.Connect left right) = ap out-Stmt (rolls-Connect left right) ∙ outs-Connect left right
out_roll (Stmt-F.Invalidate target) = ap out-Stmt (rolls-Invalidate target) ∙ outs-Invalidate target
out_roll (Stmt-F.When arms other) = ap out-Stmt (rolls-When arms other) ∙ outs-When arms other
out_roll (Stmt-F.Skip place) = ap out-Stmt (rolls-Skip place) ∙ outs-Skip place

layer_at : (z : Stmt-F Stmt Arm) → Layer (roll-Stmt z)
layer_at z = record { layer = z; rolled = refl; out = out_roll z }

pub layer_of : (s : Stmt) → Layer s
layer_of = ind-Stmt Layer (λ a. Unit {0}) (λ x y is. subst (λ z. Layer (roll-Stmt z)) is (layer_at (map-Stmt _ _ Stmt Arm (λ e. e.0) (λ e. e.0) y))) (λ x y is. tt)
