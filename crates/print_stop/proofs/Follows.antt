-- What the statements of a block leave in the leaf of a wire is what the last connect of it connects, where each connect and each
-- `invalidate` does so by itself.
use Rattle.std.proofs.Common.{◌≡◌, ℕ, Bool, true, false, ◌&&◌, List, [], ◌∷◌, ◌++◌, map, Option, Some, None, ℤ, refl, sym, ap, ◌∙◌, subst, arith, if◌then◌else◌}
use Rattle.std.specs.Prelude.{pos}
use Rattle.std.proofs.lemmas.Grind.{common_steps}
use Rattle.fir_tree.specs.declared.expr.Expr.{Expr}
use Rattle.fir_tree.specs.declared.stmt.Stmt.{Stmt, fold-Stmt, ind-Stmt, the_lemmas as stmt_lemmas}
use Rattle.fir_tree.specs.declared.stmt.Arm.{Arm, fold-Arm}
use Rattle.fir_tree.specs.declared.stmt.Stmt.TheOpen.{Stmt-F, Arm-F}
use Rattle.fir_tree.specs.declared.stmt.Stmt.TheFolds.{map-Stmt, map-Arm}
use Rattle.fir_tree.specs.declared.stmt.Stmt.TheViews.{roll-Stmt, roll-Arm}
use Rattle.fir_meaning.specs.Components.{Leaf}
use Rattle.fir_meaning.specs.Values.{Scene, value, spot_of, is_one}
use Rattle.fir_meaning.specs.Drives as drive
use Rattle.fir_meaning.specs.Drives.{Effect, effect, drives, left_in, set_by_connect, set_by_invalidate}
use Rattle.print_stop.specs.Printing as print
use Rattle.print_stop.specs.Printing.{Last, leads_to, connected}
use Rattle.print_stop.specs.Wires.{is_whole, wholes, whole_stmt, whole_arm, whole_in, or_zero}

both : (a b : Bool) → (a && b) ≡ true → (a ≡ true) × (b ≡ true)
both true true e = (refl, refl)
both true false e = cc
both false b e = cc

module _ (scene : Scene) (leaf : Leaf) (wire : ℕ) (bit : Expr → ℤ) where
  abbrev pub bit_or_zero : Option Expr → ℤ
  bit_or_zero (Some e) = bit e
  bit_or_zero None = pos 0

  -- what one statement does to the leaf
  pub record IsWire : Type 0 where
    pub connects : (left right : Expr) (last : Option ℤ) → is_whole scene wire left ≡ true → is_whole scene wire right ≡ true → or_zero (left_in leaf last (set_by_connect scene left right))
        ≡ (if leads_to wire (spot_of scene left) then bit right else or_zero last)
    pub invalidates : (target : Expr) (last : Option ℤ) → is_whole scene wire target ≡ true → or_zero (left_in leaf last (set_by_invalidate scene target))
        ≡ (if leads_to wire (spot_of scene target) then pos 0 else or_zero last)

  abbrev arm_effect : Arm → Bool × Effect
  arm_effect = fold-Arm Effect (Bool × Effect) (drive.of_stmt scene leaf) (drive.of_arm scene leaf)

  abbrev last_of : Stmt → Last
  last_of = fold-Stmt Last (Bool × Last) (print.of_stmt scene wire) (print.of_arm scene wire)

  abbrev arm_last : Arm → Bool × Last
  arm_last = fold-Arm Last (Bool × Last) (print.of_stmt scene wire) (print.of_arm scene wire)

  abbrev stmt_whole : Stmt → Bool
  stmt_whole = fold-Stmt Bool Bool (whole_stmt scene wire) whole_arm

  abbrev arm_whole : Arm → Bool
  arm_whole = fold-Arm Bool Bool (whole_stmt scene wire) whole_arm

  abbrev pub Same : Effect → Last → Type 0
  Same x y = (last : Option ℤ) (e : Option Expr) → or_zero last ≡ bit_or_zero e → or_zero (x last) ≡ bit_or_zero (y e)

  record Follows (s : Stmt) : Type 0 where
    same : stmt_whole s ≡ true → Same (effect scene leaf s) (last_of s)

  record ArmFollows (a : Arm) : Type 0 where
    condition : (arm_effect a).0 ≡ (arm_last a).0
    same : arm_whole a ≡ true → Same (arm_effect a).1 (arm_last a).1

  effect_roll : (y : Stmt-F Stmt Arm) → effect scene leaf (roll-Stmt y) ≡ drive.of_stmt scene leaf (map-Stmt Stmt Arm Effect (Bool × Effect) (effect scene leaf) arm_effect y)
  effect_roll y = grind (arith, common_steps, stmt_lemmas)

  last_roll : (y : Stmt-F Stmt Arm) → last_of (roll-Stmt y) ≡ print.of_stmt scene wire (map-Stmt Stmt Arm Last (Bool × Last) last_of arm_last y)
  last_roll y = grind (arith, common_steps, stmt_lemmas)

  arm_effect_roll : (y : Arm-F Stmt Arm) → arm_effect (roll-Arm y) ≡ drive.of_arm scene leaf (map-Arm Stmt Arm Effect (Bool × Effect) (effect scene leaf) arm_effect y)
  arm_effect_roll y = grind (arith, common_steps, stmt_lemmas)

  arm_last_roll : (y : Arm-F Stmt Arm) → arm_last (roll-Arm y) ≡ print.of_arm scene wire (map-Arm Stmt Arm Last (Bool × Last) last_of arm_last y)
  arm_last_roll y = grind (arith, common_steps, stmt_lemmas)

  whole_roll : (y : Stmt-F Stmt Arm) → stmt_whole (roll-Stmt y) ≡ whole_stmt scene wire (map-Stmt Stmt Arm Bool Bool stmt_whole arm_whole y)
  whole_roll y = grind (arith, common_steps, stmt_lemmas)

  arm_whole_roll : (y : Arm-F Stmt Arm) → arm_whole (roll-Arm y) ≡ whole_arm (map-Arm Stmt Arm Bool Bool stmt_whole arm_whole y)
  arm_whole_roll y = grind (arith, common_steps, stmt_lemmas)

  same_at : {x x' : Effect} {y y' : Last} → x ≡ x' → y ≡ y' → Same x' y' → Same x y
  same_at e f h last o is = ap (λ (g : Effect). or_zero (g last)) e ∙ h last o is ∙ sym (ap (λ (g : Last). bit_or_zero (g o)) f)

  block_same : (ps : List ((s : Stmt) × Follows s)) → wholes (map stmt_whole (map (λ p. p.0) ps)) ≡ true
      → Same (drive.in_turn (map (effect scene leaf) (map (λ p. p.0) ps))) (print.in_turn (map last_of (map (λ p. p.0) ps)))
  block_same [] f last o is = is
  block_same (p ∷ ps) f last o is =
      let two = both (stmt_whole p.0) (wholes (map stmt_whole (map (λ q. q.0) ps))) f in
      block_same ps two.1 (effect scene leaf p.0 last) (last_of p.0 o) (p.1.same two.0 last o is)

  arms_same : (ps : List ((a : Arm) × ArmFollows a)) (x : Effect) (y : Last) → wholes (map arm_whole (map (λ p. p.0) ps)) ≡ true → Same x y
      → Same (drive.first_holding (map arm_effect (map (λ p. p.0) ps)) x) (print.first_holding (map arm_last (map (λ p. p.0) ps)) y)
  arms_same [] x y f h last o is = h last o is
  arms_same (p ∷ ps) x y f h last o is =
      let two = both (arm_whole p.0) (wholes (map arm_whole (map (λ q. q.0) ps))) f in
      by (arm_effect p.0).0 (arm_last p.0).0 p.1.condition (p.1.same two.0 last o is) (arms_same ps x y two.1 h last o is)
    where
      by : (a b : Bool) → a ≡ b → or_zero ((arm_effect p.0).1 last) ≡ bit_or_zero ((arm_last p.0).1 o)
          → or_zero (drive.first_holding (map arm_effect (map (λ p. p.0) ps)) x last) ≡ bit_or_zero (print.first_holding (map arm_last (map (λ p. p.0) ps)) y o)
          → or_zero ((if a then (arm_effect p.0).1 else drive.first_holding (map arm_effect (map (λ p. p.0) ps)) x) last)
          ≡ bit_or_zero ((if b then (arm_last p.0).1 else print.first_holding (map arm_last (map (λ p. p.0) ps)) y) o)
      by true true e here later = here
      by false false e here later = later
      by true false e here later = cc
      by false true e here later = cc

  module _ (plain : IsWire) where
    connect_same : (left right : Expr) → (is_whole scene wire left && is_whole scene wire right) ≡ true → Same (λ last. left_in leaf last (set_by_connect scene left right)) (λ last. if leads_to wire (spot_of scene left) then Some right else last)
    connect_same left right f last o is = let two = both (is_whole scene wire left) (is_whole scene wire right) f in plain.connects left right last two.0 two.1 ∙ by (leads_to wire (spot_of scene left))
      where
        by : (b : Bool) → (if b then bit right else or_zero last) ≡ bit_or_zero (if b then Some right else o)
        by true = refl
        by false = is

    invalidate_same : (target : Expr) → is_whole scene wire target ≡ true → Same (λ last. left_in leaf last (set_by_invalidate scene target)) (λ last. if leads_to wire (spot_of scene target) then None else last)
    invalidate_same target f last o is = plain.invalidates target last f ∙ by (leads_to wire (spot_of scene target))
      where
        by : (b : Bool) → (if b then pos 0 else or_zero last) ≡ bit_or_zero (if b then None else o)
        by true = refl
        by false = is

    statement_at : (y : Stmt-F Stmt Arm) → (whole_stmt scene wire (map-Stmt Stmt Arm Bool Bool stmt_whole arm_whole y) ≡ true → Same (drive.of_stmt scene leaf (map-Stmt Stmt Arm Effect (Bool × Effect) (effect scene leaf) arm_effect y))
        (print.of_stmt scene wire (map-Stmt Stmt Arm Last (Bool × Last) last_of arm_last y))) → Follows (roll-Stmt y)
    statement_at y h = record { same = λ f. same_at (effect_roll y) (last_roll y) (h (sym (whole_roll y) ∙ f)) }

    statement_case : (y : Stmt-F ((s : Stmt) × Follows s) ((a : Arm) × ArmFollows a)) → Follows (roll-Stmt (map-Stmt _ _ Stmt Arm (λ p. p.0) (λ p. p.0) y))
    statement_case (Stmt-F.Wire name typ) = statement_at (Stmt-F.Wire name typ) (λ f last o is. is)
    statement_case (Stmt-F.Reg name typ clock) = statement_at (Stmt-F.Reg name typ clock) (λ f last o is. is)
    statement_case (Stmt-F.RegReset name typ clock reset init) = statement_at (Stmt-F.RegReset name typ clock reset init) (λ f last o is. is)
    statement_case (Stmt-F.Mem memory) = statement_at (Stmt-F.Mem memory) (λ f last o is. is)
    statement_case (Stmt-F.Inst name target) = statement_at (Stmt-F.Inst name target) (λ f last o is. is)
    statement_case (Stmt-F.Node name expr) = statement_at (Stmt-F.Node name expr) (λ f last o is. is)
    statement_case (Stmt-F.Skip place) = statement_at (Stmt-F.Skip place) (λ f last o is. is)
    statement_case (Stmt-F.Connect left right) = statement_at (Stmt-F.Connect left right) (connect_same left right)
    statement_case (Stmt-F.Invalidate target) = statement_at (Stmt-F.Invalidate target) (invalidate_same target)
    statement_case (Stmt-F.When arms other) = statement_at (Stmt-F.When (map (λ p. p.0) arms) (map (λ p. p.0) other))
        (λ f. let two = both (wholes (map arm_whole (map (λ p. p.0) arms))) (wholes (map stmt_whole (map (λ p. p.0) other))) f in arms_same arms _ _ two.0 (block_same other two.1))

    arm_case : (y : Arm-F ((s : Stmt) × Follows s) ((a : Arm) × ArmFollows a)) → ArmFollows (roll-Arm (map-Arm _ _ Stmt Arm (λ p. p.0) (λ p. p.0) y))
    arm_case y =
        let layer : Arm-F Stmt Arm = record { condition = y.condition; body = map (λ p. p.0) y.body } in
        record {
          condition = ap (λ z. z.0) (arm_effect_roll layer) ∙ sym (ap (λ z. z.0) (arm_last_roll layer));
          same = λ f. same_at (ap (λ z. z.1) (arm_effect_roll layer)) (ap (λ z. z.1) (arm_last_roll layer)) (block_same y.body (sym (arm_whole_roll layer) ∙ f));
        }

    follows : (s : Stmt) → Follows s
    follows = ind-Stmt Follows ArmFollows
        (λ x y is. subst (λ z. Follows (roll-Stmt z)) is (statement_case y))
        (λ x y is. subst (λ z. ArmFollows (roll-Arm z)) is (arm_case y))

    block_follows : (block : List Stmt) → whole_in scene wire block ≡ true → Same (drive.in_turn (map (effect scene leaf) block)) (print.in_turn (map last_of block))
    block_follows [] f last o is = is
    block_follows (s ∷ block) f last o is =
        let two = both (stmt_whole s) (whole_in scene wire block) f in
        block_follows block two.1 (effect scene leaf s last) (last_of s o) ((follows s).same two.0 last o is)

    in_turn_append : (block more : List Stmt) (last : Option ℤ)
        → drive.in_turn (map (effect scene leaf) (block ++ more)) last ≡ drive.in_turn (map (effect scene leaf) more) (drive.in_turn (map (effect scene leaf) block) last)
    in_turn_append [] more last = refl
    in_turn_append (s ∷ block) more last = in_turn_append block more (effect scene leaf s last)

    -- Behind statements that leave 0 in the leaf, the statements leave what the last connect of the wire connects, and 0 where there is none.
    pub drives_connected : (heads block : List Stmt) → or_zero (drives scene leaf heads) ≡ pos 0 → whole_in scene wire block ≡ true
        → or_zero (drives scene leaf (heads ++ block)) ≡ bit_or_zero (connected scene wire block)
    drives_connected heads block zero f = ap or_zero (in_turn_append heads block None) ∙ block_follows block f (drives scene leaf heads) None zero
