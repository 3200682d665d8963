-- Whatever is read of statements without a look at their types is the same of the resolved ones.
use Rattle.std.proofs.Common.{◌≡◌, ℕ, ◌+◌, Bool, List, [], ◌∷◌, map, refl, sym, ap, ap₂, ◌∙◌, subst}
use Rattle.fir_types.specs.declared.fir_type.FirType.{FirType}
use Rattle.fir_types.specs.declared.name.Name.{Name}
use Rattle.fir_types.specs.declared.memory.Memory.{Memory}
use Rattle.fir_tree.specs.declared.expr.Expr.{Expr}
use Rattle.fir_tree.specs.declared.stmt.Stmt.{Stmt, fold-Stmt}
use Rattle.fir_tree.specs.declared.stmt.Arm.{Arm, fold-Arm}
use Rattle.fir_tree.specs.declared.stmt.Stmt.TheOpen.{Stmt-F, Arm-F}
use Rattle.fir_tree.specs.declared.stmt.Stmt.TheFolds.{map-Stmt, map-Arm, ind-Stmt, fold-roll-Stmt, fold-roll-Arm}
use Rattle.fir_tree.specs.declared.stmt.Stmt.TheViews.{roll-Stmt, roll-Arm}
use Rattle.fir_tree.specs.declared.stmt.Stmt.TheVariants as stmt
use Rattle.fir_tree.specs.declared.stmt.Stmt.TheVariants.{rolls-Wire, rolls-Reg, rolls-RegReset, rolls-Mem, rolls-Inst, rolls-Node, rolls-Connect, rolls-Invalidate, rolls-When, rolls-Skip}
use Rattle.reset_search.specs.Resolved as resolving
use Rattle.reset_search.specs.Resolved.{Becomes, all_from, in_all, becomes_stmt, resolved_memory}

-- it doesn't look at types
pub record IsBlind {A B : Type 0} (of_stmt : Stmt-F A B → A) : Type 0 where
  pub wire : (name : Name) (t u : FirType) → of_stmt (Stmt-F.Wire name t) ≡ of_stmt (Stmt-F.Wire name u)
  pub reg : (name : Name) (t u : FirType) (clock : Expr) → of_stmt (Stmt-F.Reg name t clock) ≡ of_stmt (Stmt-F.Reg name u clock)
  pub reg_reset : (name : Name) (t u : FirType) (clock reset init : Expr) → of_stmt (Stmt-F.RegReset name t clock reset init) ≡ of_stmt (Stmt-F.RegReset name u clock reset init)
  pub mem : (reached : ℕ → Bool) (n : ℕ) (memory : Memory) → of_stmt (Stmt-F.Mem (resolved_memory reached n memory)) ≡ of_stmt (Stmt-F.Mem memory)

module _ {A B : Type 0} (of_stmt : Stmt-F A B → A) (of_arm : Arm-F A B → B) (blind : IsBlind of_stmt) (reached : ℕ → Bool) where
  abbrev F : Stmt → A
  F = fold-Stmt A B of_stmt of_arm

  abbrev G : Arm → B
  G = fold-Arm A B of_stmt of_arm

  abbrev becomes_arm : Arm → Becomes Arm
  becomes_arm = fold-Arm (Becomes Stmt) (Becomes Arm) (resolving.of_stmt reached) (resolving.of_arm reached)

  abbrev Same : Stmt → Type 0
  Same s = (n : ℕ) → F ((becomes_stmt reached s).1 n) ≡ F s

  abbrev SameArm : Arm → Type 0
  SameArm a = (n : ℕ) → G ((becomes_arm a).1 n) ≡ G a

  all_same : (ps : List ((s : Stmt) × Same s)) (n : ℕ) → map F (all_from (map (becomes_stmt reached) (map (λ e. e.0) ps)) n) ≡ map F (map (λ e. e.0) ps)
  all_same [] n = refl
  all_same (p ∷ ps) n = ap₂ (λ x xs. x ∷ xs) (p.1 n) (all_same ps (n + (becomes_stmt reached p.0).0))

  arms_same : (ps : List ((a : Arm) × SameArm a)) (n : ℕ) → map G (all_from (map becomes_arm (map (λ e. e.0) ps)) n) ≡ map G (map (λ e. e.0) ps)
  arms_same [] n = refl
  arms_same (p ∷ ps) n = ap₂ (λ x xs. x ∷ xs) (p.1 n) (arms_same ps (n + (becomes_arm p.0).0))

  -- at one layer
  at_layer : (z : Stmt-F Stmt Arm)
      → ((n : ℕ) → F ((resolving.of_stmt reached (map-Stmt Stmt Arm (Becomes Stmt) (Becomes Arm) (becomes_stmt reached) becomes_arm z)).1 n) ≡ of_stmt (map-Stmt Stmt Arm A B F G z)) → Same (roll-Stmt z)
  at_layer z h n =
      ap (λ b. F (b.1 n)) (fold-roll-Stmt (Becomes Stmt) (Becomes Arm) (resolving.of_stmt reached) (resolving.of_arm reached) z) ∙ h n ∙ sym (fold-roll-Stmt A B of_stmt of_arm z)

  -- a statement that is made again
  made : (z : Stmt-F Stmt Arm) (s : Stmt) → roll-Stmt z ≡ s → F s ≡ of_stmt (map-Stmt Stmt Arm A B F G z)
  made z s is = sym (ap F is) ∙ fold-roll-Stmt A B of_stmt of_arm z

  stmt_case : (y : Stmt-F ((s : Stmt) × Same s) ((a : Arm) × SameArm a)) → Same (roll-Stmt (map-Stmt _ _ Stmt Arm (λ e. e.0) (λ e. e.0) y))
  stmt_case (Stmt-F.Wire name typ) = at_layer (Stmt-F.Wire name typ) (λ n. let t = resolving.resolved reached n typ in made (Stmt-F.Wire name t) (stmt.Wire name t) (rolls-Wire name t) ∙ blind.wire name t typ)
  stmt_case (Stmt-F.Reg name typ clock) = at_layer (Stmt-F.Reg name typ clock) (λ n. let t = resolving.resolved reached n typ in made (Stmt-F.Reg name t clock) (stmt.Reg name t clock) (rolls-Reg name t clock) ∙ blind.reg name t typ clock)
  stmt_case (Stmt-F.RegReset name typ clock reset init) = at_layer (Stmt-F.RegReset name typ clock reset init)
      (λ n. let t = resolving.resolved reached n typ in made (Stmt-F.RegReset name t clock reset init) (stmt.RegReset name t clock reset init) (rolls-RegReset name t clock reset init) ∙ blind.reg_reset name t typ clock reset init)
  stmt_case (Stmt-F.Mem memory) = at_layer (Stmt-F.Mem memory) (λ n. let m = resolved_memory reached n memory in made (Stmt-F.Mem m) (stmt.Mem m) (rolls-Mem m) ∙ blind.mem reached n memory)
  stmt_case (Stmt-F.Inst name target) = at_layer (Stmt-F.Inst name target) (λ n. made (Stmt-F.Inst name target) (stmt.Inst name target) (rolls-Inst name target))
  stmt_case (Stmt-F.Node name e) = at_layer (Stmt-F.Node name e) (λ n. made (Stmt-F.Node name e) (stmt.Node name e) (rolls-Node name e))
  stmt_case (Stmt-F.Connect left right) = at_layer (Stmt-F.Connect left right) (λ n. made (Stmt-F.Connect left right) (stmt.Connect left right) (rolls-Connect left right))
  stmt_case (Stmt-F.Invalidate target) = at_layer (Stmt-F.Invalidate target) (λ n. made (Stmt-F.Invalidate target) (stmt.Invalidate target) (rolls-Invalidate target))
  stmt_case (Stmt-F.Skip place) = at_layer (Stmt-F.Skip place) (λ n. made (Stmt-F.Skip place) (stmt.Skip place) (rolls-Skip place))
  stmt_case (Stmt-F.When arms other) = at_layer (Stmt-F.When (map (λ e. e.0) arms) (map (λ e. e.0) other)) (λ n.
      let first : List Arm = all_from (map becomes_arm (map (λ e. e.0) arms)) n in
      let rest : List Stmt = all_from (map (becomes_stmt reached) (map (λ e. e.0) other)) (n + in_all (map becomes_arm (map (λ e. e.0) arms))) in
      made (Stmt-F.When first rest) (stmt.When first rest) (rolls-When first rest) ∙ ap₂ (λ xs ys. of_stmt (Stmt-F.When xs ys)) (arms_same arms n) (all_same other (n + in_all (map becomes_arm (map (λ e. e.0) arms)))))

  arm_case : (y : Arm-F ((s : Stmt) × Same s) ((a : Arm) × SameArm a)) → SameArm (roll-Arm (map-Arm _ _ Stmt Arm (λ e. e.0) (λ e. e.0) y))
  arm_case y n =
      let z : Arm-F Stmt Arm = map-Arm _ _ Stmt Arm (λ e. e.0) (λ e. e.0) y in
      let body : List Stmt = all_from (map (becomes_stmt reached) (map (λ e. e.0) y.body)) n in
      ap (λ b. G (b.1 n)) (fold-roll-Arm (Becomes Stmt) (Becomes Arm) (resolving.of_stmt reached) (resolving.of_arm reached) z)
      ∙ fold-roll-Arm A B of_stmt of_arm (record { condition = y.condition; body = body })
      ∙ ap (λ xs. of_arm (record { condition = y.condition; body = xs })) (all_same y.body n)
      ∙ sym (fold-roll-Arm A B of_stmt of_arm z)

  pub same : (s : Stmt) → Same s
  same = ind-Stmt Same SameArm (λ x y is. subst (λ z. Same (roll-Stmt z)) is (stmt_case y)) (λ x y is. subst (λ z. SameArm (roll-Arm z)) is (arm_case y))
