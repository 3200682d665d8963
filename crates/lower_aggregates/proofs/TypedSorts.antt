-- In a well typed body the reset and the `init` of each register are well typed.
use Rattle.std.proofs.Common.{◌≡◌, Bool, true, false, ◌&&◌, List, [], ◌∷◌, ◌++◌, map, refl, sym, ap, ap₂, ◌∙◌, subst, true≢false}
use Rattle.std.specs.List.{flat_map, list_all}
use Rattle.std.proofs.lemmas.List.Concat.{flat_map-cons}
use Rattle.std.proofs.lemmas.List.Folds.{list_all-append}
use Rattle.fir_types.specs.declared.port.Port.{Port}
use Rattle.fir_tree.specs.declared.circuit.Module.{Module}
use Rattle.fir_tree.specs.declared.stmt.Stmt.{Stmt, ind-Stmt}
use Rattle.fir_tree.specs.declared.stmt.Arm.{Arm, fold-Arm}
use Rattle.fir_tree.specs.declared.stmt.Stmt.TheOpen.{Stmt-F, Arm-F}
use Rattle.fir_tree.specs.declared.stmt.Stmt.TheFolds.{map-Stmt, map-Arm, fold-roll-Stmt, fold-roll-Arm}
use Rattle.fir_tree.specs.declared.stmt.Stmt.TheViews.{roll-Stmt, roll-Arm}
use Rattle.fir_meaning.specs.WellTyped as kinds
use Rattle.fir_meaning.specs.WellTyped.{Known, is_typed_stmt, are_typed}
use Rattle.lower_aggregates.specs.Headings as heads
use Rattle.lower_aggregates.specs.Headings.{Heading, all_headings, stmt_headings, arm_headings, port_heading, headings_of}
use Rattle.lower_aggregates.specs.Registers.{is_typed_sort}

both_true : (p q : Bool) → (p && q) ≡ true → (p ≡ true) × (q ≡ true)
both_true true q e = (refl, e)
both_true false q e = absurd (true≢false (sym e))

module _ (known : Known) where
  abbrev all_typed : List Heading → Bool
  all_typed hs = list_all (λ h. is_typed_sort known h.sort) hs

  abbrev typed_arm : Arm → Bool
  typed_arm = fold-Arm Bool Bool (kinds.of_stmt known) (kinds.of_arm known)

  abbrev Typed : Stmt → Type 0
  Typed s = is_typed_stmt known s ≡ true → all_typed (stmt_headings s) ≡ true

  abbrev ArmTyped : Arm → Type 0
  ArmTyped a = typed_arm a ≡ true → all_typed (arm_headings a) ≡ true

  together : (xs ys : List Heading) → all_typed xs ≡ true → all_typed ys ≡ true → all_typed (xs ++ ys) ≡ true
  together xs ys p q = list_all-append (λ (h : Heading). is_typed_sort known h.sort) xs ys ∙ ap₂ (λ a b. a && b) p q

  block_typed : (ps : List ((s : Stmt) × Typed s)) → list_all (λ b. b) (map (is_typed_stmt known) (map (λ e. e.0) ps)) ≡ true → all_typed (all_headings (map stmt_headings (map (λ e. e.0) ps))) ≡ true
  block_typed [] h = refl
  block_typed (p ∷ ps) h =
      let b = both_true (is_typed_stmt known p.0) (list_all (λ b. b) (map (is_typed_stmt known) (map (λ e. e.0) ps))) h in
      ap all_typed (flat_map-cons (λ l. l) (stmt_headings p.0) (map stmt_headings (map (λ e. e.0) ps)))
      ∙ together (stmt_headings p.0) (all_headings (map stmt_headings (map (λ e. e.0) ps))) (p.1 b.0) (block_typed ps b.1)

  arms_typed : (ps : List ((a : Arm) × ArmTyped a)) → list_all (λ b. b) (map typed_arm (map (λ e. e.0) ps)) ≡ true → all_typed (all_headings (map arm_headings (map (λ e. e.0) ps))) ≡ true
  arms_typed [] h = refl
  arms_typed (p ∷ ps) h =
      let b = both_true (typed_arm p.0) (list_all (λ b. b) (map typed_arm (map (λ e. e.0) ps))) h in
      ap all_typed (flat_map-cons (λ l. l) (arm_headings p.0) (map arm_headings (map (λ e. e.0) ps)))
      ∙ together (arm_headings p.0) (all_headings (map arm_headings (map (λ e. e.0) ps))) (p.1 b.0) (arms_typed ps b.1)

  typed_at : (z : Stmt-F Stmt Arm)
      → (kinds.of_stmt known (map-Stmt Stmt Arm Bool Bool (is_typed_stmt known) typed_arm z) ≡ true → all_typed (heads.of_stmt (map-Stmt Stmt Arm (List Heading) (List Heading) stmt_headings arm_headings z)) ≡ true)
      → Typed (roll-Stmt z)
  typed_at z h e =
      ap all_typed (fold-roll-Stmt (List Heading) (List Heading) heads.of_stmt heads.of_arm z)
      ∙ h (sym (fold-roll-Stmt Bool Bool (kinds.of_stmt known) (kinds.of_arm known) z) ∙ e)

  typed_layer : (y : Stmt-F ((s : Stmt) × Typed s) ((a : Arm) × ArmTyped a)) → Typed (roll-Stmt (map-Stmt _ _ Stmt Arm (λ e. e.0) (λ e. e.0) y))
  typed_layer (Stmt-F.Wire name typ) = typed_at (Stmt-F.Wire name typ) (λ h. refl)
  typed_layer (Stmt-F.Reg name typ clock) = typed_at (Stmt-F.Reg name typ clock) (λ h. refl)
  typed_layer (Stmt-F.RegReset name typ clock reset init) =
      typed_at (Stmt-F.RegReset name typ clock reset init) (λ h.
      let b = both_true (kinds.is_typed known clock) (kinds.is_condition known reset && kinds.is_typed known init) h in
      ap (λ t. t && true) b.1)
  typed_layer (Stmt-F.Mem memory) = typed_at (Stmt-F.Mem memory) (λ h. refl)
  typed_layer (Stmt-F.Inst name target) = typed_at (Stmt-F.Inst name target) (λ h. refl)
  typed_layer (Stmt-F.Node name expr) = typed_at (Stmt-F.Node name expr) (λ h. refl)
  typed_layer (Stmt-F.Connect left right) = typed_at (Stmt-F.Connect left right) (λ h. refl)
  typed_layer (Stmt-F.Invalidate target) = typed_at (Stmt-F.Invalidate target) (λ h. refl)
  typed_layer (Stmt-F.Skip place) = typed_at (Stmt-F.Skip place) (λ h. refl)
  typed_layer (Stmt-F.When arms other) =
      let xs : List Arm = map (λ e. e.0) arms in
      let ys : List Stmt = map (λ e. e.0) other in
      typed_at (Stmt-F.When xs ys) (λ h.
      let b = both_true (list_all (λ b. b) (map typed_arm xs)) (list_all (λ b. b) (map (is_typed_stmt known) ys)) h in
      together (all_headings (map arm_headings xs)) (all_headings (map stmt_headings ys)) (arms_typed arms b.0) (block_typed other b.1))

  typed_arm_layer : (y : Arm-F ((s : Stmt) × Typed s) ((a : Arm) × ArmTyped a)) → ArmTyped (roll-Arm (map-Arm _ _ Stmt Arm (λ e. e.0) (λ e. e.0) y))
  typed_arm_layer y e =
      let z : Arm-F Stmt Arm = map-Arm _ _ Stmt Arm (λ e. e.0) (λ e. e.0) y in
      let b = both_true (kinds.is_condition known z.condition) (list_all (λ b. b) (map (is_typed_stmt known) z.body)) (sym (fold-roll-Arm Bool Bool (kinds.of_stmt known) (kinds.of_arm known) z) ∙ e) in
      ap all_typed (fold-roll-Arm (List Heading) (List Heading) heads.of_stmt heads.of_arm z) ∙ block_typed y.body b.1

  typed_stmt : (s : Stmt) → Typed s
  typed_stmt = ind-Stmt Typed ArmTyped (λ x y is. subst (λ z. Typed (roll-Stmt z)) is (typed_layer y)) (λ x y is. subst (λ z. ArmTyped (roll-Arm z)) is (typed_arm_layer y))

  body_typed : (ss : List Stmt) → list_all (λ b. b) (map (is_typed_stmt known) ss) ≡ true → all_typed (flat_map stmt_headings ss) ≡ true
  body_typed [] h = refl
  body_typed (s ∷ ss) h =
      let b = both_true (is_typed_stmt known s) (list_all (λ b. b) (map (is_typed_stmt known) ss)) h in
      ap all_typed (flat_map-cons stmt_headings s ss) ∙ together (stmt_headings s) (flat_map stmt_headings ss) (typed_stmt s b.0) (body_typed ss b.1)

  ports_typed : (ports : List Port) → all_typed (map port_heading ports) ≡ true
  ports_typed [] = refl
  ports_typed (port ∷ ports) = by port.output refl (ports_typed ports)
    where
      by : (b : Bool) → port.output ≡ b → all_typed (map port_heading ports) ≡ true → all_typed (map port_heading (port ∷ ports)) ≡ true
      by true q h = rw q h
      by false q h = rw q h

  pub sorts_typed : (holder : Module) → are_typed known holder.body ≡ true → all_typed (headings_of holder) ≡ true
  sorts_typed holder h = together (map port_heading holder.ports) (flat_map stmt_headings holder.body) (ports_typed holder.ports) (body_typed holder.body h)
