-- The edges that the walk finds are those of the declarations.
use Rattle.std.proofs.Common.{◌≡◌, Bool, true, false, ◌||◌, List, [], ◌∷◌, ◌++◌, map, refl, sym, ap, ap₂, ◌∙◌, subst}
use Rattle.std.specs.List.{list_any, flat_map}
use Rattle.std.proofs.lemmas.List.Concat.{flat_map-cons}
use Rattle.std.proofs.lemmas.List.Folds.{list_any-append}
use Rattle.fir_types.specs.declared.port.Port.{Port}
use Rattle.fir_tree.specs.declared.circuit.Module.{Module}
use Rattle.fir_tree.specs.declared.stmt.Stmt.{Stmt, ind-Stmt}
use Rattle.fir_tree.specs.declared.stmt.Arm.{Arm, fold-Arm}
use Rattle.fir_tree.specs.declared.stmt.Stmt.TheOpen.{Stmt-F, Arm-F}
use Rattle.fir_tree.specs.declared.stmt.Stmt.TheFolds.{map-Stmt, map-Arm, fold-roll-Stmt, fold-roll-Arm}
use Rattle.fir_tree.specs.declared.stmt.Stmt.TheViews.{roll-Stmt, roll-Arm}
use Rattle.fir_meaning.specs.Components.{Declaration, Told, ToldArm, told, of_told, of_told_arm, declared_from, declared_in_block, declarations_of, declared_by_port}
use Rattle.fir_meaning.specs.Mentions.{Scope}
use Rattle.fir_meaning.specs.ClockRoot.{driver_in}
use Rattle.clock_check.specs.Edges.{Edge, Walked, WalkedArm, block_driver, edges_in, of_stmt, walked, walked_arm, port_edges, module_edges, edges_by}
use Rattle.clock_check.proofs.Walking.{walked_roll, walked_arm_roll, all_itself}

-- The statements that declare are those of the text.

abbrev told_arm : Arm → ToldArm
told_arm = fold-Arm Told ToldArm of_told of_told_arm

abbrev IsTold : Stmt → Type 0
IsTold s = (told s).itself ≡ s

abbrev ArmIsTold : Arm → Type 0
ArmIsTold a = (told_arm a).itself ≡ a

told_at : (z : Stmt-F Stmt Arm) → (of_told (map-Stmt Stmt Arm Told ToldArm told told_arm z)).itself ≡ roll-Stmt z → IsTold (roll-Stmt z)
told_at z h = ap (λ (t : Told). t.itself) (fold-roll-Stmt Told ToldArm of_told of_told_arm z) ∙ h

each_told : (ps : List ((s : Stmt) × IsTold s)) → map (λ t. t.itself) (map told (map (λ e. e.0) ps)) ≡ map (λ e. e.0) ps
each_told [] = refl
each_told (p ∷ ps) = ap₂ (λ (s : Stmt) (ss : List Stmt). s ∷ ss) p.1 (each_told ps)

arms_told : (ps : List ((a : Arm) × ArmIsTold a)) → map (λ t. t.itself) (map told_arm (map (λ e. e.0) ps)) ≡ map (λ e. e.0) ps
arms_told [] = refl
arms_told (p ∷ ps) = ap₂ (λ (a : Arm) (rest : List Arm). a ∷ rest) p.1 (arms_told ps)

told_case : (y : Stmt-F ((s : Stmt) × IsTold s) ((a : Arm) × ArmIsTold a)) → IsTold (roll-Stmt (map-Stmt _ _ Stmt Arm (λ e. e.0) (λ e. e.0) y))
told_case (Stmt-F.Wire name typ) = told_at (Stmt-F.Wire name typ) refl
told_case (Stmt-F.Reg name typ clock) = told_at (Stmt-F.Reg name typ clock) refl
told_case (Stmt-F.RegReset name typ clock reset init) = told_at (Stmt-F.RegReset name typ clock reset init) refl
told_case (Stmt-F.Mem memory) = told_at (Stmt-F.Mem memory) refl
told_case (Stmt-F.Inst name target) = told_at (Stmt-F.Inst name target) refl
told_case (Stmt-F.Node name expr) = told_at (Stmt-F.Node name expr) refl
told_case (Stmt-F.Connect left right) = told_at (Stmt-F.Connect left right) refl
told_case (Stmt-F.Invalidate target) = told_at (Stmt-F.Invalidate target) refl
told_case (Stmt-F.Skip place) = told_at (Stmt-F.Skip place) refl
told_case (Stmt-F.When arms other) = told_at (Stmt-F.When (map (λ e. e.0) arms) (map (λ e. e.0) other))
    (ap₂ (λ (x : List Arm) (y : List Stmt). roll-Stmt (Stmt-F.When x y)) (arms_told arms) (each_told other))

told_arm_case : (y : Arm-F ((s : Stmt) × IsTold s) ((a : Arm) × ArmIsTold a)) → ArmIsTold (roll-Arm (map-Arm _ _ Stmt Arm (λ e. e.0) (λ e. e.0) y))
told_arm_case y =
    ap (λ (t : ToldArm). t.itself) (fold-roll-Arm Told ToldArm of_told of_told_arm (record { condition = y.condition; body = map (λ e. e.0) y.body }))
    ∙ ap (λ (b : List Stmt). roll-Arm (record { condition = y.condition; body = b })) (each_told y.body)

told_itself : (s : Stmt) → IsTold s
told_itself = ind-Stmt IsTold ArmIsTold
    (λ x y is. subst (λ z. IsTold (roll-Stmt z)) is (told_case y))
    (λ x y is. subst (λ z. ArmIsTold (roll-Arm z)) is (told_arm_case y))

all_told : (ss : List Stmt) → map (λ t. t.itself) (map told ss) ≡ ss
all_told [] = refl
all_told (s ∷ ss) = ap₂ (λ (x : Stmt) (xs : List Stmt). x ∷ xs) (told_itself s) (all_told ss)

-- A test passes an edge that is found just where it passes one of a declaration.

or_false : (b : Bool) → b ≡ (b || false)
or_false true = refl
or_false false = refl

or_pairs : (a b c d : Bool) → ((a || b) || (c || d)) ≡ ((a || c) || (b || d))
or_pairs true b c d = refl
or_pairs false true true d = refl
or_pairs false true false d = refl
or_pairs false false c d = refl

module _ (types : Scope) (p : Edge → Bool) where
  abbrev passes : Declaration → Bool
  passes d = list_any p (edges_by types d)

  abbrev Finds : Stmt → Type 0
  Finds s = (block behind : List Stmt)
      → (list_any p (walked types s).inner || list_any p ((walked types s).own (λ leaf. driver_in types leaf block))) ≡ list_any passes ((told s).declares block behind)

  abbrev ArmFinds : Arm → Type 0
  ArmFinds a = list_any p (walked_arm types a).edges ≡ list_any passes (told_arm a).declared

  finds_at : (z : Stmt-F Stmt Arm)
      → ((block behind : List Stmt) → (list_any p (of_stmt types (map-Stmt Stmt Arm Walked WalkedArm (walked types) (walked_arm types) z)).inner
      || list_any p ((of_stmt types (map-Stmt Stmt Arm Walked WalkedArm (walked types) (walked_arm types) z)).own (λ leaf. driver_in types leaf block)))
      ≡ list_any passes ((of_told (map-Stmt Stmt Arm Told ToldArm told told_arm z)).declares block behind))
      → Finds (roll-Stmt z)
  finds_at z h block behind =
      ap (λ (w : Walked). list_any p w.inner || list_any p (w.own (λ leaf. driver_in types leaf block))) (walked_roll types z) ∙ h block behind
      ∙ ap (λ (t : Told). list_any passes (t.declares block behind)) (sym (fold-roll-Stmt Told ToldArm of_told of_told_arm z))

  from_finds : (ps : List ((s : Stmt) × Finds s)) (block : List Stmt)
      → (list_any p (flat_map (λ w. w.inner) (map (walked types) (map (λ e. e.0) ps))) || list_any p (flat_map (λ w. w.own (λ leaf. driver_in types leaf block)) (map (walked types) (map (λ e. e.0) ps))))
      ≡ list_any passes (declared_from block (map told (map (λ e. e.0) ps)))
  from_finds [] block = refl
  from_finds (q ∷ ps) block =
      let ss : List Stmt = map (λ e. e.0) ps in
      let ws : List Walked = map (walked types) ss in
      let own : Walked → List Edge = λ w. w.own (λ leaf. driver_in types leaf block) in
      ap₂ (λ x y. list_any p x || list_any p y) (flat_map-cons (λ (w : Walked). w.inner) (walked types q.0) ws) (flat_map-cons own (walked types q.0) ws)
      ∙ ap₂ (λ x y. x || y) (list_any-append p (walked types q.0).inner (flat_map (λ w. w.inner) ws)) (list_any-append p (own (walked types q.0)) (flat_map own ws))
      ∙ or_pairs (list_any p (walked types q.0).inner) (list_any p (flat_map (λ w. w.inner) ws)) (list_any p (own (walked types q.0))) (list_any p (flat_map own ws))
      ∙ ap₂ (λ x y. x || y) (q.1 block (map (λ t. t.itself) (map told ss))) (from_finds ps block)
      ∙ sym (list_any-append passes ((told q.0).declares block (map (λ t. t.itself) (map told ss))) (declared_from block (map told ss)))

  block_finds : (ps : List ((s : Stmt) × Finds s)) → list_any p (edges_in types (map (walked types) (map (λ e. e.0) ps))) ≡ list_any passes (declared_in_block (map told (map (λ e. e.0) ps)))
  block_finds ps =
      let ss : List Stmt = map (λ e. e.0) ps in
      let ws : List Walked = map (walked types) ss in
      list_any-append p (flat_map (λ w. w.inner) ws) (flat_map (λ w. w.own (block_driver types ws)) ws)
      ∙ ap (λ (b : List Stmt). list_any p (flat_map (λ w. w.inner) ws) || list_any p (flat_map (λ w. w.own (λ leaf. driver_in types leaf b)) ws)) (all_itself types ss ∙ sym (all_told ss))
      ∙ from_finds ps (map (λ t. t.itself) (map told ss))

  arms_find : (ps : List ((a : Arm) × ArmFinds a)) → list_any p (flat_map (λ a. a.edges) (map (walked_arm types) (map (λ e. e.0) ps))) ≡ list_any passes (flat_map (λ a. a.declared) (map told_arm (map (λ e. e.0) ps)))
  arms_find [] = refl
  arms_find (q ∷ ps) =
      let was : List WalkedArm = map (walked_arm types) (map (λ e. e.0) ps) in
      let tas : List ToldArm = map told_arm (map (λ e. e.0) ps) in
      ap (list_any p) (flat_map-cons (λ (a : WalkedArm). a.edges) (walked_arm types q.0) was) ∙ list_any-append p (walked_arm types q.0).edges (flat_map (λ a. a.edges) was)
      ∙ ap₂ (λ x y. x || y) q.1 (arms_find ps) ∙ sym (list_any-append passes (told_arm q.0).declared (flat_map (λ a. a.declared) tas))
      ∙ ap (list_any passes) (sym (flat_map-cons (λ (a : ToldArm). a.declared) (told_arm q.0) tas))

  finds_case : (y : Stmt-F ((s : Stmt) × Finds s) ((a : Arm) × ArmFinds a)) → Finds (roll-Stmt (map-Stmt _ _ Stmt Arm (λ e. e.0) (λ e. e.0) y))
  finds_case (Stmt-F.Wire name typ) = finds_at (Stmt-F.Wire name typ) (λ block behind. or_false _)
  finds_case (Stmt-F.Reg name typ clock) = finds_at (Stmt-F.Reg name typ clock) (λ block behind. or_false _)
  finds_case (Stmt-F.RegReset name typ clock reset init) = finds_at (Stmt-F.RegReset name typ clock reset init) (λ block behind. or_false _)
  finds_case (Stmt-F.Mem memory) = finds_at (Stmt-F.Mem memory) (λ block behind. or_false _)
  finds_case (Stmt-F.Inst name target) = finds_at (Stmt-F.Inst name target) (λ block behind. or_false _)
  finds_case (Stmt-F.Node name expr) = finds_at (Stmt-F.Node name expr) (λ block behind. or_false _)
  finds_case (Stmt-F.Connect left right) = finds_at (Stmt-F.Connect left right) (λ block behind. refl)
  finds_case (Stmt-F.Invalidate target) = finds_at (Stmt-F.Invalidate target) (λ block behind. refl)
  finds_case (Stmt-F.Skip place) = finds_at (Stmt-F.Skip place) (λ block behind. refl)
  finds_case (Stmt-F.When arms other) = finds_at (Stmt-F.When (map (λ e. e.0) arms) (map (λ e. e.0) other))
      (λ block behind.
      let was : List Edge = flat_map (λ a. a.edges) (map (walked_arm types) (map (λ e. e.0) arms)) in
      let ws : List Edge = edges_in types (map (walked types) (map (λ e. e.0) other)) in
      sym (or_false (list_any p (was ++ ws))) ∙ list_any-append p was ws ∙ ap₂ (λ x y. x || y) (arms_find arms) (block_finds other)
      ∙ sym (list_any-append passes (flat_map (λ a. a.declared) (map told_arm (map (λ e. e.0) arms))) (declared_in_block (map told (map (λ e. e.0) other)))))

  arm_case : (y : Arm-F ((s : Stmt) × Finds s) ((a : Arm) × ArmFinds a)) → ArmFinds (roll-Arm (map-Arm _ _ Stmt Arm (λ e. e.0) (λ e. e.0) y))
  arm_case y =
      let z : Arm-F Stmt Arm = record { condition = y.condition; body = map (λ e. e.0) y.body } in
      ap (λ (a : WalkedArm). list_any p a.edges) (walked_arm_roll types z) ∙ block_finds y.body
      ∙ ap (λ (t : ToldArm). list_any passes t.declared) (sym (fold-roll-Arm Told ToldArm of_told of_told_arm z))

  finds : (s : Stmt) → Finds s
  finds = ind-Stmt Finds ArmFinds
      (λ x y is. subst (λ z. Finds (roll-Stmt z)) is (finds_case y))
      (λ x y is. subst (λ z. ArmFinds (roll-Arm z)) is (arm_case y))

  with_finds : List Stmt → List ((s : Stmt) × Finds s)
  with_finds ss = map (λ s. (s, finds s)) ss

  with_finds_same : (ss : List Stmt) → map (λ e. e.0) (with_finds ss) ≡ ss
  unfolding with_finds
  with_finds_same [] = refl
  with_finds_same (s ∷ ss) = ap (λ l. s ∷ l) (with_finds_same ss)

  body_finds : (ss : List Stmt) → list_any p (edges_in types (map (walked types) ss)) ≡ list_any passes (declared_in_block (map told ss))
  body_finds ss = subst (λ (l : List Stmt). list_any p (edges_in types (map (walked types) l)) ≡ list_any passes (declared_in_block (map told l))) (with_finds_same ss) (block_finds (with_finds ss))

  ports_find : (body : List Stmt) (ports : List Port)
      → list_any p (flat_map (port_edges types (λ leaf. driver_in types leaf body)) ports) ≡ list_any passes (map (declared_by_port body) ports)
  ports_find body [] = refl
  ports_find body (x ∷ ports) =
      let es : Port → List Edge = port_edges types (λ leaf. driver_in types leaf body) in
      ap (list_any p) (flat_map-cons es x ports) ∙ list_any-append p (es x) (flat_map es ports) ∙ ap (λ b. list_any p (es x) || b) (ports_find body ports)

  or_turn : (a b : Bool) → (a || b) ≡ (b || a)
  or_turn true true = refl
  or_turn true false = refl
  or_turn false true = refl
  or_turn false false = refl

  -- of a module
  pub module_finds : (holder : Module) → list_any p (module_edges types holder) ≡ list_any passes (declarations_of holder)
  module_finds holder =
      let ws : List Walked = map (walked types) holder.body in
      let inside : List Declaration = declared_in_block (map told holder.body) in
      list_any-append p (edges_in types ws) (flat_map (port_edges types (block_driver types ws)) holder.ports)
      ∙ ap₂ (λ x y. x || y) (body_finds holder.body)
      (ap (λ (b : List Stmt). list_any p (flat_map (port_edges types (λ leaf. driver_in types leaf b)) holder.ports)) (all_itself types holder.body) ∙ ports_find holder.body holder.ports)
      ∙ or_turn (list_any passes inside) (list_any passes (map (declared_by_port holder.body) holder.ports))
      ∙ sym (list_any-append passes (map (declared_by_port holder.body) holder.ports) inside)
