-- In a well typed body the block of each declaration is well typed, and so are the expressions in what it makes.
use Rattle.std.proofs.Common.{◌≡◌, ℕ, zero, suc, ◌==◌, eq-eqb, Bool, true, false, ◌&&◌, List, [], ◌∷◌, ◌++◌, map, Some, refl, sym, ap, ap₂, ◌∙◌, subst, arith, true≢false}
use Rattle.std.specs.Prelude.{Contains}
use Rattle.std.specs.List.{flat_map, list_all}
use Rattle.std.proofs.lemmas.List.Concat.{flat_map-cons}
use Rattle.std.proofs.lemmas.List.Folds.{list_all-append}
use Rattle.fir_types.specs.declared.port.Port.{Port}
use Rattle.fir_tree.specs.declared.circuit.Module.{Module}
use Rattle.fir_tree.specs.declared.stmt.Stmt.{Stmt, ind-Stmt}
use Rattle.fir_tree.specs.declared.stmt.Arm.{Arm, fold-Arm}
use Rattle.fir_tree.specs.declared.stmt.Stmt.TheOpen.{Stmt-F, Arm-F}
use Rattle.fir_tree.specs.declared.stmt.Stmt.TheFolds.{map-Stmt, map-Arm, fold-roll-Stmt, fold-roll-Arm}
use Rattle.fir_tree.specs.declared.stmt.Stmt.TheViews.{roll-Stmt, roll-Arm}
use Rattle.fir_tree.specs.declared.scope.Fitted.{Fitted}
use Rattle.fir_meaning.specs.Components.{TypedModule, Component, design_of, module_at, component_named, Declaration, Told, ToldArm, told, of_told, of_told_arm, declared_from, declared_in_block, declarations_of, declared_by_port}
use Rattle.fir_meaning.specs.WellTyped as kinds
use Rattle.fir_meaning.specs.WellTyped.{Known, known_in, is_typed_stmt, are_typed}
use Rattle.fir_meaning.proofs.Ports.{component_found}
use Rattle.fir_meaning.proofs.Tracking.{Contains-map}
use Rattle.circuit_laws.specs.WellFormed.{IsWellFormed}
use Rattle.circuit_laws.proofs.Reached.{known_module}
use Rattle.settling_laws.specs.Typed.{is_typed_sort, is_named, is_typed_declaration}

pub both_true : (p q : Bool) → (p && q) ≡ true → (p ≡ true) × (q ≡ true)
both_true true q e = (refl, e)
both_true false q e = absurd (true≢false (sym e))

all_at : {A : Type 0} (p : A → Bool) (xs : List A) → list_all p xs ≡ true → (x : A) → Contains xs x → p x ≡ true
all_at p [] h x (k, below, is) = absurd (omega arith)
all_at p (y ∷ xs) h x (zero, below, is) = ap p (sym is) ∙ (both_true (p y) (list_all p xs) h).0
all_at p (y ∷ xs) h x (suc k, below, is) = all_at p xs (both_true (p y) (list_all p xs) h).1 x (k, omega (arith, below), is)

-- The statements that declare are those of the text.

abbrev told_arm : Arm → ToldArm
told_arm = fold-Arm Told ToldArm of_told of_told_arm

abbrev IsTold : Stmt → Type 0
IsTold s = (told s).itself ≡ s

abbrev ArmIsTold : Arm → Type 0
ArmIsTold a = (told_arm a).itself ≡ a

told_at : (z : Stmt-F Stmt Arm) → (of_told (map-Stmt Stmt Arm Told ToldArm told told_arm z)).itself ≡ roll-Stmt z → IsTold (roll-Stmt z)
told_at z h = ap (λ (t : Told). t.itself) (fold-roll-Stmt Told ToldArm of_told of_told_arm z) ∙ h

each_told : (ps : List ((s : Stmt) × IsTold s)) → map (λ t. t.itself) (map told (map (λ e. e.0) ps)) ≡ map (λ e. e.0) ps
each_told [] = refl
each_told (p ∷ ps) = ap₂ (λ (s : Stmt) (ss : List Stmt). s ∷ ss) p.1 (each_told ps)

arms_told : (ps : List ((a : Arm) × ArmIsTold a)) → map (λ t. t.itself) (map told_arm (map (λ e. e.0) ps)) ≡ map (λ e. e.0) ps
arms_told [] = refl
arms_told (p ∷ ps) = ap₂ (λ (a : Arm) (rest : List Arm). a ∷ rest) p.1 (arms_told ps)

told_case : (y : Stmt-F ((s : Stmt) × IsTold s) ((a : Arm) × ArmIsTold a)) → IsTold (roll-Stmt (map-Stmt _ _ Stmt Arm (λ e. e.0) (λ e. e.0) y))
told_case (Stmt-F.Wire name typ) = told_at (Stmt-F.Wire name typ) refl
told_case (Stmt-F.Reg name typ clock) = told_at (Stmt-F.Reg name typ clock) refl
told_case (Stmt-F.RegReset name typ clock reset init) = told_at (Stmt-F.RegReset name typ clock reset init) refl
told_case (Stmt-F.Mem memory) = told_at (Stmt-F.Mem memory) refl
told_case (Stmt-F.Inst name target) = told_at (Stmt-F.Inst name target) refl
told_case (Stmt-F.Node name expr) = told_at (Stmt-F.Node name expr) refl
told_case (Stmt-F.Connect left right) = told_at (Stmt-F.Connect left right) refl
told_case (Stmt-F.Invalidate target) = told_at (Stmt-F.Invalidate target) refl
told_case (Stmt-F.Skip place) = told_at (Stmt-F.Skip place) refl
told_case (Stmt-F.When arms other) = told_at (Stmt-F.When (map (λ e. e.0) arms) (map (λ e. e.0) other))
    (ap₂ (λ (x : List Arm) (y : List Stmt). roll-Stmt (Stmt-F.When x y)) (arms_told arms) (each_told other))

told_arm_case : (y : Arm-F ((s : Stmt) × IsTold s) ((a : Arm) × ArmIsTold a)) → ArmIsTold (roll-Arm (map-Arm _ _ Stmt Arm (λ e. e.0) (λ e. e.0) y))
told_arm_case y =
    ap (λ (t : ToldArm). t.itself) (fold-roll-Arm Told ToldArm of_told of_told_arm (record { condition = y.condition; body = map (λ e. e.0) y.body }))
    ∙ ap (λ (b : List Stmt). roll-Arm (record { condition = y.condition; body = b })) (each_told y.body)

itself : (s : Stmt) → IsTold s
itself = ind-Stmt IsTold ArmIsTold (λ x y is. subst (λ z. IsTold (roll-Stmt z)) is (told_case y)) (λ x y is. subst (λ z. ArmIsTold (roll-Arm z)) is (told_arm_case y))

itself_in : (ss : List Stmt) → map (λ t. t.itself) (map told ss) ≡ ss
itself_in [] = refl
itself_in (s ∷ ss) = ap₂ (λ (x : Stmt) (xs : List Stmt). x ∷ xs) (itself s) (itself_in ss)

-- What they declare is well typed.

module _ (known : Known) where
  abbrev all_typed : List Declaration → Bool
  all_typed ds = list_all (is_typed_declaration known) ds

  abbrev typed_arm : Arm → Bool
  typed_arm = fold-Arm Bool Bool (kinds.of_stmt known) (kinds.of_arm known)

  abbrev Typed : Stmt → Type 0
  Typed s = (block behind : List Stmt) → are_typed known block ≡ true → is_typed_stmt known s ≡ true → all_typed ((told s).declares block behind) ≡ true

  abbrev ArmTyped : Arm → Type 0
  ArmTyped a = typed_arm a ≡ true → all_typed (told_arm a).declared ≡ true

  together : (xs ys : List Declaration) → all_typed xs ≡ true → all_typed ys ≡ true → all_typed (xs ++ ys) ≡ true
  together xs ys p q = list_all-append (is_typed_declaration known) xs ys ∙ ap₂ (λ a b. a && b) p q

  from_typed : (ps : List ((s : Stmt) × Typed s)) (block : List Stmt) → are_typed known block ≡ true → list_all (λ b. b) (map (is_typed_stmt known) (map (λ e. e.0) ps)) ≡ true
      → all_typed (declared_from block (map told (map (λ e. e.0) ps))) ≡ true
  from_typed [] block a h = refl
  from_typed (p ∷ ps) block a h =
      let rest = map told (map (λ e. e.0) ps) in
      let b = both_true (is_typed_stmt known p.0) (list_all (λ b. b) (map (is_typed_stmt known) (map (λ e. e.0) ps))) h in
      together ((told p.0).declares block (map (λ t. t.itself) rest)) (declared_from block rest) (p.1 block (map (λ t. t.itself) rest) a b.0) (from_typed ps block a b.1)

  block_typed : (ps : List ((s : Stmt) × Typed s)) → list_all (λ b. b) (map (is_typed_stmt known) (map (λ e. e.0) ps)) ≡ true → all_typed (declared_in_block (map told (map (λ e. e.0) ps))) ≡ true
  block_typed ps h =
      let ss : List Stmt = map (λ e. e.0) ps in
      from_typed ps (map (λ t. t.itself) (map told ss)) (ap (are_typed known) (itself_in ss) ∙ h) h

  arms_typed : (ps : List ((a : Arm) × ArmTyped a)) → list_all (λ b. b) (map typed_arm (map (λ e. e.0) ps)) ≡ true → all_typed (flat_map (λ arm. arm.declared) (map told_arm (map (λ e. e.0) ps))) ≡ true
  arms_typed [] h = refl
  arms_typed (p ∷ ps) h =
      let b = both_true (typed_arm p.0) (list_all (λ b. b) (map typed_arm (map (λ e. e.0) ps))) h in
      ap all_typed (flat_map-cons (λ arm. arm.declared) (told_arm p.0) (map told_arm (map (λ e. e.0) ps)))
      ∙ together (told_arm p.0).declared (flat_map (λ arm. arm.declared) (map told_arm (map (λ e. e.0) ps))) (p.1 b.0) (arms_typed ps b.1)

  typed_at : (z : Stmt-F Stmt Arm)
      → ((block behind : List Stmt) → are_typed known block ≡ true → kinds.of_stmt known (map-Stmt Stmt Arm Bool Bool (is_typed_stmt known) typed_arm z) ≡ true
      → all_typed ((of_told (map-Stmt Stmt Arm Told ToldArm told told_arm z)).declares block behind) ≡ true)
      → Typed (roll-Stmt z)
  typed_at z h block behind a e =
      ap (λ (t : Told). all_typed (t.declares block behind)) (fold-roll-Stmt Told ToldArm of_told of_told_arm z)
      ∙ h block behind a (sym (fold-roll-Stmt Bool Bool (kinds.of_stmt known) (kinds.of_arm known) z) ∙ e)

  -- a declaration whose block and sort are typed
  lone : (a b c : Bool) → a ≡ true → b ≡ true → c ≡ true → ((a && (b && c)) && true) ≡ true
  lone a b c p q r = ap₂ (λ x y. (x && (y && c)) && true) p q ∙ ap (λ z. z && true) r

  typed_layer : (y : Stmt-F ((s : Stmt) × Typed s) ((a : Arm) × ArmTyped a)) → Typed (roll-Stmt (map-Stmt _ _ Stmt Arm (λ e. e.0) (λ e. e.0) y))
  typed_layer (Stmt-F.Wire name typ) = typed_at (Stmt-F.Wire name typ) (λ block behind a h. lone (are_typed known block) true true a refl refl)
  typed_layer (Stmt-F.Reg name typ clock) = typed_at (Stmt-F.Reg name typ clock) (λ block behind a h. lone (are_typed known block) true true a refl refl)
  typed_layer (Stmt-F.RegReset name typ clock reset init) =
      typed_at (Stmt-F.RegReset name typ clock reset init) (λ block behind a h.
      let b = both_true (kinds.is_typed known clock) (kinds.is_condition known reset && kinds.is_typed known init) h in
      lone (are_typed known block) (kinds.is_condition known reset && kinds.is_typed known init) true a b.1 refl)
  typed_layer (Stmt-F.Mem memory) = typed_at (Stmt-F.Mem memory) (λ block behind a h. lone (are_typed known block) true (memory.name.id == memory.name.id) a refl (eq-eqb memory.name.id memory.name.id refl))
  typed_layer (Stmt-F.Inst name target) = typed_at (Stmt-F.Inst name target) (λ block behind a h. lone (are_typed known block) true true a refl refl)
  typed_layer (Stmt-F.Node name expr) = typed_at (Stmt-F.Node name expr) (λ block behind a h. lone (are_typed known block) (kinds.is_typed known expr) true a h refl)
  typed_layer (Stmt-F.Connect left right) = typed_at (Stmt-F.Connect left right) (λ block behind a h. refl)
  typed_layer (Stmt-F.Invalidate target) = typed_at (Stmt-F.Invalidate target) (λ block behind a h. refl)
  typed_layer (Stmt-F.Skip place) = typed_at (Stmt-F.Skip place) (λ block behind a h. refl)
  typed_layer (Stmt-F.When arms other) =
      let xs : List Arm = map (λ e. e.0) arms in
      let ys : List Stmt = map (λ e. e.0) other in
      typed_at (Stmt-F.When xs ys) (λ block behind a h.
      let b = both_true (list_all (λ b. b) (map typed_arm xs)) (list_all (λ b. b) (map (is_typed_stmt known) ys)) h in
      together (flat_map (λ arm. arm.declared) (map told_arm xs)) (declared_in_block (map told ys)) (arms_typed arms b.0) (block_typed other b.1))

  typed_arm_layer : (y : Arm-F ((s : Stmt) × Typed s) ((a : Arm) × ArmTyped a)) → ArmTyped (roll-Arm (map-Arm _ _ Stmt Arm (λ e. e.0) (λ e. e.0) y))
  typed_arm_layer y e =
      let z : Arm-F Stmt Arm = map-Arm _ _ Stmt Arm (λ e. e.0) (λ e. e.0) y in
      let b = both_true (kinds.is_condition known z.condition) (list_all (λ b. b) (map (is_typed_stmt known) z.body)) (sym (fold-roll-Arm Bool Bool (kinds.of_stmt known) (kinds.of_arm known) z) ∙ e) in
      ap (λ (t : ToldArm). all_typed t.declared) (fold-roll-Arm Told ToldArm of_told of_told_arm z) ∙ block_typed y.body b.1

  typed_stmt : (s : Stmt) → Typed s
  typed_stmt = ind-Stmt Typed ArmTyped (λ x y is. subst (λ z. Typed (roll-Stmt z)) is (typed_layer y)) (λ x y is. subst (λ z. ArmTyped (roll-Arm z)) is (typed_arm_layer y))

  abbrev with_typed : (ss : List Stmt) → List ((s : Stmt) × Typed s)
  with_typed [] = []
  with_typed (s ∷ ss) = (s, typed_stmt s) ∷ with_typed ss

  with_typed_same : (ss : List Stmt) → map (λ e. e.0) (with_typed ss) ≡ ss
  with_typed_same [] = refl
  with_typed_same (s ∷ ss) = ap (λ l. s ∷ l) (with_typed_same ss)

  body_typed : (ss : List Stmt) → are_typed known ss ≡ true → all_typed (declared_in_block (map told ss)) ≡ true
  body_typed ss h =
      subst (λ l. all_typed (declared_in_block (map told l)) ≡ true) (with_typed_same ss)
      (block_typed (with_typed ss) (ap (are_typed known) (with_typed_same ss) ∙ h))

  ports_typed : (body : List Stmt) → are_typed known body ≡ true → (ports : List Port) → all_typed (map (declared_by_port body) ports) ≡ true
  ports_typed body h [] = refl
  ports_typed body h (port ∷ ports) = by port.output refl (ports_typed body h ports)
    where
      by : (b : Bool) → port.output ≡ b → all_typed (map (declared_by_port body) ports) ≡ true → all_typed (map (declared_by_port body) (port ∷ ports)) ≡ true
      by true q r = rw q (ap₂ (λ x y. (x && (true && true)) && y) h r)
      by false q r = rw q (ap₂ (λ x y. (x && (true && true)) && y) h r)

  pub declarations_typed : (holder : Module) → are_typed known holder.body ≡ true → (d : Declaration) → Contains (declarations_of holder) d → is_typed_declaration known d ≡ true
  declarations_typed holder h =
      all_at (is_typed_declaration known) (declarations_of holder)
      (together (map (declared_by_port holder.body) holder.ports) (declared_in_block (map told holder.body)) (ports_typed holder.body h holder.ports) (body_typed holder.body h))

-- So it is in a well formed circuit.
pub declared_typed : (fitted : Fitted) → IsWellFormed fitted → (path : List ℕ) (m : TypedModule) (c : Component) → module_at (design_of fitted) path ≡ Some m → component_named m c.declaration.name ≡ Some c
    → is_typed_declaration (known_in m) c.declaration ≡ true
declared_typed fitted well path m c at named =
    let its = known_module fitted well path m at in
    let among = (component_found m c.declaration.name c named).1 in
    declarations_typed (known_in m) its.holder its.typed.statements c.declaration
    (subst (λ ds. Contains ds c.declaration) its.typed.components (Contains-map (λ (x : Component). x.declaration) m.components c among))

-- the block of a component
pub block_typed_there : (fitted : Fitted) → IsWellFormed fitted → (path : List ℕ) (m : TypedModule) (c : Component) → module_at (design_of fitted) path ≡ Some m → component_named m c.declaration.name ≡ Some c
    → are_typed (known_in m) c.declaration.block ≡ true
block_typed_there fitted well path m c at named =
    (both_true (are_typed (known_in m) c.declaration.block) (is_typed_sort (known_in m) c.declaration.sort && is_named c.declaration.name c.declaration.sort) (declared_typed fitted well path m c at named)).0

-- what it makes
pub sort_typed_there : (fitted : Fitted) → IsWellFormed fitted → (path : List ℕ) (m : TypedModule) (c : Component) → module_at (design_of fitted) path ≡ Some m → component_named m c.declaration.name ≡ Some c
    → is_typed_sort (known_in m) c.declaration.sort ≡ true
sort_typed_there fitted well path m c at named =
    (both_true (is_typed_sort (known_in m) c.declaration.sort) (is_named c.declaration.name c.declaration.sort)
    (both_true (are_typed (known_in m) c.declaration.block) (is_typed_sort (known_in m) c.declaration.sort && is_named c.declaration.name c.declaration.sort) (declared_typed fitted well path m c at named)).1).0
