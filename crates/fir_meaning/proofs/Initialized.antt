-- In an initialized circuit every leaf that must be driven has an integer, whatever the valuation.
use Rattle.std.proofs.Common.{◌≡◌, ℕ, zero, suc, ◌==◌, ◌||◌, Bool, true, false, List, [], ◌∷◌, ◌++◌, map, zip, drop, length, Some, option_and_then, is_some, refl, sym, ap, ◌∙◌, subst, arith, append_assoc, ⊎_elim}
use Rattle.std.specs.Prelude.{Contains}
use Rattle.std.specs.List.{flat_map}
use Rattle.std.proofs.lemmas.Grind.{common_steps}
use Rattle.std.proofs.lemmas.List.Elements.{Contains-append_cases}
use Rattle.std.proofs.lemmas.List.Concat.{flat_map-cons}
use Rattle.fir_types.specs.declared.fir_type.FirType.{FirType}
use Rattle.fir_types.specs.declared.leaf.TypeLeaf.{TypeLeaf}
use Rattle.fir_types.specs.declared.name.Name.{Name}
use Rattle.fir_tree.specs.declared.circuit.Module.{Module}
use Rattle.fir_tree.specs.declared.scope.Fitted.{Fitted}
use Rattle.fir_tree.specs.declared.stmt.Stmt.{Stmt, ind-Stmt, the_lemmas as stmt_lemmas}
use Rattle.fir_tree.specs.declared.stmt.Arm.{Arm, fold-Arm}
use Rattle.fir_tree.specs.declared.stmt.Stmt.TheOpen.{Stmt-F, Arm-F}
use Rattle.fir_tree.specs.declared.stmt.Stmt.TheFolds.{map-Stmt, map-Arm}
use Rattle.fir_tree.specs.declared.stmt.Stmt.TheViews.{roll-Stmt, roll-Arm}
use Rattle.fir_meaning.specs.Components.{Design, Declaration, Declares, Told, ToldArm, told, of_told, of_told_arm, one, declared_from, declared_in_block, declarations_of, declared_by_port, Component, TypedModule, with_types, design_of, Leaf, type_in, flow_of, module_at, module_within, module_named, target_of}
use Rattle.fir_meaning.specs.Values.{Valuation, scene_of}
use Rattle.fir_meaning.specs.Drives.{drives}
use Rattle.fir_meaning.specs.States.{Stands, leaf_of}
use Rattle.fir_meaning.specs.Mentions.{Scope}
use Rattle.fir_meaning.specs.Certain.{certain, is_certain, must_be_driven, IsInitialized}
use Rattle.fir_meaning.proofs.Tracking.{some_same}
use Rattle.fir_meaning.proofs.Blocks.{certain_drives}
use Rattle.fir_meaning.proofs.Settling.{local}
use Rattle.fir_meaning.proofs.Ports.{found, from_map, and_then, component_found}

-- What stands behind a declaration is the end of its block.
record IsEnd (d : Declaration) : Type 0 where
  front : List Stmt
  is : d.block ≡ front ++ d.behind

abbrev told_arm : Arm → ToldArm
told_arm = fold-Arm Told ToldArm of_told of_told_arm

abbrev Ending : Declares → Type 0
Ending declares = (block behind front : List Stmt) → block ≡ front ++ behind → (d : Declaration) → Contains (declares block behind) d → IsEnd d

abbrev StatementEnds : Stmt → Type 0
StatementEnds s = Ending (told s).declares

abbrev ArmEnds : Arm → Type 0
ArmEnds a = (d : Declaration) → Contains (told_arm a).declared d → IsEnd d

told_roll : (y : Stmt-F Stmt Arm) → told (roll-Stmt y) ≡ of_told (map-Stmt Stmt Arm Told ToldArm told told_arm y)
told_roll y = grind (arith, common_steps, stmt_lemmas)

told_arm_roll : (y : Arm-F Stmt Arm) → told_arm (roll-Arm y) ≡ of_told_arm (map-Arm Stmt Arm Told ToldArm told told_arm y)
told_arm_roll y = grind (arith, common_steps, stmt_lemmas)

from_ends : (ps : List ((s : Stmt) × StatementEnds s)) (block front : List Stmt) → block ≡ front ++ map (λ t. t.itself) (map told (map (λ e. e.0) ps))
    → (d : Declaration) → Contains (declared_from block (map told (map (λ e. e.0) ps))) d → IsEnd d
from_ends [] block front e d (k, below, is) = absurd (omega arith)
from_ends (p ∷ ps) block front e d c =
    let rest : List Stmt = map (λ t. t.itself) (map told (map (λ e. e.0) ps)) in
    let shifted : block ≡ (front ++ (told p.0).itself ∷ []) ++ rest = e ∙ sym (append_assoc front ((told p.0).itself ∷ []) rest) in
    ⊎_elim
    (λ here. p.1 block rest (front ++ (told p.0).itself ∷ []) shifted d here)
    (λ later. from_ends ps block (front ++ (told p.0).itself ∷ []) shifted d later)
    (Contains-append_cases ((told p.0).declares block rest) (declared_from block (map told (map (λ e. e.0) ps))) d c)

block_ends : (ps : List ((s : Stmt) × StatementEnds s)) (d : Declaration) → Contains (declared_in_block (map told (map (λ e. e.0) ps))) d → IsEnd d
block_ends ps d c = from_ends ps (map (λ t. t.itself) (map told (map (λ e. e.0) ps))) [] refl d c

one_ends : (name : Name) (sort : _) → Ending (one name sort)
one_ends name sort block behind front e d (zero, below, is) = subst IsEnd is (record { front = front; is = e })
one_ends name sort block behind front e d (suc k, below, is) = absurd (omega arith)

arms_end : (ps : List ((a : Arm) × ArmEnds a)) (d : Declaration) → Contains (flat_map (λ arm. arm.declared) (map told_arm (map (λ e. e.0) ps))) d → IsEnd d
arms_end [] d (k, below, is) = absurd (omega arith)
arms_end (p ∷ ps) d c = ⊎_elim
    (λ here. p.1 d here)
    (λ later. arms_end ps d later)
    (Contains-append_cases (told_arm p.0).declared (flat_map (λ arm. arm.declared) (map told_arm (map (λ e. e.0) ps))) d
    (subst (λ l. Contains l d) (flat_map-cons (λ arm. arm.declared) (told_arm p.0) (map told_arm (map (λ e. e.0) ps))) c))

-- at one layer
ends_at : (y : Stmt-F Stmt Arm) → Ending (of_told (map-Stmt Stmt Arm Told ToldArm told told_arm y)).declares → StatementEnds (roll-Stmt y)
ends_at y h = subst (λ t. Ending t.declares) (sym (told_roll y)) h

nothing_ends : Ending (λ block behind. [])
nothing_ends block behind front e d (k, below, is) = absurd (omega arith)

statement_ends : (y : Stmt-F ((s : Stmt) × StatementEnds s) ((a : Arm) × ArmEnds a)) → StatementEnds (roll-Stmt (map-Stmt _ _ Stmt Arm (λ e. e.0) (λ e. e.0) y))
statement_ends (Stmt-F.Wire name typ) = ends_at (Stmt-F.Wire name typ) (one_ends name _)
statement_ends (Stmt-F.Reg name typ clock) = ends_at (Stmt-F.Reg name typ clock) (one_ends name _)
statement_ends (Stmt-F.RegReset name typ clock reset init) = ends_at (Stmt-F.RegReset name typ clock reset init) (one_ends name _)
statement_ends (Stmt-F.Mem memory) = ends_at (Stmt-F.Mem memory) (one_ends memory.name _)
statement_ends (Stmt-F.Inst name target) = ends_at (Stmt-F.Inst name target) (one_ends name _)
statement_ends (Stmt-F.Node name expr) = ends_at (Stmt-F.Node name expr) (one_ends name _)
statement_ends (Stmt-F.Connect left right) = ends_at (Stmt-F.Connect left right) nothing_ends
statement_ends (Stmt-F.Invalidate target) = ends_at (Stmt-F.Invalidate target) nothing_ends
statement_ends (Stmt-F.Skip place) = ends_at (Stmt-F.Skip place) nothing_ends
statement_ends (Stmt-F.When arms other) = ends_at (Stmt-F.When (map (λ e. e.0) arms) (map (λ e. e.0) other))
    (λ block behind front e d c. ⊎_elim (arms_end arms d) (block_ends other d)
    (Contains-append_cases (flat_map (λ arm. arm.declared) (map told_arm (map (λ e. e.0) arms))) (declared_in_block (map told (map (λ e. e.0) other))) d c))

arm_ends : (y : Arm-F ((s : Stmt) × StatementEnds s) ((a : Arm) × ArmEnds a)) → ArmEnds (roll-Arm (map-Arm _ _ Stmt Arm (λ e. e.0) (λ e. e.0) y))
arm_ends y d c =
    block_ends y.body d (subst (λ t. Contains t.declared d) (told_arm_roll (record { condition = y.condition; body = map (λ e. e.0) y.body })) c)

statements_end : (s : Stmt) → StatementEnds s
statements_end = ind-Stmt StatementEnds ArmEnds
    (λ x y is. subst (λ z. StatementEnds (roll-Stmt z)) is (statement_ends y))
    (λ x y is. subst (λ z. ArmEnds (roll-Arm z)) is (arm_ends y))

with_ends : (ss : List Stmt) → List ((s : Stmt) × StatementEnds s)
with_ends ss = map (λ s. (s, statements_end s)) ss

with_ends_same : (ss : List Stmt) → map (λ e. e.0) (with_ends ss) ≡ ss
unfolding with_ends
with_ends_same [] = refl
with_ends_same (s ∷ ss) = ap (λ l. s ∷ l) (with_ends_same ss)

-- Modules and designs

module_ends : (m : Module) (d : Declaration) → Contains (declarations_of m) d → IsEnd d
module_ends m d c = ⊎_elim
    (λ port. let from = from_map (declared_by_port m.body) m.ports d port in subst IsEnd from.2 (record { front = []; is = refl }))
    (λ inside. block_ends (with_ends m.body) d (subst (λ ss. Contains (declared_in_block (map told ss)) d) (sym (with_ends_same m.body)) inside))
    (Contains-append_cases (map (declared_by_port m.body) m.ports) (declared_in_block (map told m.body)) d c)

from_zip : {A B : Type 0} (xs : List A) (ys : List B) (both : A × B) → Contains (zip xs ys) both → Contains xs both.0
from_zip [] ys both (k, below, is) = absurd (omega arith)
from_zip (x ∷ xs) [] both (k, below, is) = absurd (omega arith)
from_zip (x ∷ xs) (y ∷ ys) both (zero, below, is) = (0, omega arith, ap (λ b. b.0) is)
from_zip (x ∷ xs) (y ∷ ys) both (suc k, below, is) = let rest = from_zip xs ys both (k, omega arith, is) in (suc rest.0, omega arith, rest.2)

typed_ends : (modules : List Module) (types : List FirType) (m : TypedModule) (c : Component) → Contains (with_types modules types) m → Contains m.components c → IsEnd c.declaration
typed_ends [] types m c (k, below, is) among = absurd (omega arith)
typed_ends (x ∷ modules) types m c (zero, below, is) among =
    let there : Contains (map (λ both. record { declaration = both.0; typ = both.1 }) (zip (declarations_of x) types)) c = subst (λ n. Contains n.components c) (sym is) among in
    let from = from_map (λ both. record { declaration = both.0; typ = both.1 }) (zip (declarations_of x) types) c there in
    subst (λ z. IsEnd z.declaration) from.2 (module_ends x from.0.0 (from_zip (declarations_of x) types from.0 from.1))
typed_ends (x ∷ modules) types m c (suc k, below, is) among = typed_ends modules (drop (length (declarations_of x)) types) m c (k, omega arith, is) among

within_design : (design : Design) (m : TypedModule) (path : List ℕ) (n : TypedModule) → Contains design.modules m → module_within design m path ≡ Some n → Contains design.modules n
within_design design m [] n c e = subst (Contains design.modules) (some_same m n e) c
within_design design m (i ∷ path) n c e =
    let next = and_then (λ x. module_within design x path) (option_and_then (module_named design) (target_of m i)) n e in
    let to = and_then (module_named design) (target_of m i) next.0 next.1 in
    within_design design next.0 path n (found (λ x. x.name == to.0) design.modules next.0 to.2).1 next.2

at_design : (design : Design) (path : List ℕ) (n : TypedModule) → module_at design path ≡ Some n → Contains design.modules n
at_design design path n e =
    let main = and_then (λ m. module_within design m path) (module_named design design.main) n e in
    within_design design main.0 path n (found (λ x. x.name == design.main) design.modules main.0 main.1).1 main.2

or_true : (b : Bool) → (b || true) ≡ true
or_true true = refl
or_true false = refl

any_behind : (types : Scope) (leaf : Leaf) (front behind : List Stmt) → is_certain types leaf behind ≡ true → is_certain types leaf (front ++ behind) ≡ true
any_behind types leaf [] behind h = h
any_behind types leaf (s ∷ front) behind h = ap (λ b. certain types leaf s || b) (any_behind types leaf front behind h) ∙ or_true (certain types leaf s)

pub initialized_drives : (fitted : Fitted) → IsInitialized (design_of fitted) → (path : List ℕ) (m : TypedModule) (c : Component) (leaf : TypeLeaf) → Stands (design_of fitted) path m c leaf
    → must_be_driven c.declaration.sort (flow_of c.declaration.sort leaf.flip) ≡ true → (rho : Valuation)
    → is_some (drives (scene_of m path rho) (leaf_of c leaf) c.declaration.block) ≡ true
initialized_drives fitted all path m c leaf stands must rho =
    let ends = typed_ends fitted.checked.resolved.modules fitted.declared m c (at_design (design_of fitted) path m stands.reached) (component_found m c.declaration.name c stands.declared).1 in
    certain_drives (type_in m) (leaf_of c leaf) c.declaration.block (local m path rho)
    (subst (λ b. is_certain (type_in m) (leaf_of c leaf) b ≡ true) (sym ends.is) (any_behind (type_in m) (leaf_of c leaf) ends.front c.declaration.behind (all.covered path m c leaf stands must)))
