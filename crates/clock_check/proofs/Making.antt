-- The instances that are found are those of the declarations, and so those of the components.
use Rattle.std.proofs.Common.{◌≡◌, ℕ, zero, suc, ◌+◌, ◌<◌, take, length, get_or, ◌==◌, Bool, true, false, if◌then◌else◌, List, [], ◌∷◌, ◌++◌, map, Option, Some, None, slice_get, cond, refl, sym, ap, ap₂, ◌∙◌, subst, append-nil, arith}
use Rattle.std.specs.Prelude.{Contains, nat_eq, option_and_then, is_some}
use Rattle.std.specs.List.{flat_map}
use Rattle.std.specs.Map.{lookup}
use Rattle.std.proofs.lemmas.Grind.{common_steps}
use Rattle.std.proofs.lemmas.Bool.{eqb-true, eqb-false}
use Rattle.std.proofs.lemmas.List.Concat.{flat_map-append, flat_map-cons}
use Rattle.std.proofs.lemmas.List.Folds.{flat_map-map}
use Rattle.std.proofs.lemmas.List.Elements.{Contains-append_right}
use Rattle.std.proofs.lemmas.List.{take_more}
use Rattle.fir_types.specs.declared.port.Port.{Port}
use Rattle.fir_types.specs.declared.name.Name.{Name}
use Rattle.fir_tree.specs.declared.circuit.Module.{Module}
use Rattle.fir_tree.specs.declared.scope.Fitted.{Fitted}
use Rattle.fir_tree.specs.declared.stmt.Stmt.{Stmt, ind-Stmt, the_lemmas as stmt_lemmas}
use Rattle.fir_tree.specs.declared.stmt.Stmt.TheVariants as stmt
use Rattle.fir_tree.specs.declared.stmt.Arm.{Arm, fold-Arm}
use Rattle.fir_tree.specs.declared.stmt.Stmt.TheOpen.{Stmt-F, Arm-F}
use Rattle.fir_tree.specs.declared.stmt.Stmt.TheFolds.{map-Stmt, map-Arm, fold-roll-Stmt, fold-roll-Arm}
use Rattle.fir_tree.specs.declared.stmt.Stmt.TheViews.{roll-Stmt, roll-Arm}
use Rattle.fir_meaning.specs.Components.{Component, TypedModule, Declaration, Told, ToldArm, told, of_told, of_told_arm, declared_from, declared_in_block, declarations_of, declared_by_port, modules_of, component_named, target_in, target_of, Sort, An_input, An_output, A_wire, A_register, A_reset_register, A_memory, An_instance, A_node}
use Rattle.fir_meaning.proofs.Ports.{from_flat_map, from_map}
use Rattle.fir_meaning.proofs.Tracking.{Contains-flat_map, Contains-map, none_some}
use Rattle.fir_names.proofs.Graphs.{some_same}
use Rattle.circuit_laws.specs.WellFormed.{IsKnownModule}
use Rattle.drive_check.specs.Typing.{with_new}
use Rattle.drive_check.proofs.Placing.{or_else, lookup-append}
use Rattle.drive_check.proofs.Telling.{AreNamed, get_contains, contains_get, none_in, find_in}
use Rattle.clock_check.specs.declared.instances.Instance.{Instance}
use Rattle.clock_check.specs.Makes.{Makes, makes_of, all_makes, of_stmt, of_arm, stmt_makes, arm_makes, sort_makes, makes_by, module_makes}
use Rattle.clock_check.proofs.Getting.{one_in}

pub arm_makes_is : (a : Arm) → arm_makes a ≡ flat_map stmt_makes a.body
arm_makes_is a = folded ∙ flat_map-map (λ makes. makes) stmt_makes a.body
  where
    folded : arm_makes a ≡ all_makes (map stmt_makes a.body)
    folded = grind (arith, common_steps, stmt_lemmas)

pub when_makes_is : (s : Stmt) (arms : List Arm) (other : List Stmt) → s ≡ stmt.When arms other → stmt_makes s ≡ flat_map arm_makes arms ++ flat_map stmt_makes other
when_makes_is s arms other e =
    ap stmt_makes e ∙ folded ∙ ap₂ (λ a b. a ++ b) (flat_map-map (λ makes. makes) arm_makes arms) (flat_map-map (λ makes. makes) stmt_makes other)
  where
    folded : stmt_makes (stmt.When arms other) ≡ all_makes (map arm_makes arms) ++ all_makes (map stmt_makes other)
    folded = grind (arith, common_steps, stmt_lemmas)

abbrev told_arm : Arm → ToldArm
told_arm = fold-Arm Told ToldArm of_told of_told_arm

abbrev made : Name → Sort → List Stmt → List Stmt → Declaration
made name sort block behind = record { name = name.id; place = name.place; sort = sort; block = block; behind = behind }

abbrev IsMade : Stmt → Type 0
IsMade s = (block behind : List Stmt) → stmt_makes s ≡ flat_map makes_by ((told s).declares block behind)

abbrev ArmIsMade : Arm → Type 0
ArmIsMade a = arm_makes a ≡ flat_map makes_by (told_arm a).declared

made_at : (z : Stmt-F Stmt Arm)
    → ((block behind : List Stmt) → of_stmt (map-Stmt Stmt Arm (List Makes) (List Makes) stmt_makes arm_makes z)
    ≡ flat_map makes_by ((of_told (map-Stmt Stmt Arm Told ToldArm told told_arm z)).declares block behind))
    → IsMade (roll-Stmt z)
made_at z h block behind =
    fold-roll-Stmt (List Makes) (List Makes) of_stmt of_arm z ∙ h block behind
    ∙ ap (λ (t : Told). flat_map makes_by (t.declares block behind)) (sym (fold-roll-Stmt Told ToldArm of_told of_told_arm z))

lone : (d : Declaration) → makes_by d ≡ flat_map makes_by (d ∷ [])
lone d = sym (flat_map-cons makes_by d [] ∙ append-nil (makes_by d))

from_made : (ps : List ((s : Stmt) × IsMade s)) (block : List Stmt)
    → all_makes (map stmt_makes (map (λ e. e.0) ps)) ≡ flat_map makes_by (declared_from block (map told (map (λ e. e.0) ps)))
from_made [] block = refl
from_made (q ∷ ps) block =
    let rest : List Stmt = map (λ t. t.itself) (map told (map (λ e. e.0) ps)) in
    flat_map-cons (λ (l : List Makes). l) (stmt_makes q.0) (map stmt_makes (map (λ e. e.0) ps))
    ∙ ap₂ (λ x y. x ++ y) (q.1 block rest) (from_made ps block)
    ∙ sym (flat_map-append makes_by ((told q.0).declares block rest) (declared_from block (map told (map (λ e. e.0) ps))))

block_makes : (ps : List ((s : Stmt) × IsMade s)) → all_makes (map stmt_makes (map (λ e. e.0) ps)) ≡ flat_map makes_by (declared_in_block (map told (map (λ e. e.0) ps)))
block_makes ps = from_made ps (map (λ t. t.itself) (map told (map (λ e. e.0) ps)))

arms_make : (ps : List ((a : Arm) × ArmIsMade a)) → all_makes (map arm_makes (map (λ e. e.0) ps)) ≡ flat_map makes_by (flat_map (λ a. a.declared) (map told_arm (map (λ e. e.0) ps)))
arms_make [] = refl
arms_make (q ∷ ps) =
    let tas : List ToldArm = map told_arm (map (λ e. e.0) ps) in
    flat_map-cons (λ (l : List Makes). l) (arm_makes q.0) (map arm_makes (map (λ e. e.0) ps))
    ∙ ap₂ (λ x y. x ++ y) q.1 (arms_make ps)
    ∙ sym (flat_map-append makes_by (told_arm q.0).declared (flat_map (λ a. a.declared) tas))
    ∙ ap (flat_map makes_by) (sym (flat_map-cons (λ (a : ToldArm). a.declared) (told_arm q.0) tas))

made_case : (y : Stmt-F ((s : Stmt) × IsMade s) ((a : Arm) × ArmIsMade a)) → IsMade (roll-Stmt (map-Stmt _ _ Stmt Arm (λ e. e.0) (λ e. e.0) y))
made_case (Stmt-F.Wire name typ) = made_at (Stmt-F.Wire name typ) (λ block behind. lone (made name A_wire block behind))
made_case (Stmt-F.Reg name typ clock) = made_at (Stmt-F.Reg name typ clock) (λ block behind. lone (made name (A_register clock) block behind))
made_case (Stmt-F.RegReset name typ clock reset init) = made_at (Stmt-F.RegReset name typ clock reset init) (λ block behind. lone (made name (A_reset_register clock reset init) block behind))
made_case (Stmt-F.Mem memory) = made_at (Stmt-F.Mem memory) (λ block behind. lone (made memory.name (A_memory memory) block behind))
made_case (Stmt-F.Inst name target) = made_at (Stmt-F.Inst name target) (λ block behind. lone (made name (An_instance target.id) block behind))
made_case (Stmt-F.Node name expr) = made_at (Stmt-F.Node name expr) (λ block behind. lone (made name (A_node expr) block behind))
made_case (Stmt-F.Connect left right) = made_at (Stmt-F.Connect left right) (λ block behind. refl)
made_case (Stmt-F.Invalidate target) = made_at (Stmt-F.Invalidate target) (λ block behind. refl)
made_case (Stmt-F.Skip place) = made_at (Stmt-F.Skip place) (λ block behind. refl)
made_case (Stmt-F.When arms other) = made_at (Stmt-F.When (map (λ e. e.0) arms) (map (λ e. e.0) other))
    (λ block behind. ap₂ (λ x y. x ++ y) (arms_make arms) (block_makes other)
    ∙ sym (flat_map-append makes_by (flat_map (λ a. a.declared) (map told_arm (map (λ e. e.0) arms))) (declared_in_block (map told (map (λ e. e.0) other)))))

arm_case : (y : Arm-F ((s : Stmt) × IsMade s) ((a : Arm) × ArmIsMade a)) → ArmIsMade (roll-Arm (map-Arm _ _ Stmt Arm (λ e. e.0) (λ e. e.0) y))
arm_case y =
    let z : Arm-F Stmt Arm = record { condition = y.condition; body = map (λ e. e.0) y.body } in
    fold-roll-Arm (List Makes) (List Makes) of_stmt of_arm z ∙ block_makes y.body
    ∙ ap (λ (t : ToldArm). flat_map makes_by t.declared) (sym (fold-roll-Arm Told ToldArm of_told of_told_arm z))

is_made : (s : Stmt) → IsMade s
is_made = ind-Stmt IsMade ArmIsMade
    (λ x y is. subst (λ z. IsMade (roll-Stmt z)) is (made_case y))
    (λ x y is. subst (λ z. ArmIsMade (roll-Arm z)) is (arm_case y))

body_makes : (ss : List Stmt) (block : List Stmt) → flat_map stmt_makes ss ≡ flat_map makes_by (declared_from block (map told ss))
body_makes [] block = refl
body_makes (s ∷ ss) block =
    flat_map-cons stmt_makes s ss ∙ ap₂ (λ x y. x ++ y) (is_made s block (map (λ t. t.itself) (map told ss))) (body_makes ss block)
    ∙ sym (flat_map-append makes_by ((told s).declares block (map (λ t. t.itself) (map told ss))) (declared_from block (map told ss)))

no_port : (body : List Stmt) (x : Port) → makes_by (declared_by_port body x) ≡ []
no_port body x = by x.output
  where
    by : (b : Bool) → sort_makes (declared_by_port body x) (if b then An_output else An_input) ≡ []
    by true = refl
    by false = refl

ports_make : (body : List Stmt) (ports : List Port) → flat_map makes_by (map (declared_by_port body) ports) ≡ []
ports_make body [] = refl
ports_make body (x ∷ ports) =
    flat_map-cons makes_by (declared_by_port body x) (map (declared_by_port body) ports) ∙ ap₂ (λ a b. a ++ b) (no_port body x) (ports_make body ports)

pub module_makes_is : (holder : Module) → module_makes holder ≡ flat_map makes_by (declarations_of holder)
module_makes_is holder =
    let inside : List Declaration = declared_in_block (map told holder.body) in
    body_makes holder.body (map (λ t. t.itself) (map told holder.body))
    ∙ ap (λ l. l ++ flat_map makes_by inside) (sym (ports_make holder.body holder.ports))
    ∙ sym (flat_map-append makes_by (map (declared_by_port holder.body) holder.ports) inside)

-- Look-ups

lookup_in : (es : List Makes) (name t : ℕ) → lookup (nat_eq name) es ≡ Some t → Contains es (name, t)
lookup_in [] name t e = absurd (none_some e)
lookup_in (x ∷ es) name t e = by (nat_eq name x.0) refl (lookup_in es name t) e
  where
    by : (b : Bool) → nat_eq name x.0 ≡ b → (lookup (nat_eq name) es ≡ Some t → Contains es (name, t)) → cond b (Some x.1) (lookup (nat_eq name) es) ≡ Some t → Contains (x ∷ es) (name, t)
    by true same rest f = get_contains (x ∷ es) 0 (name, t) (ap₂ (λ a b. Some (a, b)) (sym (eqb-true name x.0 same)) (some_same f))
    by false other rest f = Contains-append_right (x ∷ []) es (name, t) (rest f)

none_at : (es : List Makes) (name t k : ℕ) → slice_get es k ≡ Some (name, t) → lookup (nat_eq name) es ≡ None → ⊥
none_at [] name t k f g = none_some f
none_at (x ∷ xs) name t k f g = by (nat_eq name x.0) refl k f g (λ j h n. none_at xs name t j h n)
  where
    by : (b : Bool) → nat_eq name x.0 ≡ b → (j : ℕ) → slice_get (x ∷ xs) j ≡ Some (name, t) → cond b (Some x.1) (lookup (nat_eq name) xs) ≡ None
        → ((i : ℕ) → slice_get xs i ≡ Some (name, t) → lookup (nat_eq name) xs ≡ None → ⊥) → ⊥
    by true same j h n rest = none_some (sym n)
    by false other zero h n rest = eqb-false name x.0 other (ap (λ (y : Makes). y.0) (sym (some_same h)))
    by false other (suc j) h n rest = rest j h n

none_kept : (es : List Makes) (name t : ℕ) → lookup (nat_eq name) es ≡ None → Contains es (name, t) → ⊥
none_kept es name t e c = let at = contains_get es (name, t) c in none_at es name t at.0 at.1 e

is_instance : (d : Declaration) (sort : Sort) (x : Makes) → Contains (sort_makes d sort) x → (target_in sort ≡ Some x.1) × (d.name ≡ x.0)
is_instance d (An_instance t) x c = let e = one_in (d.name, t) x c in (ap (λ (y : Makes). Some y.1) e, ap (λ (y : Makes). y.0) e)
is_instance d (A_register clock) x c = absurd (none_in x c)
is_instance d (A_reset_register clock r i) x c = absurd (none_in x c)
is_instance d (A_memory memory) x c = absurd (none_in x c)
is_instance d An_input x c = absurd (none_in x c)
is_instance d An_output x c = absurd (none_in x c)
is_instance d A_wire x c = absurd (none_in x c)
is_instance d (A_node n) x c = absurd (none_in x c)

instance_is : (d : Declaration) (sort : Sort) (t : ℕ) → target_in sort ≡ Some t → Contains (sort_makes d sort) (d.name, t)
instance_is d (An_instance s) t e = get_contains ((d.name, s) ∷ []) 0 (d.name, t) (ap (λ x. Some (d.name, x)) (some_same e))
instance_is d (A_register clock) t e = absurd (none_some e)
instance_is d (A_reset_register clock r i) t e = absurd (none_some e)
instance_is d (A_memory memory) t e = absurd (none_some e)
instance_is d An_input t e = absurd (none_some e)
instance_is d An_output t e = absurd (none_some e)
instance_is d A_wire t e = absurd (none_some e)
instance_is d (A_node n) t e = absurd (none_some e)

pub target_is : (fitted : Fitted) → AreNamed fitted → (m : TypedModule) (its : IsKnownModule fitted m) (name : ℕ) → lookup (nat_eq name) (module_makes its.holder) ≡ target_of m name
target_is fitted named m its name = by (lookup (nat_eq name) (module_makes its.holder)) refl
  where
    there' : (t : ℕ) → Contains (module_makes its.holder) (name, t) → target_of m name ≡ Some t
    there' t c =
        let found = from_flat_map makes_by (declarations_of its.holder) (name, t) (subst (λ l. Contains l (name, t)) (module_makes_is its.holder) c) in
        let from = from_map (λ (x : Component). x.declaration) m.components found.0 (subst (λ l. Contains l found.0) (sym its.typed.components) found.1) in
        let is = is_instance found.0 found.0.sort (name, t) found.2 in
        let at : component_named m name ≡ Some from.0 = ap (component_named m) (sym is.1 ∙ ap (λ (d : Declaration). d.name) (sym from.2))
        ∙ named m (get_contains (modules_of fitted) its.k m its.number) from.0 from.1 in
        ap (option_and_then (λ (c : Component). target_in c.declaration.sort)) at ∙ ap (λ (d : Declaration). target_in d.sort) from.2 ∙ is.0

    back : (o : Option Component) → component_named m name ≡ o → (u : Option ℕ) → option_and_then (λ (c : Component). target_in c.declaration.sort) o ≡ u
        → lookup (nat_eq name) (module_makes its.holder) ≡ None → u ≡ None
    back o e None f n = refl
    back None e (Some t) f n = absurd (none_some f)
    back (Some c) e (Some t) f n =
        let at = find_in (λ (x : Component). x.declaration.name == name) m.components c e in
        let inside : Contains (declarations_of its.holder) c.declaration = subst (λ l. Contains l c.declaration) its.typed.components (Contains-map (λ (x : Component). x.declaration) m.components c (get_contains m.components at.0 c at.1)) in
        let makes : Contains (makes_by c.declaration) (name, t) = subst (λ k. Contains (makes_by c.declaration) (k, t)) (eqb-true c.declaration.name name at.2) (instance_is c.declaration c.declaration.sort t f) in
        absurd (none_kept (module_makes its.holder) name t n
        (subst (λ l. Contains l (name, t)) (sym (module_makes_is its.holder)) (Contains-flat_map makes_by (declarations_of its.holder) c.declaration (name, t) inside makes)))

    by : (o : Option ℕ) → lookup (nat_eq name) (module_makes its.holder) ≡ o → lookup (nat_eq name) (module_makes its.holder) ≡ target_of m name
    by (Some t) e = e ∙ sym (there' t (lookup_in (module_makes its.holder) name t e))
    by None e = e ∙ sym (back (component_named m name) refl (target_of m name) refl e)

-- The map of the instances

new_lookup : (es : List Makes) (key i id : ℕ) → lookup (nat_eq id) (with_new es key i) ≡ or_else (lookup (nat_eq id) es) (cond (nat_eq id key) (Some i) None)
new_lookup es key i id = by (lookup (nat_eq key) es) refl
  where
    stays : (j : ℕ) → lookup (nat_eq key) es ≡ Some j → (o : Option ℕ) → lookup (nat_eq id) es ≡ o → (b : Bool) → nat_eq id key ≡ b → o ≡ or_else o (cond b (Some i) None)
    stays j e (Some k) f b g = refl
    stays j e None f false g = refl
    stays j e None f true g = absurd (none_some (sym f ∙ ap (λ k. lookup (nat_eq k) es) (eqb-true id key g) ∙ e))

    by : (o : Option ℕ) → lookup (nat_eq key) es ≡ o
        → lookup (nat_eq id) (if is_some o then es else es ++ (key, i) ∷ []) ≡ or_else (lookup (nat_eq id) es) (cond (nat_eq id key) (Some i) None)
    by (Some j) e = stays j e (lookup (nat_eq id) es) refl (nat_eq id key) refl
    by None e = lookup-append es ((key, i) ∷ []) id

one_more : (xs : List Instance) (x : Instance) → makes_of (xs ++ x ∷ []) ≡ makes_of xs ++ (x.name, x.target) ∷ []
one_more [] x = refl
one_more (y ∷ xs) x = ap (λ l. (y.name, y.target) ∷ l) (one_more xs x)

pub targets_more : (instances : List Instance) (i : ℕ) (d : Instance) (es after : List Makes) → i < length instances
    → ((id : ℕ) → lookup (nat_eq id) es ≡ lookup (nat_eq id) (makes_of (take i instances)))
    → after ≡ with_new es (get_or instances i d).name (get_or instances i d).target → (id : ℕ) → lookup (nat_eq id) after ≡ lookup (nat_eq id) (makes_of (take (i + 1) instances))
targets_more instances i d es after lt h e id =
    let x = get_or instances i d in
    let split : makes_of (take (i + 1) instances) ≡ makes_of (take i instances) ++ (x.name, x.target) ∷ [] = ap makes_of (take_more instances i d lt) ∙ one_more (take i instances) x in
    ap (lookup (nat_eq id)) e ∙ new_lookup es x.name x.target id ∙ ap (λ o. or_else o (cond (nat_eq id x.name) (Some x.target) None)) (h id)
    ∙ sym (lookup-append (makes_of (take i instances)) ((x.name, x.target) ∷ []) id) ∙ sym (ap (lookup (nat_eq id)) split)
