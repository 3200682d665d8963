-- The modules that the declarations of a module make are those that its names have.
use Rattle.std.proofs.Common.{◌≡◌, ℕ, zero, suc, slice_get, Bool, true, false, List, [], ◌∷◌, ◌++◌, map, Option, Some, None, refl, sym, ap, ap₂, ◌∙◌, subst, ⊎_elim}
use Rattle.std.specs.Prelude.{Contains}
use Rattle.std.specs.List.{flat_map, filter_map, cons_option}
use Rattle.std.proofs.lemmas.List.{map-append}
use Rattle.std.proofs.lemmas.List.Concat.{flat_map-cons}
use Rattle.std.proofs.lemmas.List.Elements.{Contains-append_cases, filter_map-append}
use Rattle.fir_types.specs.declared.name.Name.{Name}
use Rattle.fir_types.specs.declared.port.Port.{Port}
use Rattle.fir_tree.specs.declared.circuit.Module.{Module}
use Rattle.fir_tree.specs.declared.stmt.Stmt.{Stmt, ind-Stmt}
use Rattle.fir_tree.specs.declared.stmt.Arm.{Arm, fold-Arm}
use Rattle.fir_tree.specs.declared.stmt.Stmt.TheOpen.{Stmt-F, Arm-F}
use Rattle.fir_tree.specs.declared.stmt.Stmt.TheFolds.{map-Stmt, map-Arm, fold-roll-Stmt, fold-roll-Arm}
use Rattle.fir_tree.specs.declared.stmt.Stmt.TheViews.{roll-Stmt, roll-Arm}
use Rattle.fir_meaning.specs.Components.{Declaration, Told, ToldArm, told, of_told, of_told_arm, declared_from, declared_in_block, declarations_of, declared_by_port, target_in}
use Rattle.fir_names.specs.Extents.{instances_in}
use Rattle.fir_names.specs.Parts as parts
use Rattle.fir_names.specs.Parts.{Part, stmt_part, arm_part}
use Rattle.fir_names.specs.Scopes.{texts}
use Rattle.fir_names.proofs.Graphs.{some_same}
use Rattle.fir_names.proofs.Agreement.{has_its_instances}
use Rattle.fir_names.proofs.Members.{Contains-first, Contains-later, Contains-none, Contains-one, Contains-map, Contains-from_map}

abbrev told_arm : Arm → ToldArm
told_arm = fold-Arm Told ToldArm of_told of_told_arm

-- the modules that declarations make
abbrev pub targets : List Declaration → List ℕ
targets ds = filter_map (λ d. target_in d.sort) ds

targets-append : (xs ys : List Declaration) → targets (xs ++ ys) ≡ targets xs ++ targets ys
targets-append xs ys = filter_map-append (λ (d : Declaration). target_in d.sort) xs ys

texts-append : (xs ys : List Name) → texts (xs ++ ys) ≡ texts xs ++ texts ys
texts-append xs ys = map-append (λ (name : Name). name.id) xs ys

abbrev Listed : Stmt → Type 0
Listed s = (block behind : List Stmt) → targets ((told s).declares block behind) ≡ texts (stmt_part s).instances

abbrev ArmListed : Arm → Type 0
ArmListed a = targets (told_arm a).declared ≡ texts (arm_part a).instances

block_listed : (ps : List ((s : Stmt) × Listed s)) (block : List Stmt)
    → targets (declared_from block (map told (map (λ e. e.0) ps))) ≡ texts (parts.in_turn (map stmt_part (map (λ e. e.0) ps))).instances
block_listed [] block = refl
block_listed (p ∷ ps) block =
    let rest = map (λ t. t.itself) (map told (map (λ e. e.0) ps)) in
    targets-append ((told p.0).declares block rest) (declared_from block (map told (map (λ e. e.0) ps)))
    ∙ ap₂ (λ a b. a ++ b) (p.1 block rest) (block_listed ps block)
    ∙ sym (texts-append (stmt_part p.0).instances (parts.in_turn (map stmt_part (map (λ e. e.0) ps))).instances)

arms_listed : (ps : List ((a : Arm) × ArmListed a))
    → targets (flat_map (λ arm. arm.declared) (map told_arm (map (λ e. e.0) ps))) ≡ texts (parts.in_turn (map arm_part (map (λ e. e.0) ps))).instances
arms_listed [] = refl
arms_listed (p ∷ ps) =
    ap targets (flat_map-cons (λ arm. arm.declared) (told_arm p.0) (map told_arm (map (λ e. e.0) ps)))
    ∙ targets-append (told_arm p.0).declared (flat_map (λ arm. arm.declared) (map told_arm (map (λ e. e.0) ps)))
    ∙ ap₂ (λ a b. a ++ b) p.1 (arms_listed ps)
    ∙ sym (texts-append (arm_part p.0).instances (parts.in_turn (map arm_part (map (λ e. e.0) ps))).instances)

listed_at : (z : Stmt-F Stmt Arm)
    → ((block behind : List Stmt) → targets ((of_told (map-Stmt Stmt Arm Told ToldArm told told_arm z)).declares block behind) ≡ texts (parts.of_stmt (map-Stmt Stmt Arm Part Part stmt_part arm_part z)).instances)
    → Listed (roll-Stmt z)
listed_at z h block behind =
    ap (λ (t : Told). targets (t.declares block behind)) (fold-roll-Stmt Told ToldArm of_told of_told_arm z) ∙ h block behind
    ∙ ap (λ (p : Part). texts p.instances) (sym (fold-roll-Stmt Part Part parts.of_stmt parts.of_arm z))

listed_layer : (y : Stmt-F ((s : Stmt) × Listed s) ((a : Arm) × ArmListed a)) → Listed (roll-Stmt (map-Stmt _ _ Stmt Arm (λ e. e.0) (λ e. e.0) y))
listed_layer (Stmt-F.Wire name typ) = listed_at (Stmt-F.Wire name typ) (λ b h. refl)
listed_layer (Stmt-F.Reg name typ clock) = listed_at (Stmt-F.Reg name typ clock) (λ b h. refl)
listed_layer (Stmt-F.RegReset name typ clock reset init) = listed_at (Stmt-F.RegReset name typ clock reset init) (λ b h. refl)
listed_layer (Stmt-F.Mem memory) = listed_at (Stmt-F.Mem memory) (λ b h. refl)
listed_layer (Stmt-F.Inst name target) = listed_at (Stmt-F.Inst name target) (λ b h. refl)
listed_layer (Stmt-F.Node name expr) = listed_at (Stmt-F.Node name expr) (λ b h. refl)
listed_layer (Stmt-F.Connect left right) = listed_at (Stmt-F.Connect left right) (λ b h. refl)
listed_layer (Stmt-F.Invalidate target) = listed_at (Stmt-F.Invalidate target) (λ b h. refl)
listed_layer (Stmt-F.Skip place) = listed_at (Stmt-F.Skip place) (λ b h. refl)
listed_layer (Stmt-F.When arms other) =
    let xs : List Arm = map (λ e. e.0) arms in
    let ys : List Stmt = map (λ e. e.0) other in
    listed_at (Stmt-F.When xs ys) (λ block behind.
    targets-append (flat_map (λ arm. arm.declared) (map told_arm xs)) (declared_in_block (map told ys))
    ∙ ap₂ (λ a b. a ++ b) (arms_listed arms) (block_listed other (map (λ t. t.itself) (map told ys)))
    ∙ sym (texts-append (parts.in_turn (map arm_part xs)).instances (parts.in_turn (map stmt_part ys)).instances))

listed_arm_layer : (y : Arm-F ((s : Stmt) × Listed s) ((a : Arm) × ArmListed a)) → ArmListed (roll-Arm (map-Arm _ _ Stmt Arm (λ e. e.0) (λ e. e.0) y))
listed_arm_layer y =
    let z : Arm-F Stmt Arm = map-Arm _ _ Stmt Arm (λ e. e.0) (λ e. e.0) y in
    ap (λ (t : ToldArm). targets t.declared) (fold-roll-Arm Told ToldArm of_told of_told_arm z)
    ∙ block_listed y.body (map (λ t. t.itself) (map told (map (λ e. e.0) y.body)))
    ∙ ap (λ (p : Part). texts p.instances) (sym (fold-roll-Arm Part Part parts.of_stmt parts.of_arm z))

listed : (s : Stmt) → Listed s
listed = ind-Stmt Listed ArmListed (λ x y is. subst (λ z. Listed (roll-Stmt z)) is (listed_layer y)) (λ x y is. subst (λ z. ArmListed (roll-Arm z)) is (listed_arm_layer y))

body_listed : (ss : List Stmt) (block : List Stmt) → targets (declared_from block (map told ss)) ≡ texts (parts.in_turn (map stmt_part ss)).instances
body_listed [] block = refl
body_listed (s ∷ ss) block =
    let rest = map (λ t. t.itself) (map told ss) in
    targets-append ((told s).declares block rest) (declared_from block (map told ss))
    ∙ ap₂ (λ a b. a ++ b) (listed s block rest) (body_listed ss block)
    ∙ sym (texts-append (stmt_part s).instances (parts.in_turn (map stmt_part ss)).instances)

ports_make_none : (body : List Stmt) (ports : List Port) → targets (map (declared_by_port body) ports) ≡ []
ports_make_none body [] = refl
ports_make_none body (port ∷ ports) = by port.output refl (ports_make_none body ports) where
  by : (b : Bool) → port.output ≡ b → targets (map (declared_by_port body) ports) ≡ [] → targets (map (declared_by_port body) (port ∷ ports)) ≡ []
  by true q rest = rw q rest
  by false q rest = rw q rest

no_instances : (ports : List Port) → (parts.in_turn (map (λ port. parts.declares port.name) ports)).instances ≡ []
no_instances [] = refl
no_instances (port ∷ ports) = no_instances ports

pub module_targets : (holder : Module) → targets (declarations_of holder) ≡ texts (instances_in holder)
module_targets holder =
    targets-append (map (declared_by_port holder.body) holder.ports) (declared_in_block (map told holder.body))
    ∙ ap₂ (λ a b. a ++ b) (ports_make_none holder.body holder.ports) (body_listed holder.body (map (λ t. t.itself) (map told holder.body)))
    ∙ sym (ap (λ l. texts (l ++ (parts.in_turn (map stmt_part holder.body)).instances)) (no_instances holder.ports))
    ∙ ap texts (has_its_instances holder)

-- Which of them makes a module

made_by : (ds : List Declaration) (target : ℕ) → Contains (targets ds) target → (k : ℕ) × (d : Declaration) × (slice_get ds k ≡ Some d) × (target_in d.sort ≡ Some target)
made_by [] target i = absurd (Contains-none i)
made_by (d ∷ ds) target i = by (target_in d.sort) refl (made_by ds target) where
  by : (o : Option ℕ) → target_in d.sort ≡ o
      → (Contains (targets ds) target → (k : ℕ) × (e : Declaration) × (slice_get ds k ≡ Some e) × (target_in e.sort ≡ Some target))
      → (k : ℕ) × (e : Declaration) × (slice_get (d ∷ ds) k ≡ Some e) × (target_in e.sort ≡ Some target)
  by None q rest = let r = rest (subst (λ o. Contains (cons_option o (targets ds)) target) q i) in (suc r.0, r.1, r.2, r.3)
  by (Some t) q rest = ⊎_elim (λ l. (0, d, refl, q ∙ ap Some (sym (Contains-one l)))) (λ j. let r = rest j in (suc r.0, r.1, r.2, r.3))
      (Contains-append_cases (t ∷ []) (targets ds) _ (subst (λ o. Contains (cons_option o (targets ds)) target) q i))

makes : (ds : List Declaration) (k target : ℕ) (d : Declaration) → slice_get ds k ≡ Some d → target_in d.sort ≡ Some target → Contains (targets ds) target
makes [] k target d e s = cc
makes (x ∷ ds) zero target d e s = subst (λ o. Contains (cons_option o (targets ds)) target) (sym (ap (λ (y : Declaration). target_in y.sort) (some_same e) ∙ s)) (Contains-first (targets ds))
makes (x ∷ ds) (suc k) target d e s = by (target_in x.sort) refl (makes ds k target d e s) where
  by : (o : Option ℕ) → target_in x.sort ≡ o → Contains (targets ds) target → Contains (cons_option (target_in x.sort) (targets ds)) target
  by None q i = subst (λ o. Contains (cons_option o (targets ds)) target) (sym q) i
  by (Some t) q i = subst (λ o. Contains (cons_option o (targets ds)) target) (sym q) (Contains-later t (targets ds) i)

-- the module of an instance is made by a declaration
pub instance_declared : (holder : Module) (target : Name) → Contains (instances_in holder) target
    → (k : ℕ) × (d : Declaration) × (slice_get (declarations_of holder) k ≡ Some d) × (target_in d.sort ≡ Some target.id)
instance_declared holder target i =
    made_by (declarations_of holder) target.id (subst (λ list. Contains list target.id) (sym (module_targets holder)) (Contains-map (λ (name : Name). name.id) (instances_in holder) target i))

-- and what a declaration makes is the module of an instance
pub declared_instance : (holder : Module) (k target : ℕ) (d : Declaration) → slice_get (declarations_of holder) k ≡ Some d → target_in d.sort ≡ Some target
    → (name : Name) × Contains (instances_in holder) name × (name.id ≡ target)
declared_instance holder k target d e s =
    Contains-from_map (λ (name : Name). name.id) (instances_in holder) target (subst (λ list. Contains list target) (module_targets holder) (makes (declarations_of holder) k target d e s))
