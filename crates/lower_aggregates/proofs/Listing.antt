-- The declarations of statements and modules, in the words of the meaning.
use Rattle.std.proofs.Common.{◌≡◌, List, [], ◌∷◌, ◌++◌, map, refl, sym, ap, ap₂, ◌∙◌, subst, arith}
use Rattle.std.specs.Prelude.{Result, Ok, Err, OnOk}
use Rattle.std.specs.List.{flat_map}
use Rattle.std.proofs.lemmas.Grind.{common_steps}
use Rattle.std.proofs.lemmas.List.{map-append}
use Rattle.std.proofs.lemmas.List.Concat.{flat_map-cons}
use Rattle.std.proofs.lemmas.List.Folds.{flat_map-map}
use Rattle.fir_types.specs.declared.port.Port.{Port}
use Rattle.fir_tree.specs.declared.circuit.Module.{Module}
use Rattle.fir_tree.specs.declared.stmt.Stmt.{Stmt, ind-Stmt, the_lemmas as stmt_lemmas}
use Rattle.fir_tree.specs.declared.stmt.Stmt.TheVariants as stmt
use Rattle.fir_tree.specs.declared.stmt.Arm.{Arm, fold-Arm}
use Rattle.fir_tree.specs.declared.stmt.Stmt.TheOpen.{Stmt-F, Arm-F}
use Rattle.fir_tree.specs.declared.stmt.Stmt.TheFolds.{map-Stmt, map-Arm, fold-roll-Stmt, fold-roll-Arm}
use Rattle.fir_tree.specs.declared.stmt.Stmt.TheViews.{roll-Stmt, roll-Arm}
use Rattle.fir_meaning.specs.Components.{Declaration, Told, ToldArm, told, of_told, of_told_arm, declared_from, declared_in_block, declarations_of, declared_by_port}
use Rattle.lower_aggregates.specs.Headings.{Heading, heading_of, all_headings, of_stmt, of_arm, stmt_headings, arm_headings, port_heading, headings_of}

pub on_ok : {T E : Type 0} {P Q : Type 0} (r : Result T E) → (P → Q) → OnOk r P → OnOk r Q
on_ok (Ok x) f h = f h
on_ok (Err e) f h = h

pub arm_headings_are : (a : Arm) → arm_headings a ≡ flat_map stmt_headings a.body
arm_headings_are a = folded ∙ flat_map-map (λ l. l) stmt_headings a.body
  where
    folded : arm_headings a ≡ all_headings (map stmt_headings a.body)
    folded = grind (arith, common_steps, stmt_lemmas)

pub when_headings_are : (s : Stmt) (arms : List Arm) (other : List Stmt) → s ≡ stmt.When arms other → stmt_headings s ≡ flat_map arm_headings arms ++ flat_map stmt_headings other
when_headings_are s arms other e =
    ap stmt_headings e ∙ folded ∙ ap₂ (λ a b. a ++ b) (flat_map-map (λ l. l) arm_headings arms) (flat_map-map (λ l. l) stmt_headings other)
  where
    folded : stmt_headings (stmt.When arms other) ≡ all_headings (map arm_headings arms) ++ all_headings (map stmt_headings other)
    folded = grind (arith, common_steps, stmt_lemmas)

-- The declarations of the meaning have these headings.

abbrev told_arm : Arm → ToldArm
told_arm = fold-Arm Told ToldArm of_told of_told_arm

headings-append : (xs ys : List Declaration) → map heading_of (xs ++ ys) ≡ map heading_of xs ++ map heading_of ys
headings-append xs ys = map-append heading_of xs ys

abbrev Listed : Stmt → Type 0
Listed s = (block behind : List Stmt) → map heading_of ((told s).declares block behind) ≡ stmt_headings s

abbrev ArmListed : Arm → Type 0
ArmListed a = map heading_of (told_arm a).declared ≡ arm_headings a

block_listed : (ps : List ((s : Stmt) × Listed s)) (block : List Stmt)
    → map heading_of (declared_from block (map told (map (λ e. e.0) ps))) ≡ all_headings (map stmt_headings (map (λ e. e.0) ps))
block_listed [] block = refl
block_listed (p ∷ ps) block =
    let rest = map (λ t. t.itself) (map told (map (λ e. e.0) ps)) in
    headings-append ((told p.0).declares block rest) (declared_from block (map told (map (λ e. e.0) ps)))
    ∙ ap₂ (λ a b. a ++ b) (p.1 block rest) (block_listed ps block)
    ∙ sym (flat_map-cons (λ l. l) (stmt_headings p.0) (map stmt_headings (map (λ e. e.0) ps)))

arms_listed : (ps : List ((a : Arm) × ArmListed a))
    → map heading_of (flat_map (λ arm. arm.declared) (map told_arm (map (λ e. e.0) ps))) ≡ all_headings (map arm_headings (map (λ e. e.0) ps))
arms_listed [] = refl
arms_listed (p ∷ ps) =
    ap (map heading_of) (flat_map-cons (λ arm. arm.declared) (told_arm p.0) (map told_arm (map (λ e. e.0) ps)))
    ∙ headings-append (told_arm p.0).declared (flat_map (λ arm. arm.declared) (map told_arm (map (λ e. e.0) ps)))
    ∙ ap₂ (λ a b. a ++ b) p.1 (arms_listed ps)
    ∙ sym (flat_map-cons (λ l. l) (arm_headings p.0) (map arm_headings (map (λ e. e.0) ps)))

listed_at : (z : Stmt-F Stmt Arm)
    → ((block behind : List Stmt) → map heading_of ((of_told (map-Stmt Stmt Arm Told ToldArm told told_arm z)).declares block behind) ≡ of_stmt (map-Stmt Stmt Arm (List Heading) (List Heading) stmt_headings arm_headings z))
    → Listed (roll-Stmt z)
listed_at z h block behind =
    ap (λ (t : Told). map heading_of (t.declares block behind)) (fold-roll-Stmt Told ToldArm of_told of_told_arm z) ∙ h block behind
    ∙ sym (fold-roll-Stmt (List Heading) (List Heading) of_stmt of_arm z)

listed_layer : (y : Stmt-F ((s : Stmt) × Listed s) ((a : Arm) × ArmListed a)) → Listed (roll-Stmt (map-Stmt _ _ Stmt Arm (λ e. e.0) (λ e. e.0) y))
listed_layer (Stmt-F.Wire name typ) = listed_at (Stmt-F.Wire name typ) (λ b h. refl)
listed_layer (Stmt-F.Reg name typ clock) = listed_at (Stmt-F.Reg name typ clock) (λ b h. refl)
listed_layer (Stmt-F.RegReset name typ clock reset init) = listed_at (Stmt-F.RegReset name typ clock reset init) (λ b h. refl)
listed_layer (Stmt-F.Mem memory) = listed_at (Stmt-F.Mem memory) (λ b h. refl)
listed_layer (Stmt-F.Inst name target) = listed_at (Stmt-F.Inst name target) (λ b h. refl)
listed_layer (Stmt-F.Node name expr) = listed_at (Stmt-F.Node name expr) (λ b h. refl)
listed_layer (Stmt-F.Connect left right) = listed_at (Stmt-F.Connect left right) (λ b h. refl)
listed_layer (Stmt-F.Invalidate target) = listed_at (Stmt-F.Invalidate target) (λ b h. refl)
listed_layer (Stmt-F.Skip place) = listed_at (Stmt-F.Skip place) (λ b h. refl)
listed_layer (Stmt-F.When arms other) =
    let xs : List Arm = map (λ e. e.0) arms in
    let ys : List Stmt = map (λ e. e.0) other in
    listed_at (Stmt-F.When xs ys) (λ block behind.
    headings-append (flat_map (λ arm. arm.declared) (map told_arm xs)) (declared_in_block (map told ys))
    ∙ ap₂ (λ a b. a ++ b) (arms_listed arms) (block_listed other (map (λ t. t.itself) (map told ys))))

listed_arm_layer : (y : Arm-F ((s : Stmt) × Listed s) ((a : Arm) × ArmListed a)) → ArmListed (roll-Arm (map-Arm _ _ Stmt Arm (λ e. e.0) (λ e. e.0) y))
listed_arm_layer y =
    let z : Arm-F Stmt Arm = map-Arm _ _ Stmt Arm (λ e. e.0) (λ e. e.0) y in
    ap (λ (t : ToldArm). map heading_of t.declared) (fold-roll-Arm Told ToldArm of_told of_told_arm z)
    ∙ block_listed y.body (map (λ t. t.itself) (map told (map (λ e. e.0) y.body)))
    ∙ sym (fold-roll-Arm (List Heading) (List Heading) of_stmt of_arm z)

listed : (s : Stmt) → Listed s
listed = ind-Stmt Listed ArmListed (λ x y is. subst (λ z. Listed (roll-Stmt z)) is (listed_layer y)) (λ x y is. subst (λ z. ArmListed (roll-Arm z)) is (listed_arm_layer y))

body_listed : (ss : List Stmt) (block : List Stmt) → map heading_of (declared_from block (map told ss)) ≡ flat_map stmt_headings ss
body_listed [] block = refl
body_listed (s ∷ ss) block =
    let rest = map (λ t. t.itself) (map told ss) in
    headings-append ((told s).declares block rest) (declared_from block (map told ss))
    ∙ ap₂ (λ a b. a ++ b) (listed s block rest) (body_listed ss block)
    ∙ sym (flat_map-cons stmt_headings s ss)

ports_listed : (body : List Stmt) (ports : List Port) → map heading_of (map (declared_by_port body) ports) ≡ map port_heading ports
ports_listed body [] = refl
ports_listed body (port ∷ ports) = ap (λ l. port_heading port ∷ l) (ports_listed body ports)

-- The declarations of a module have these headings.
pub headings_are : (holder : Module) → map heading_of (declarations_of holder) ≡ headings_of holder
headings_are holder =
    headings-append (map (declared_by_port holder.body) holder.ports) (declared_in_block (map told holder.body))
    ∙ ap₂ (λ a b. a ++ b) (ports_listed holder.body holder.ports) (body_listed holder.body (map (λ t. t.itself) (map told holder.body)))
