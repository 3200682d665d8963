-- What is declared in statements: how many, and that they are the module's declarations.
use Rattle.std.proofs.Common.{◌≡◌, ℕ, suc, ◌+◌, List, [], ◌∷◌, ◌++◌, map, flat_map, length, slice_get, Some, refl, sym, ap, ap₂, ◌∙◌, subst, arith}
use Rattle.std.proofs.lemmas.List.{map-append, length-append, length-map}
use Rattle.std.proofs.lemmas.List.Concat.{flat_map-cons}
use Rattle.fir_tree.specs.declared.circuit.Module.{Module}
use Rattle.fir_tree.specs.declared.stmt.Stmt.{Stmt, ind-Stmt}
use Rattle.fir_tree.specs.declared.stmt.Arm.{Arm, fold-Arm}
use Rattle.fir_tree.specs.declared.stmt.Stmt.TheOpen.{Stmt-F, Arm-F}
use Rattle.fir_tree.specs.declared.stmt.Stmt.TheFolds.{map-Stmt, map-Arm, fold-roll-Stmt, fold-roll-Arm}
use Rattle.fir_tree.specs.declared.stmt.Stmt.TheViews.{roll-Stmt, roll-Arm}
use Rattle.fir_meaning.specs.Components.{TypedModule, Component, Declaration, Told, ToldArm, of_told, of_told_arm, told, declared_from, declared_in_block, declared_by_port, declarations_of}
use Rattle.circuit_laws.specs.Standing as standing
use Rattle.circuit_laws.specs.Standing.{total, count, arm_count}
use Rattle.ground_statements.specs.Declares.{Label, labels, arm_labels, all_labels, body_labels, of_stmt, of_arm, Declares}

abbrev told_arm : Arm → ToldArm
told_arm = fold-Arm Told ToldArm of_told of_told_arm

abbrev pub label_of : Declaration → Label
label_of d = (d.name, d.sort)

pub record Labelled (s : Stmt) : Type 0 where
  pub same : (block behind : List Stmt) → map label_of ((told s).declares block behind) ≡ labels s
  pub counts : count s ≡ length (labels s)

pub record ArmLabelled (a : Arm) : Type 0 where
  pub same : map label_of (told_arm a).declared ≡ arm_labels a
  pub counts : arm_count a ≡ length (arm_labels a)

block_same : (ps : List ((s : Stmt) × Labelled s)) (block : List Stmt) → map label_of (declared_from block (map told (map (λ e. e.0) ps))) ≡ all_labels (map labels (map (λ e. e.0) ps))
block_same [] block = refl
block_same (p ∷ ps) block =
    let rest = map (λ t. t.itself) (map told (map (λ e. e.0) ps)) in
    map-append label_of ((told p.0).declares block rest) (declared_from block (map told (map (λ e. e.0) ps))) ∙ ap₂ (λ a b. a ++ b) (p.1.same block rest) (block_same ps block)

block_counts : (ps : List ((s : Stmt) × Labelled s)) → total (map count (map (λ e. e.0) ps)) ≡ length (all_labels (map labels (map (λ e. e.0) ps)))
block_counts [] = refl
block_counts (p ∷ ps) = ap₂ (λ a b. a + b) p.1.counts (block_counts ps) ∙ sym (length-append (labels p.0) (all_labels (map labels (map (λ e. e.0) ps))))

arms_same : (ps : List ((a : Arm) × ArmLabelled a)) → map label_of (flat_map (λ arm. arm.declared) (map told_arm (map (λ e. e.0) ps))) ≡ all_labels (map arm_labels (map (λ e. e.0) ps))
arms_same [] = refl
arms_same (p ∷ ps) =
    ap (map label_of) (flat_map-cons (λ arm. arm.declared) (told_arm p.0) (map told_arm (map (λ e. e.0) ps)))
    ∙ map-append label_of (told_arm p.0).declared (flat_map (λ arm. arm.declared) (map told_arm (map (λ e. e.0) ps))) ∙ ap₂ (λ a b. a ++ b) p.1.same (arms_same ps)

arms_counts : (ps : List ((a : Arm) × ArmLabelled a)) → total (map arm_count (map (λ e. e.0) ps)) ≡ length (all_labels (map arm_labels (map (λ e. e.0) ps)))
arms_counts [] = refl
arms_counts (p ∷ ps) = ap₂ (λ a b. a + b) p.1.counts (arms_counts ps) ∙ sym (length-append (arm_labels p.0) (all_labels (map arm_labels (map (λ e. e.0) ps))))

labelled_at : (z : Stmt-F Stmt Arm)
    → ((block behind : List Stmt) → map label_of ((of_told (map-Stmt Stmt Arm Told ToldArm told told_arm z)).declares block behind) ≡ of_stmt (map-Stmt Stmt Arm (List Label) (List Label) labels arm_labels z))
    → standing.of_stmt (map-Stmt Stmt Arm ℕ ℕ count arm_count z) ≡ length (of_stmt (map-Stmt Stmt Arm (List Label) (List Label) labels arm_labels z))
    → Labelled (roll-Stmt z)
labelled_at z h k =
    let l = fold-roll-Stmt (List Label) (List Label) of_stmt of_arm z in
    record {
      same = λ block behind. ap (λ (x : Told). map label_of (x.declares block behind)) (fold-roll-Stmt Told ToldArm of_told of_told_arm z) ∙ h block behind ∙ sym l;
      counts = fold-roll-Stmt ℕ ℕ standing.of_stmt standing.of_arm z ∙ k ∙ ap length (sym l);
    }

labelled_layer : (y : Stmt-F ((s : Stmt) × Labelled s) ((a : Arm) × ArmLabelled a)) → Labelled (roll-Stmt (map-Stmt _ _ Stmt Arm (λ e. e.0) (λ e. e.0) y))
labelled_layer (Stmt-F.Wire name typ) = labelled_at (Stmt-F.Wire name typ) (λ b h. refl) refl
labelled_layer (Stmt-F.Reg name typ clock) = labelled_at (Stmt-F.Reg name typ clock) (λ b h. refl) refl
labelled_layer (Stmt-F.RegReset name typ clock reset init) = labelled_at (Stmt-F.RegReset name typ clock reset init) (λ b h. refl) refl
labelled_layer (Stmt-F.Mem memory) = labelled_at (Stmt-F.Mem memory) (λ b h. refl) refl
labelled_layer (Stmt-F.Inst name target) = labelled_at (Stmt-F.Inst name target) (λ b h. refl) refl
labelled_layer (Stmt-F.Node name expr) = labelled_at (Stmt-F.Node name expr) (λ b h. refl) refl
labelled_layer (Stmt-F.Connect left right) = labelled_at (Stmt-F.Connect left right) (λ b h. refl) refl
labelled_layer (Stmt-F.Invalidate target) = labelled_at (Stmt-F.Invalidate target) (λ b h. refl) refl
labelled_layer (Stmt-F.Skip place) = labelled_at (Stmt-F.Skip place) (λ b h. refl) refl
labelled_layer (Stmt-F.When arms other) =
    let xs : List Arm = map (λ e. e.0) arms in
    let ys : List Stmt = map (λ e. e.0) other in
    labelled_at (Stmt-F.When xs ys)
    (λ block behind. map-append label_of (flat_map (λ arm. arm.declared) (map told_arm xs)) (declared_in_block (map told ys)) ∙ ap₂ (λ a b. a ++ b) (arms_same arms) (block_same other (map (λ t. t.itself) (map told ys))))
    (ap₂ (λ a b. a + b) (arms_counts arms) (block_counts other) ∙ sym (length-append (all_labels (map arm_labels xs)) (all_labels (map labels ys))))

labelled_arm_layer : (y : Arm-F ((s : Stmt) × Labelled s) ((a : Arm) × ArmLabelled a)) → ArmLabelled (roll-Arm (map-Arm _ _ Stmt Arm (λ e. e.0) (λ e. e.0) y))
labelled_arm_layer y =
    let z : Arm-F Stmt Arm = map-Arm _ _ Stmt Arm (λ e. e.0) (λ e. e.0) y in
    let l = fold-roll-Arm (List Label) (List Label) of_stmt of_arm z in
    record {
      same = ap (λ (x : ToldArm). map label_of x.declared) (fold-roll-Arm Told ToldArm of_told of_told_arm z) ∙ block_same y.body (map (λ t. t.itself) (map told (map (λ e. e.0) y.body))) ∙ sym l;
      counts = fold-roll-Arm ℕ ℕ standing.of_stmt standing.of_arm z ∙ block_counts y.body ∙ ap length (sym l);
    }

pub labelled : (s : Stmt) → Labelled s
labelled = ind-Stmt Labelled ArmLabelled (λ x y is. subst (λ z. Labelled (roll-Stmt z)) is (labelled_layer y)) (λ x y is. subst (λ z. ArmLabelled (roll-Arm z)) is (labelled_arm_layer y))

-- Whole bodies

abbrev with_labelled : List Stmt → List ((s : Stmt) × Labelled s)
with_labelled [] = []
with_labelled (s ∷ ss) = (s, labelled s) ∷ with_labelled ss

with_labelled_same : (ss : List Stmt) → map (λ e. e.0) (with_labelled ss) ≡ ss
with_labelled_same [] = refl
with_labelled_same (s ∷ ss) = ap (λ l. s ∷ l) (with_labelled_same ss)

pub declared_labels : (ss : List Stmt) (block : List Stmt) → map label_of (declared_from block (map told ss)) ≡ body_labels ss
declared_labels ss block = subst (λ l. map label_of (declared_from block (map told l)) ≡ body_labels l) (with_labelled_same ss) (block_same (with_labelled ss) block)

-- components that have these declarations from one on
from_front : (m : TypedModule) (n : ℕ) (cs : List Component) (ds : List Declaration) → ((i : ℕ) (c : Component) → slice_get cs i ≡ Some c → slice_get m.components (n + i) ≡ Some c)
    → map (λ c. c.declaration) cs ≡ ds → Declares m n (map label_of ds)
from_front m n [] [] at e = tt
from_front m n [] (d ∷ ds) at e = absurd (no_item e)
  where
    no_item : {A : Type 0} {x : A} {xs : List A} → [] ≡ x ∷ xs → ⊥
    no_item e = cc
from_front m n (c ∷ cs) [] at e = absurd (no_item e)
  where
    no_item : {A : Type 0} {x : A} {xs : List A} → x ∷ xs ≡ [] → ⊥
    no_item e = cc
from_front m n (c ∷ cs) (d ∷ ds) at e =
    let zeroth : n + 0 ≡ n = omega arith in
    let head : c.declaration ≡ d = head_same e in (
      (c, subst (λ k. slice_get m.components k ≡ Some c) zeroth (at 0 c refl), ap (λ x. x.name) head, ap (λ x. x.sort) head),
      from_front m (suc n) cs ds (λ i x f. let k : n + suc i ≡ suc n + i = omega arith in subst (λ k. slice_get m.components k ≡ Some x) k (at (suc i) x f)) (tail_same e),
    )
  where
    head_same : {A : Type 0} {x y : A} {xs ys : List A} → x ∷ xs ≡ y ∷ ys → x ≡ y
    head_same e = cc

    tail_same : {A : Type 0} {x y : A} {xs ys : List A} → x ∷ xs ≡ y ∷ ys → xs ≡ ys
    tail_same e = cc

-- the components behind the first ones
behind_front : (m : TypedModule) (n : ℕ) (cs : List Component) (front ds : List Declaration) → ((i : ℕ) (c : Component) → slice_get cs i ≡ Some c → slice_get m.components (n + i) ≡ Some c)
    → map (λ c. c.declaration) cs ≡ front ++ ds → Declares m (n + length front) (map label_of ds)
behind_front m n cs [] ds at e = let zeroth : n ≡ n + 0 = omega arith in subst (λ k. Declares m k (map label_of ds)) zeroth (from_front m n cs ds at e)
behind_front m n [] (f ∷ front) ds at e = absurd (no_item e)
  where
    no_item : {A : Type 0} {x : A} {xs : List A} → [] ≡ x ∷ xs → ⊥
    no_item e = cc
behind_front m n (c ∷ cs) (f ∷ front) ds at e =
    let k : suc n + length front ≡ n + length (f ∷ front) = omega arith in
    subst (λ k. Declares m k (map label_of ds)) k
    (behind_front m (suc n) cs front ds (λ i x g. let j : n + suc i ≡ suc n + i = omega arith in subst (λ j. slice_get m.components j ≡ Some x) j (at (suc i) x g)) (tail_same e))
  where
    tail_same : {A : Type 0} {x y : A} {xs ys : List A} → x ∷ xs ≡ y ∷ ys → xs ≡ ys
    tail_same e = cc

-- A module's body declares its components behind the ports.
pub whole_declares : (holder : Module) (m : TypedModule) → map (λ c. c.declaration) m.components ≡ declarations_of holder → Declares m (length holder.ports) (body_labels holder.body)
whole_declares holder m e =
    let ports : List Declaration = map (declared_by_port holder.body) holder.ports in
    let k : 0 + length ports ≡ length holder.ports = (let l : length ports ≡ length holder.ports = length-map holder.ports (declared_by_port holder.body) in omega (arith, l)) in
    subst (Declares m (length holder.ports)) (declared_labels holder.body (map (λ t. t.itself) (map told holder.body)))
    (subst (λ j. Declares m j (map label_of (declared_in_block (map told holder.body)))) k
    (behind_front m 0 m.components ports (declared_in_block (map told holder.body)) (λ i c f. let j : i ≡ 0 + i = omega arith in subst (λ j. slice_get m.components j ≡ Some c) j f) e))
