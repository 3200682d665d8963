-- The faults that the walk finds are those of the declarations, whatever their order.
use Rattle.std.proofs.Common.{◌≡◌, Bool, ◌&&◌, ◌||◌, List, [], ◌∷◌, ◌++◌, map, zip, length, refl, sym, ap, ap₂, ◌∙◌, subst, arith, append-nil, append_assoc, ⊎_elim}
use Rattle.std.specs.Prelude.{Contains}
use Rattle.std.specs.List.{list_any, list_all, flat_map}
use Rattle.std.proofs.lemmas.List.{length-map, map-append}
use Rattle.std.proofs.lemmas.List.Elements.{Contains-append_cases, Contains-append_left, Contains-append_right}
use Rattle.std.proofs.lemmas.List.Concat.{flat_map-cons}
use Rattle.fir_types.specs.declared.name.Name.{Name}
use Rattle.fir_types.specs.declared.port.Port.{Port}
use Rattle.fir_types.specs.declared.leaf.TypeLeaf.{TypeLeaf}
use Rattle.fir_types.specs.Leaves.{leaves}
use Rattle.fir_tree.specs.declared.circuit.Module.{Module}
use Rattle.fir_tree.specs.declared.stmt.Stmt.{Stmt, ind-Stmt}
use Rattle.fir_tree.specs.declared.stmt.Arm.{Arm, fold-Arm}
use Rattle.fir_tree.specs.declared.stmt.Stmt.TheOpen.{Stmt-F, Arm-F}
use Rattle.fir_tree.specs.declared.stmt.Stmt.TheFolds.{map-Stmt, map-Arm, fold-roll-Stmt, fold-roll-Arm}
use Rattle.fir_tree.specs.declared.stmt.Stmt.TheViews.{roll-Stmt, roll-Arm}
use Rattle.fir_meaning.specs.Components.{Leaf, Sort, A_wire, A_memory, An_instance, Declaration, Told, ToldArm, told, of_told, of_told_arm, declared_from, declared_in_block, declared_by_port, declarations_of}
use Rattle.fir_meaning.specs.Mentions.{Scope}
use Rattle.fir_meaning.specs.Certain as certainty
use Rattle.fir_meaning.specs.Certain.{certain, is_certain}
use Rattle.drive_check.specs.declared.fault.DriveFault.{DriveFault}
use Rattle.drive_check.specs.Sites as site
use Rattle.drive_check.specs.Sites.{all_names, stmt_names, arm_names, names_of}
use Rattle.drive_check.specs.Walks as walk
use Rattle.drive_check.specs.Walks.{Certain, Walked, Block, any_certain, faults_from, leaf_faults, undriven, walked, walked_arm}
use Rattle.drive_check.specs.Modules.{port_faults, body_walked, faults_in}
use Rattle.std.proofs.lemmas.List.Folds.{flat_map-map}

-- Lists with the same faults

pub record Same (xs ys : List DriveFault) : Type 0 where
  pub forth : (f : DriveFault) → Contains xs f → Contains ys f
  pub back : (f : DriveFault) → Contains ys f → Contains xs f

same-is : {xs ys : List DriveFault} → xs ≡ ys → Same xs ys
same-is e = record { forth = λ f c. subst (λ l. Contains l f) e c; back = λ f c. subst (λ l. Contains l f) (sym e) c }

same-then : {xs ys zs : List DriveFault} → Same xs ys → Same ys zs → Same xs zs
same-then h k = record { forth = λ f c. k.forth f (h.forth f c); back = λ f c. h.back f (k.back f c) }

same-append : {us vs xs ys : List DriveFault} → Same us xs → Same vs ys → Same (us ++ vs) (xs ++ ys)
same-append {us} {vs} {xs} {ys} h k = record {
  forth = λ f c. ⊎_elim (λ l. Contains-append_left xs ys f (h.forth f l)) (λ r. Contains-append_right xs ys f (k.forth f r)) (Contains-append_cases us vs f c);
  back = λ f c. ⊎_elim (λ l. Contains-append_left us vs f (h.back f l)) (λ r. Contains-append_right us vs f (k.back f r)) (Contains-append_cases xs ys f c);
}

same-swap : (us vs : List DriveFault) → Same (us ++ vs) (vs ++ us)
same-swap us vs = record {
  forth = λ f c. ⊎_elim (λ l. Contains-append_right vs us f l) (λ r. Contains-append_left vs us f r) (Contains-append_cases us vs f c);
  back = λ f c. ⊎_elim (λ l. Contains-append_right us vs f l) (λ r. Contains-append_left us vs f r) (Contains-append_cases vs us f c);
}

-- The faults of declarations, each with its name

abbrev pub site_faults : Scope → Name × Declaration → List DriveFault
site_faults types both = undriven types (λ leaf. is_certain types leaf both.1.behind) both.0 both.1.sort

abbrev pub sites : Scope → List Name → List Declaration → List DriveFault
sites types names ds = flat_map (site_faults types) (zip names ds)

sites-append : (types : Scope) (ns ms : List Name) (ds es : List Declaration) → length ns ≡ length ds → sites types (ns ++ ms) (ds ++ es) ≡ sites types ns ds ++ sites types ms es
sites-append types [] ms [] es e = refl
sites-append types [] ms (d ∷ ds) es e = absurd (omega (arith, e))
sites-append types (n ∷ ns) ms [] es e = absurd (omega (arith, e))
sites-append types (n ∷ ns) ms (d ∷ ds) es e =
    flat_map-cons (site_faults types) (n, d) (zip (ns ++ ms) (ds ++ es)) ∙ ap (λ l. site_faults types (n, d) ++ l) (sites-append types ns ms ds es (omega (arith, e)))
    ∙ sym (append_assoc (site_faults types (n, d)) (sites types ns ds) (sites types ms es)) ∙ ap (λ l. l ++ sites types ms es) (sym (flat_map-cons (site_faults types) (n, d) (zip ns ds)))

same_lengths : (ns : List Name) (ds : List Declaration) → map (λ d. d.name) ds ≡ map (λ n. n.id) ns → length ns ≡ length ds
same_lengths ns ds e = sym (length-map ns (λ n. n.id)) ∙ sym (ap length e) ∙ length-map ds (λ d. d.name)

-- a register's and a node's leaves need no driver
abbrev no_faults : TypeLeaf → List DriveFault
no_faults x = []

nothing_of : (xs : List TypeLeaf) → flat_map no_faults xs ≡ []
nothing_of [] = refl
nothing_of (x ∷ xs) = nothing_of xs

abbrev told_arm : Arm → ToldArm
told_arm = fold-Arm Told ToldArm of_told of_told_arm

abbrev arm_certain : Scope → Leaf → Arm → Bool
arm_certain types leaf = fold-Arm Bool Bool (certainty.of_stmt types leaf) (certainty.of_arm types leaf)

pub record Linked (s : Stmt) : Type 0 where
  pub same : (told s).itself ≡ s
  pub ids : (block behind : List Stmt) → map (λ d. d.name) ((told s).declares block behind) ≡ map (λ n. n.id) (stmt_names s)
  pub agrees : (types : Scope) (leaf : Leaf) → (walked types s).certain leaf ≡ certain types leaf s
  pub faults : (types : Scope) (block behind : List Stmt) → Same ((walked types s).faults (λ leaf. is_certain types leaf behind)) (sites types (stmt_names s) ((told s).declares block behind))

record ArmLinked (a : Arm) : Type 0 where
  same : (told_arm a).itself ≡ a
  ids : map (λ d. d.name) (told_arm a).declared ≡ map (λ n. n.id) (arm_names a)
  agrees : (types : Scope) (leaf : Leaf) → (walked_arm types a).certain leaf ≡ arm_certain types leaf a
  faults : (types : Scope) → Same (walked_arm types a).faults (sites types (arm_names a) (told_arm a).declared)

-- Blocks and arms

abbrev ListStmt : Type 0
ListStmt = List ((s : Stmt) × Linked s)

abbrev ListArm : Type 0
ListArm = List ((a : Arm) × ArmLinked a)

each_same : (ps : ListStmt) → map (λ t. t.itself) (map told (map (λ e. e.0) ps)) ≡ map (λ e. e.0) ps
each_same [] = refl
each_same (p ∷ ps) = ap₂ (λ a b. a ∷ b) p.1.same (each_same ps)

arms_same : (ps : ListArm) → map (λ t. t.itself) (map told_arm (map (λ e. e.0) ps)) ≡ map (λ e. e.0) ps
arms_same [] = refl
arms_same (p ∷ ps) = ap₂ (λ a b. a ∷ b) p.1.same (arms_same ps)

block_ids : (ps : ListStmt) (block : List Stmt) → map (λ d. d.name) (declared_from block (map told (map (λ e. e.0) ps))) ≡ map (λ n. n.id) (all_names (map stmt_names (map (λ e. e.0) ps)))
block_ids [] block = refl
block_ids (p ∷ ps) block =
    let rest = map (λ t. t.itself) (map told (map (λ e. e.0) ps)) in
    map-append (λ (d : Declaration). d.name) ((told p.0).declares block rest) (declared_from block (map told (map (λ e. e.0) ps)))
    ∙ ap₂ (λ a b. a ++ b) (p.1.ids block rest) (block_ids ps block)
    ∙ sym (map-append (λ (name : Name). name.id) (stmt_names p.0) (all_names (map stmt_names (map (λ e. e.0) ps))))
    ∙ sym (ap (map (λ (name : Name). name.id)) (flat_map-cons (λ names. names) (stmt_names p.0) (map stmt_names (map (λ e. e.0) ps))))

arms_ids : (ps : ListArm) → map (λ d. d.name) (flat_map (λ arm. arm.declared) (map told_arm (map (λ e. e.0) ps))) ≡ map (λ n. n.id) (all_names (map arm_names (map (λ e. e.0) ps)))
arms_ids [] = refl
arms_ids (p ∷ ps) =
    ap (map (λ (d : Declaration). d.name)) (flat_map-cons (λ arm. arm.declared) (told_arm p.0) (map told_arm (map (λ e. e.0) ps)))
    ∙ map-append (λ (d : Declaration). d.name) (told_arm p.0).declared (flat_map (λ arm. arm.declared) (map told_arm (map (λ e. e.0) ps)))
    ∙ ap₂ (λ a b. a ++ b) p.1.ids (arms_ids ps)
    ∙ sym (map-append (λ (name : Name). name.id) (arm_names p.0) (all_names (map arm_names (map (λ e. e.0) ps))))
    ∙ sym (ap (map (λ (name : Name). name.id)) (flat_map-cons (λ names. names) (arm_names p.0) (map arm_names (map (λ e. e.0) ps))))

block_agrees : (ps : ListStmt) (types : Scope) (leaf : Leaf) → any_certain (map (walked types) (map (λ e. e.0) ps)) leaf ≡ is_certain types leaf (map (λ e. e.0) ps)
block_agrees [] types leaf = refl
block_agrees (p ∷ ps) types leaf = ap₂ (λ a b. a || b) (p.1.agrees types leaf) (block_agrees ps types leaf)

bools_any : (types : Scope) (leaf : Leaf) (ss : List Stmt) → list_any (λ s. s) (map (certain types leaf) ss) ≡ is_certain types leaf ss
bools_any types leaf [] = refl
bools_any types leaf (s ∷ ss) = ap (λ b. certain types leaf s || b) (bools_any types leaf ss)

arms_agree : (ps : ListArm) (types : Scope) (leaf : Leaf)
    → list_all (λ arm. arm.certain leaf) (map (walked_arm types) (map (λ e. e.0) ps)) ≡ list_all (λ arm. arm) (map (arm_certain types leaf) (map (λ e. e.0) ps))
arms_agree [] types leaf = refl
arms_agree (p ∷ ps) types leaf = ap₂ (λ a b. a && b) (p.1.agrees types leaf) (arms_agree ps types leaf)

block_faults : (ps : ListStmt) (types : Scope) (block : List Stmt)
    → Same (faults_from (map (walked types) (map (λ e. e.0) ps))) (sites types (all_names (map stmt_names (map (λ e. e.0) ps))) (declared_from block (map told (map (λ e. e.0) ps))))
block_faults [] types block = same-is refl
block_faults (p ∷ ps) types block =
    let ss : List Stmt = map (λ e. e.0) ps in
    let ws : List Walked = map (walked types) ss in
    let rest : List Stmt = map (λ t. t.itself) (map told ss) in
    let sets : any_certain ws ≡ (λ leaf. is_certain types leaf rest) = λ i leaf. (block_agrees ps types leaf ∙ ap (is_certain types leaf) (sym (each_same ps))) i in
    let names : List Name = all_names (map stmt_names ss) in
    let ds : List Declaration = (told p.0).declares block rest in
    let es : List Declaration = declared_from block (map told ss) in
    same-then (same-swap (faults_from ws) ((walked types p.0).faults (any_certain ws)))
    (same-then (same-append (same-then (same-is (ap (walked types p.0).faults sets)) (p.1.faults types block rest)) (block_faults ps types block))
    (same-is (sym (ap (λ l. sites types l (ds ++ es)) (flat_map-cons (λ l. l) (stmt_names p.0) (map stmt_names ss)) ∙ sites-append types (stmt_names p.0) names ds es (same_lengths (stmt_names p.0) ds (p.1.ids block rest))))))

arms_faults : (ps : ListArm) (types : Scope)
    → Same (flat_map (λ arm. arm.faults) (map (walked_arm types) (map (λ e. e.0) ps)))
    (sites types (all_names (map arm_names (map (λ e. e.0) ps))) (flat_map (λ arm. arm.declared) (map told_arm (map (λ e. e.0) ps))))
arms_faults [] types = same-is refl
arms_faults (p ∷ ps) types =
    let xs : List Arm = map (λ e. e.0) ps in
    let names : List Name = all_names (map arm_names xs) in
    let es : List Declaration = flat_map (λ arm. arm.declared) (map told_arm xs) in
    same-then (same-is (flat_map-cons (λ (arm : Block). arm.faults) (walked_arm types p.0) (map (walked_arm types) xs)))
    (same-then (same-append (p.1.faults types) (arms_faults ps types))
    (same-is (sym (ap₂ (λ l m. sites types l m) (flat_map-cons (λ l. l) (arm_names p.0) (map arm_names xs)) (flat_map-cons (λ (arm : ToldArm). arm.declared) (told_arm p.0) (map told_arm xs))
    ∙ sites-append types (arm_names p.0) names (told_arm p.0).declared es (same_lengths (arm_names p.0) (told_arm p.0).declared p.1.ids)))))

-- Each kind of statement

record LinkedAt (z : Stmt-F Stmt Arm) : Type 0 where
  same : (of_told (map-Stmt Stmt Arm Told ToldArm told told_arm z)).itself ≡ roll-Stmt z
  ids : (block behind : List Stmt) → map (λ d. d.name) ((of_told (map-Stmt Stmt Arm Told ToldArm told told_arm z)).declares block behind)
      ≡ map (λ n. n.id) (site.of_stmt (map-Stmt Stmt Arm (List Name) (List Name) stmt_names arm_names z))
  agrees : (types : Scope) (leaf : Leaf) → (walk.of_stmt types (map-Stmt Stmt Arm Walked Block (walked types) (walked_arm types) z)).certain leaf
      ≡ certainty.of_stmt types leaf (map-Stmt Stmt Arm Bool Bool (certain types leaf) (arm_certain types leaf) z)
  faults : (types : Scope) (block behind : List Stmt)
      → Same ((walk.of_stmt types (map-Stmt Stmt Arm Walked Block (walked types) (walked_arm types) z)).faults (λ leaf. is_certain types leaf behind))
      (sites types (site.of_stmt (map-Stmt Stmt Arm (List Name) (List Name) stmt_names arm_names z)) ((of_told (map-Stmt Stmt Arm Told ToldArm told told_arm z)).declares block behind))

linked_at : (z : Stmt-F Stmt Arm) → LinkedAt z → Linked (roll-Stmt z)
linked_at z h =
    let t = fold-roll-Stmt Told ToldArm of_told of_told_arm z in
    let n = fold-roll-Stmt (List Name) (List Name) site.of_stmt site.of_arm z in
    record {
      same = ap (λ (x : Told). x.itself) t ∙ h.same;
      ids = λ block behind. ap (λ (x : Told). map (λ d. d.name) (x.declares block behind)) t ∙ h.ids block behind ∙ sym (ap (map (λ (name : Name). name.id)) n);
      agrees = λ types leaf. ap (λ (x : Walked). x.certain leaf) (fold-roll-Stmt Walked Block (walk.of_stmt types) (walk.of_arm types) z) ∙ h.agrees types leaf
          ∙ sym (fold-roll-Stmt Bool Bool (certainty.of_stmt types leaf) (certainty.of_arm types leaf) z);
      faults = λ types block behind.
          same-then (same-is (ap (λ (x : Walked). x.faults (λ leaf. is_certain types leaf behind)) (fold-roll-Stmt Walked Block (walk.of_stmt types) (walk.of_arm types) z)))
          (same-then (h.faults types block behind)
          (same-is (sym (ap₂ (λ (l : List Name) (x : Told). sites types l (x.declares block behind)) n t))));
    }

-- one declaration
one_site : (types : Scope) (certain' : Certain) (name : Name) (sort : Sort) → Same (undriven types certain' name sort) (undriven types certain' name sort ++ [])
one_site types certain' name sort = same-is (sym (append-nil (undriven types certain' name sort)))

no_site : (types : Scope) (name : Name) → Same [] (flat_map no_faults (leaves (types name.id)) ++ [])
no_site types name = same-is (sym (append-nil (flat_map no_faults (leaves (types name.id))) ∙ nothing_of (leaves (types name.id))))

linked_layer : (y : Stmt-F ((s : Stmt) × Linked s) ((a : Arm) × ArmLinked a)) → Linked (roll-Stmt (map-Stmt _ _ Stmt Arm (λ e. e.0) (λ e. e.0) y))
linked_layer (Stmt-F.Wire name typ) = linked_at (Stmt-F.Wire name typ) (record { same = refl; ids = λ b h. refl; agrees = λ t l. refl; faults = λ t b h. one_site t (λ x. is_certain t x h) name A_wire })
linked_layer (Stmt-F.Reg name typ clock) = linked_at (Stmt-F.Reg name typ clock) (record { same = refl; ids = λ b h. refl; agrees = λ t l. refl; faults = λ t b h. no_site t name })
linked_layer (Stmt-F.RegReset name typ clock reset init) = linked_at (Stmt-F.RegReset name typ clock reset init)
    (record { same = refl; ids = λ b h. refl; agrees = λ t l. refl; faults = λ t b h. no_site t name })
linked_layer (Stmt-F.Mem memory) = linked_at (Stmt-F.Mem memory) (record { same = refl; ids = λ b h. refl; agrees = λ t l. refl; faults = λ t b h. one_site t (λ x. is_certain t x h) memory.name (A_memory memory) })
linked_layer (Stmt-F.Inst name target) = linked_at (Stmt-F.Inst name target) (record { same = refl; ids = λ b h. refl; agrees = λ t l. refl; faults = λ t b h. one_site t (λ x. is_certain t x h) name (An_instance target.id) })
linked_layer (Stmt-F.Node name expr) = linked_at (Stmt-F.Node name expr) (record { same = refl; ids = λ b h. refl; agrees = λ t l. refl; faults = λ t b h. no_site t name })
linked_layer (Stmt-F.Connect left right) = linked_at (Stmt-F.Connect left right) (record { same = refl; ids = λ b h. refl; agrees = λ t l. refl; faults = λ t b h. same-is refl })
linked_layer (Stmt-F.Invalidate target) = linked_at (Stmt-F.Invalidate target) (record { same = refl; ids = λ b h. refl; agrees = λ t l. refl; faults = λ t b h. same-is refl })
linked_layer (Stmt-F.Skip place) = linked_at (Stmt-F.Skip place) (record { same = refl; ids = λ b h. refl; agrees = λ t l. refl; faults = λ t b h. same-is refl })
linked_layer (Stmt-F.When arms other) =
    let xs : List Arm = map (λ e. e.0) arms in
    let ys : List Stmt = map (λ e. e.0) other in
    let ds : List Declaration = flat_map (λ arm. arm.declared) (map told_arm xs) in
    let es : List Declaration = declared_in_block (map told ys) in
    linked_at (Stmt-F.When xs ys) (record {
      same = ap₂ (λ a b. roll-Stmt (Stmt-F.When a b)) (arms_same arms) (each_same other);
      ids = λ block behind.
          map-append (λ (d : Declaration). d.name) ds es
          ∙ ap₂ (λ a b. a ++ b) (arms_ids arms) (block_ids other (map (λ t. t.itself) (map told ys)))
          ∙ sym (map-append (λ (name : Name). name.id) (all_names (map arm_names xs)) (all_names (map stmt_names ys)));
      agrees = λ types leaf. ap₂ (λ a b. a && b) (arms_agree arms types leaf) (block_agrees other types leaf ∙ sym (bools_any types leaf ys));
      faults = λ types block behind.
          same-then (same-swap (faults_from (map (walked types) ys)) (flat_map (λ arm. arm.faults) (map (walked_arm types) xs)))
          (same-then (same-append (arms_faults arms types) (block_faults other types (map (λ t. t.itself) (map told ys))))
          (same-is (sym (sites-append types (all_names (map arm_names xs)) (all_names (map stmt_names ys)) ds es (same_lengths (all_names (map arm_names xs)) ds (arms_ids arms))))));
    })

linked_arm_layer : (y : Arm-F ((s : Stmt) × Linked s) ((a : Arm) × ArmLinked a)) → ArmLinked (roll-Arm (map-Arm _ _ Stmt Arm (λ e. e.0) (λ e. e.0) y))
linked_arm_layer y =
    let z : Arm-F Stmt Arm = map-Arm _ _ Stmt Arm (λ e. e.0) (λ e. e.0) y in
    let ys : List Stmt = map (λ e. e.0) y.body in
    let t = fold-roll-Arm Told ToldArm of_told of_told_arm z in
    let n = fold-roll-Arm (List Name) (List Name) site.of_stmt site.of_arm z in
    record {
      same = ap (λ (x : ToldArm). x.itself) t ∙ ap (λ b. roll-Arm (record { condition = y.condition; body = b })) (each_same y.body);
      ids = ap (λ (x : ToldArm). map (λ d. d.name) x.declared) t ∙ block_ids y.body (map (λ t. t.itself) (map told ys)) ∙ sym (ap (map (λ (name : Name). name.id)) n);
      agrees = λ types leaf. ap (λ (x : Block). x.certain leaf) (fold-roll-Arm Walked Block (walk.of_stmt types) (walk.of_arm types) z) ∙ block_agrees y.body types leaf ∙ sym (bools_any types leaf ys)
          ∙ sym (fold-roll-Arm Bool Bool (certainty.of_stmt types leaf) (certainty.of_arm types leaf) z);
      faults = λ types.
          same-then (same-is (ap (λ (x : Block). x.faults) (fold-roll-Arm Walked Block (walk.of_stmt types) (walk.of_arm types) z)))
          (same-then (block_faults y.body types (map (λ t. t.itself) (map told ys)))
          (same-is (sym (ap₂ (λ (l : List Name) (x : ToldArm). sites types l x.declared) n t))));
    }

pub linked : (s : Stmt) → Linked s
linked = ind-Stmt Linked ArmLinked (λ x y is. subst (λ z. Linked (roll-Stmt z)) is (linked_layer y)) (λ x y is. subst (λ z. ArmLinked (roll-Arm z)) is (linked_arm_layer y))

-- A whole module

abbrev with_linked : (ss : List Stmt) → ListStmt
with_linked [] = []
with_linked (s ∷ ss) = (s, linked s) ∷ with_linked ss

with_linked_same : (ss : List Stmt) → map (λ e. e.0) (with_linked ss) ≡ ss
with_linked_same [] = refl
with_linked_same (s ∷ ss) = ap (λ l. s ∷ l) (with_linked_same ss)

body_names : (ss : List Stmt) → all_names (map stmt_names ss) ≡ flat_map stmt_names ss
body_names ss = flat_map-map (λ names. names) stmt_names ss

ids_in : (ss block : List Stmt) → map (λ d. d.name) (declared_from block (map told ss)) ≡ map (λ n. n.id) (flat_map stmt_names ss)
ids_in ss block =
    subst (λ l. map (λ d. d.name) (declared_from block (map told l)) ≡ map (λ n. n.id) (all_names (map stmt_names l))) (with_linked_same ss) (block_ids (with_linked ss) block)
    ∙ ap (map (λ (name : Name). name.id)) (body_names ss)

itself_in : (ss : List Stmt) → map (λ t. t.itself) (map told ss) ≡ ss
itself_in ss = subst (λ l. map (λ t. t.itself) (map told l) ≡ l) (with_linked_same ss) (each_same (with_linked ss))

agrees_in : (ss : List Stmt) (types : Scope) (leaf : Leaf) → any_certain (map (walked types) ss) leaf ≡ is_certain types leaf ss
agrees_in ss types leaf = subst (λ l. any_certain (map (walked types) l) leaf ≡ is_certain types leaf l) (with_linked_same ss) (block_agrees (with_linked ss) types leaf)

faults_block : (ss : List Stmt) (types : Scope) (block : List Stmt) → Same (faults_from (map (walked types) ss)) (sites types (flat_map stmt_names ss) (declared_from block (map told ss)))
faults_block ss types block =
    same-then (subst (λ l. Same (faults_from (map (walked types) l)) (sites types (all_names (map stmt_names l)) (declared_from block (map told l)))) (with_linked_same ss) (block_faults (with_linked ss) types block))
    (same-is (ap (λ l. sites types l (declared_from block (map told ss))) (body_names ss)))

port_ids : (body : List Stmt) (ports : List Port) → map (λ d. d.name) (map (declared_by_port body) ports) ≡ map (λ n. n.id) (map (λ port. port.name) ports)
port_ids body [] = refl
port_ids body (p ∷ ports) = ap (λ l. p.name.id ∷ l) (port_ids body ports)

pub names_are : (holder : Module) → map (λ d. d.name) (declarations_of holder) ≡ map (λ n. n.id) (names_of holder)
names_are holder =
    map-append (λ (d : Declaration). d.name) (map (declared_by_port holder.body) holder.ports) (declared_in_block (map told holder.body))
    ∙ ap₂ (λ a b. a ++ b) (port_ids holder.body holder.ports) (ids_in holder.body (map (λ t. t.itself) (map told holder.body)))
    ∙ sym (map-append (λ (name : Name). name.id) (map (λ port. port.name) holder.ports) (flat_map stmt_names holder.body))

ports_faults : (types : Scope) (body : List Stmt) (c : Certain) → c ≡ (λ leaf. is_certain types leaf body) → (ports : List Port)
    → flat_map (port_faults types c) ports ≡ sites types (map (λ port. port.name) ports) (map (declared_by_port body) ports)
ports_faults types body c e [] = refl
ports_faults types body c e (p ∷ ports) =
    flat_map-cons (port_faults types c) p ports ∙ ap₂ (λ (s : Certain) l. port_faults types s p ++ l) e (ports_faults types body c e ports)
    ∙ sym (flat_map-cons (site_faults types) (p.name, declared_by_port body p) (zip (map (λ port. port.name) ports) (map (declared_by_port body) ports)))

pub module_sites : (types : Scope) (holder : Module) → Same (faults_in types holder) (sites types (names_of holder) (declarations_of holder))
module_sites types holder =
    let body : List Stmt = holder.body in
    let ps : List Declaration = map (declared_by_port body) holder.ports in
    let es : List Declaration = declared_in_block (map told body) in
    let names : List Name = map (λ port. port.name) holder.ports in
    let sets : any_certain (body_walked types holder) ≡ (λ leaf. is_certain types leaf body) = λ i leaf. agrees_in body types leaf i in
    same-then (same-swap (faults_from (body_walked types holder)) (flat_map (port_faults types (any_certain (body_walked types holder))) holder.ports))
    (same-then (same-append (same-is (ports_faults types body (any_certain (body_walked types holder)) sets holder.ports)) (faults_block body types (map (λ t. t.itself) (map told body))))
    (same-is (sym (sites-append types names (flat_map stmt_names body) ps es (same_lengths names ps (port_ids body holder.ports))))))
