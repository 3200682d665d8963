-- Bodies statement by statement, and the arms of a `when`.
use Rattle.std.proofs.Common.{◌≡◌, ℕ, ◌+◌, ◌&&◌, Bool, true, false, List, [], ◌∷◌, ◌++◌, map, length, refl, sym, ap, ap₂, ◌∙◌, subst, arith, nat_lt, append-nil, append_assoc}
use Rattle.std.specs.List.{list_all}
use Rattle.std.proofs.lemmas.List.{map-append, length-append}
use Rattle.std.proofs.lemmas.List.Folds.{list_all-append}
use Rattle.prim_ops.specs.Values.{is_one}
use Rattle.fir_types.specs.declared.leaf.TypeLeaf.{TypeLeaf}
use Rattle.fir_types.specs.Leaves.{leaves}
use Rattle.fir_tree.specs.declared.expr.Expr.{Expr}
use Rattle.fir_tree.specs.declared.stmt.Stmt.{Stmt}
use Rattle.fir_tree.specs.declared.stmt.Stmt.TheVariants as stmt
use Rattle.fir_tree.specs.declared.stmt.Arm.{Arm}
use Rattle.fir_meaning.specs.Components.{TypedModule, Component, A_node, is_clock, type_in}
use Rattle.fir_meaning.specs.Values as tree
use Rattle.fir_meaning.specs.Mentions as tree_reads
use Rattle.fir_meaning.specs.States.{leaf_of}
use Rattle.fir_meaning.specs.WellTyped.{is_one_unsigned}
use Rattle.ground_net.specs.declared.ground.Ground.{Ground}
use Rattle.ground_net.specs.declared.circuit.GroundStmt.{GroundStmt}
use Rattle.ground_net.specs.declared.circuit.GroundStmt.TheVariants.{When}
use Rattle.ground_net.specs.declared.circuit.GroundArm.{GroundArm}
use Rattle.ground_net.specs.Grounds.{value, mentions}
use Rattle.ground_net.specs.Statements.{is_certain}
use Rattle.ground_net.specs.Shapes.{Table, shape}
use Rattle.ground_net.specs.StatementShapes.{is_condition, some_unsigned, is_shaped, is_shaped_stmt, are_shaped}
use Rattle.net_of_circuit.specs.Numbers.{is_set, scene_at, leaves_before}
use Rattle.ground_exprs.specs.Numbers.{Numbering, SameLeaves}
use Rattle.ground_exprs.proofs.Members.{place_within}
use Rattle.ground_exprs.specs.Sources.{Entries, Knows, AreSources}
use Rattle.ground_exprs.proofs.Lowered.{joined_one, head_same}
use Rattle.ground_statements.specs.Declares.{Declares, all_labels, labels, arm_labels, body_labels}
use Rattle.ground_statements.specs.Arms.{IsCondition, ArmsDo, AreArms, arms_labels}
use Rattle.ground_statements.specs.Bodies.{Meant, IsMeant, BodyDoes, IsBody, Stands, numbering, meant_by, node_meant}
use Rattle.ground_statements.proofs.Layers.{labels-When, arm_labels-is, shaped-When, shaped_arm-is}
use Rattle.ground_statements.proofs.Lists.{plus_none, plus_more, declares-left, declares-right, same_side}
use Rattle.ground_statements.proofs.Lives.{lives_none}
use Rattle.ground_statements.proofs.Meanings.{means_none, means_seq, MeantArm, IsMeantArm, AreMeantArms, when_meant, means_when}
use Rattle.ground_statements.proofs.Texts.{labels_append, counts_append, text_seq, text_arm, text_arms, text_when}
use Rattle.ground_statements.proofs.NodeStatements.{node_none, node_seq, node_arms, node_when}
use Rattle.ground_statements.proofs.Views.{knows_view}

-- One statement more

body_none : (m : TypedModule) (table : Table) (n : ℕ) → BodyDoes m table n [] []
body_none m table n = record {
  sets = λ k j c leaf st is.
      let N : Numbering = numbering m table in
      let x : ℕ = leaves_before m k + j in
      record { effects = λ instant last h. refl; certain = refl; live = lives_none N };
  nodes = λ k j c leaf e st is clk. node_none m e j k (numbering m table) (leaves_before m k + j) n false [] (means_none (numbering m table) (leaves_before m k + j));
  shaped = refl;
}

shaped_append : (table : Table) (made more : List GroundStmt) → is_shaped table made ≡ true → is_shaped table more ≡ true → is_shaped table (made ++ more) ≡ true
shaped_append table made more p q =
    ap (list_all (λ b. b)) (map-append (is_shaped_stmt table) made more) ∙ list_all-append (λ b. b) (map (is_shaped_stmt table) made) (map (is_shaped_stmt table) more) ∙ ap₂ (λ a b. a && b) p q

body_more : (m : TypedModule) (table : Table) (n : ℕ) (front later : List Stmt) (made more : List GroundStmt) → BodyDoes m table n front made → BodyDoes m table (n + length (body_labels front)) later more
    → BodyDoes m table n (front ++ later) (made ++ more)
body_more m table n front later made more p q = record {
  sets = λ k j c leaf st is.
      let N : Numbering = numbering m table in
      let x : ℕ = leaves_before m k + j in
      text_seq N x m (leaf_of c leaf) k n front later (made ++ more)
      (means_seq N x (meant_by m (leaf_of c leaf) k n front) (meant_by m (leaf_of c leaf) k (n + length (body_labels front)) later) made more (p.sets k j c leaf st is) (q.sets k j c leaf st is));
  nodes = λ k j c leaf e st is clk.
      let N : Numbering = numbering m table in
      let x : ℕ = leaves_before m k + j in
      subst (λ i. IsMeant N x (node_meant m e j k n i (is_certain x (made ++ more))) (made ++ more)) (sym (counts_append front later))
      (node_seq m e j k N x n (length (body_labels front)) (length (body_labels later)) (is_certain x made) (is_certain x more) (made ++ more)
      (means_seq N x (node_meant m e j k n (length (body_labels front)) (is_certain x made)) (node_meant m e j k (n + length (body_labels front)) (length (body_labels later)) (is_certain x more)) made more
      (p.nodes k j c leaf e st is clk) (q.nodes k j c leaf e st is clk)));
  shaped = shaped_append table made more p.shaped q.shaped;
}

pub is_none : (entries : Entries) (settable : List Bool) (before : ℕ) → IsBody entries settable [] before before []
is_none entries settable before = record {
  behind_it = λ m n view d e. e ∙ ap (leaves_before m) (sym (plus_none n));
  does = λ holder m table n has view t d e. body_none m table n;
}

pub is_more : (entries : Entries) (settable : List Bool) (front later : List Stmt) (before mid behind : ℕ) (made more : List GroundStmt)
    → IsBody entries settable front before mid made → IsBody entries settable later mid behind more → IsBody entries settable (front ++ later) before behind (made ++ more)
is_more entries settable front later before mid behind made more p q = record {
  behind_it = λ m n view d e.
      let split = subst (Declares m n) (labels_append front later) d in
      let here = p.behind_it m n view (declares-left m n (body_labels front) (body_labels later) split) e in
      q.behind_it m (n + length (body_labels front)) view (declares-right m n (body_labels front) (body_labels later) split) here
      ∙ ap (leaves_before m) (sym (plus_more n (length (body_labels front)) (length (body_labels later))) ∙ ap (λ i. n + i) (sym (counts_append front later)));
  does = λ holder m table n has view t d e.
      let split = subst (Declares m n) (labels_append front later) d in
      let first = declares-left m n (body_labels front) (body_labels later) split in
      body_more m table n front later made more (p.does holder m table n has view t first e)
      (q.does holder m table (n + length (body_labels front)) has view t (declares-right m n (body_labels front) (body_labels later) split) (p.behind_it m n view first e));
}

-- One arm more

arms_labels_more : (front : List Arm) (a : Arm) → arms_labels (front ++ a ∷ []) ≡ arms_labels front ++ body_labels a.body
arms_labels_more [] a = append-nil (body_labels a.body)
arms_labels_more (f ∷ front) a = ap (λ l. body_labels f.body ++ l) (arms_labels_more front a) ∙ sym (append_assoc (body_labels f.body) (arms_labels front) (body_labels a.body))

arms_more : (entries : Entries) (m : TypedModule) (table : Table) (n : ℕ) (front : List Arm) (a : Arm) (gs : List GroundArm) (g : GroundArm) → ArmsDo entries m table n front gs
    → IsCondition entries a.condition g.condition → BodyDoes m table (n + length (arms_labels front)) a.body g.body → ArmsDo entries m table n (front ++ a ∷ []) (gs ++ g ∷ [])
arms_more entries m table n [] a [] g d c b = ((c, subst (λ i. BodyDoes m table i a.body g.body) (plus_none n) b), tt)
arms_more entries m table n [] a (h ∷ gs) g d c b = absurd d
arms_more entries m table n (f ∷ front) a [] g d c b = absurd d
arms_more entries m table n (f ∷ front) a (h ∷ gs) g d c b =
    let l : length (arms_labels (f ∷ front)) ≡ length (body_labels f.body) + length (arms_labels front) = length-append (body_labels f.body) (arms_labels front) in
    let i : n + length (arms_labels (f ∷ front)) ≡ n + length (body_labels f.body) + length (arms_labels front) = omega (arith, l) in
    (d.0, arms_more entries m table (n + length (body_labels f.body)) front a gs g d.1 c (subst (λ i. BodyDoes m table i a.body g.body) i b))

pub are_none : (entries : Entries) (settable : List Bool) (before : ℕ) → AreArms entries settable [] before before []
are_none entries settable before = record {
  behind_them = λ m n view d e. e ∙ ap (leaves_before m) (sym (plus_none n));
  does = λ holder m table n has view t d e. tt;
}

pub are_more : (entries : Entries) (settable : List Bool) (front : List Arm) (a : Arm) (before mid behind : ℕ) (gs : List GroundArm) (g : GroundArm) → AreArms entries settable front before mid gs
    → IsCondition entries a.condition g.condition → IsBody entries settable a.body mid behind g.body → AreArms entries settable (front ++ a ∷ []) before behind (gs ++ g ∷ [])
are_more entries settable front a before mid behind gs g p c q = record {
  behind_them = λ m n view d e.
      let split = subst (Declares m n) (arms_labels_more front a) d in
      let here = p.behind_them m n view (declares-left m n (arms_labels front) (body_labels a.body) split) e in
      let l : length (arms_labels (front ++ a ∷ [])) ≡ length (arms_labels front) + length (body_labels a.body) = ap length (arms_labels_more front a) ∙ length-append (arms_labels front) (body_labels a.body) in
      q.behind_it m (n + length (arms_labels front)) view (declares-right m n (arms_labels front) (body_labels a.body) split) here
      ∙ ap (leaves_before m) (sym (plus_more n (length (arms_labels front)) (length (body_labels a.body))) ∙ ap (λ i. n + i) (sym l));
  does = λ holder m table n has view t d e.
      let split = subst (Declares m n) (arms_labels_more front a) d in
      let first = declares-left m n (arms_labels front) (body_labels a.body) split in
      arms_more entries m table n front a gs g (p.does holder m table n has view t first e) c
      (q.does holder m table (n + length (arms_labels front)) has view t (declares-right m n (arms_labels front) (body_labels a.body) split) (p.behind_them m n view first e));
}

-- Conditions

module _ (entries : Entries) (m : TypedModule) (table : Table) (knows : Knows (numbering m table) (type_in m) entries) where
  condition_meant : (x : ℕ) (a : Arm) (g : GroundArm) (inner : Meant) → IsCondition entries a.condition g.condition → IsMeant (numbering m table) x inner g.body
      → IsMeantArm (numbering m table) x (text_arm m a inner) g
  condition_meant x a g inner c b =
      let its : AreSources (numbering m table) (λ instant. tree.value a.condition (scene_at m instant)) (tree_reads.mentions a.condition (type_in m)) (c.source ∷ []) = c.lowered.are (numbering m table) (type_in m) knows in
      record {
        holds = λ instant h. ap (λ e. is_one (value e instant)) (sym c.expr) ∙ ap tree.is_one (its.values instant h);
        mentioned = subst (λ e. SameLeaves (numbering m table) (tree_reads.joined (tree_reads.mentions a.condition (type_in m))) (mentions e)) c.expr (joined_one (numbering m table) (tree_reads.mentions a.condition (type_in m)) c.source its.reads);
        inner = b;
      }

  condition_shaped : (e : Expr) (g : Ground) → IsCondition entries e g → is_condition table g ≡ true
  condition_shaped e g c =
      let its : AreSources (numbering m table) (λ instant. tree.value e (scene_at m instant)) (tree_reads.mentions e (type_in m)) (c.source ∷ []) = c.lowered.are (numbering m table) (type_in m) knows in
      ap (λ e. some_unsigned (shape e table)) (sym c.expr) ∙ (ap some_unsigned (head_same its.shapes) ∙ (ap is_one_unsigned (sym c.lowered.typed) ∙ c.unsigned))

  arms_set : (k j : ℕ) (c : Component) (leaf : TypeLeaf) → Stands m k j c leaf → is_set (c, leaf) ≡ true → (n : ℕ) (arms : List Arm) (gs : List GroundArm) → ArmsDo entries m table n arms gs
      → AreMeantArms (numbering m table) (leaves_before m k + j) (text_arms m (leaf_of c leaf) k n arms) gs
  arms_set k j c leaf st is n [] [] d = tt
  arms_set k j c leaf st is n [] (g ∷ gs) d = absurd d
  arms_set k j c leaf st is n (a ∷ arms) [] d = absurd d
  arms_set k j c leaf st is n (a ∷ arms) (g ∷ gs) d = (
    condition_meant (leaves_before m k + j) a g (meant_by m (leaf_of c leaf) k n a.body) d.0.0 (d.0.1.sets k j c leaf st is),
    arms_set k j c leaf st is (n + length (body_labels a.body)) arms gs d.1,
  )

  arms_node : (k j : ℕ) (c : Component) (leaf : TypeLeaf) (e : Expr) → Stands m k j c leaf → c.declaration.sort ≡ A_node e → is_clock leaf ≡ false → (n : ℕ) (arms : List Arm) (gs : List GroundArm) → ArmsDo entries m table n arms gs
      → AreMeantArms (numbering m table) (leaves_before m k + j) (node_arms m e j k (leaves_before m k + j) n arms gs) gs
  arms_node k j c leaf e st is clk n [] [] d = tt
  arms_node k j c leaf e st is clk n [] (g ∷ gs) d = absurd d
  arms_node k j c leaf e st is clk n (a ∷ arms) [] d = absurd d
  arms_node k j c leaf e st is clk n (a ∷ arms) (g ∷ gs) d = (
    condition_meant (leaves_before m k + j) a g (node_meant m e j k n (length (body_labels a.body)) (is_certain (leaves_before m k + j) g.body)) d.0.0 (d.0.1.nodes k j c leaf e st is clk),
    arms_node k j c leaf e st is clk (n + length (body_labels a.body)) arms gs d.1,
  )

  arms_shaped : (n : ℕ) (arms : List Arm) (gs : List GroundArm) → ArmsDo entries m table n arms gs → are_shaped table gs ≡ true
  arms_shaped n [] [] d = refl
  arms_shaped n [] (g ∷ gs) d = absurd d
  arms_shaped n (a ∷ arms) [] d = absurd d
  arms_shaped n (a ∷ arms) (g ∷ gs) d =
      ap₂ (λ x y. x && y) (shaped_arm-is table g ∙ ap₂ (λ x y. x && y) (condition_shaped a.condition g.condition d.0.0) d.0.1.shaped) (arms_shaped (n + length (body_labels a.body)) arms gs d.1)

-- A whole `when`

when_labels : (arms : List Arm) (other : List Stmt) → body_labels (stmt.When arms other ∷ []) ≡ arms_labels arms ++ body_labels other
when_labels arms other = append-nil (labels (stmt.When arms other)) ∙ (labels-When arms other ∙ ap (λ l. l ++ body_labels other) (each arms))
  where
    each : (arms : List Arm) → all_labels (map arm_labels arms) ≡ arms_labels arms
    each [] = refl
    each (a ∷ arms) = ap₂ (λ x y. x ++ y) (arm_labels-is a) (each arms)

when_counts : (arms : List Arm) (other : List Stmt) → length (body_labels (stmt.When arms other ∷ [])) ≡ length (arms_labels arms) + length (body_labels other)
when_counts arms other = ap length (when_labels arms other) ∙ length-append (arms_labels arms) (body_labels other)

when_does : (entries : Entries) (m : TypedModule) (table : Table) → Knows (numbering m table) (type_in m) entries → (n before : ℕ) (arms : List Arm) (other : List Stmt) (gs : List GroundArm) (made : List GroundStmt)
    → before ≡ leaves_before m n → ArmsDo entries m table n arms gs → BodyDoes m table (n + length (arms_labels arms)) other made → BodyDoes m table n (stmt.When arms other ∷ []) (When before gs made ∷ [])
when_does entries m table knows n before arms other gs made at d b = record {
  sets = λ k j c leaf st is.
      let N : Numbering = numbering m table in
      let x : ℕ = leaves_before m k + j in
      let ts : List MeantArm = text_arms m (leaf_of c leaf) k n arms in
      let last : Meant = meant_by m (leaf_of c leaf) k (n + length (arms_labels arms)) other in
      text_when N x m (leaf_of c leaf) k n arms other (When before gs made ∷ [])
      (subst (λ asked. IsMeant N x (when_meant asked ts last) (When before gs made ∷ [])) (side k j c leaf st)
      (means_when N x before ts gs last made (arms_set entries m table knows k j c leaf st is n arms gs d) (b.sets k j c leaf st is)));
  nodes = λ k j c leaf e st is clk.
      let N : Numbering = numbering m table in
      let x : ℕ = leaves_before m k + j in
      let ts : List MeantArm = node_arms m e j k x n arms gs in
      let last : Meant = node_meant m e j k (n + length (arms_labels arms)) (length (body_labels other)) (is_certain x made) in
      subst (λ i. IsMeant N x (node_meant m e j k n i (is_certain x (When before gs made ∷ []))) (When before gs made ∷ [])) (sym (when_counts arms other))
      (node_when m e j k x N entries table n (length (body_labels other)) arms gs (is_certain x made) (When before gs made ∷ []) d
      (subst (λ asked. IsMeant N x (when_meant asked ts last) (When before gs made ∷ [])) (side k j c leaf st)
      (means_when N x before ts gs last made (arms_node entries m table knows k j c leaf e st is clk n arms gs d) (b.nodes k j c leaf e st is clk))));
  shaped = ap (λ v. v && true) (shaped-When table before gs made ∙ ap₂ (λ u v. u && v) (arms_shaped entries m table knows n arms gs d) b.shaped);
}
  where
    side : (k j : ℕ) (c : Component) (leaf : TypeLeaf) → Stands m k j c leaf → nat_lt (leaves_before m k + j) before ≡ nat_lt k n
    side k j c leaf st = ap (nat_lt (leaves_before m k + j)) at ∙ same_side m k n j c st.component (place_within (leaves c.typ) j leaf st.listed)

pub is_when : (entries : Entries) (settable : List Bool) (arms : List Arm) (other : List Stmt) (before mid behind : ℕ) (gs : List GroundArm) (made : List GroundStmt)
    → AreArms entries settable arms before mid gs → IsBody entries settable other mid behind made → IsBody entries settable (stmt.When arms other ∷ []) before behind (When before gs made ∷ [])
is_when entries settable arms other before mid behind gs made p q = record {
  behind_it = λ m n view d e.
      let split = subst (Declares m n) (when_labels arms other) d in
      let here = p.behind_them m n view (declares-left m n (arms_labels arms) (body_labels other) split) e in
      q.behind_it m (n + length (arms_labels arms)) view (declares-right m n (arms_labels arms) (body_labels other) split) here
      ∙ ap (leaves_before m) (sym (plus_more n (length (arms_labels arms)) (length (body_labels other))) ∙ ap (λ i. n + i) (sym (when_counts arms other)));
  does = λ holder m table n has view t d e.
      let split = subst (Declares m n) (when_labels arms other) d in
      let first = declares-left m n (arms_labels arms) (body_labels other) split in
      when_does entries m table (knows_view holder m entries settable table has view t) n before arms other gs made e (p.does holder m table n has view t first e)
      (q.does holder m table (n + length (arms_labels arms)) has view t (declares-right m n (arms_labels arms) (body_labels other) split) (p.behind_them m n view first e));
}
