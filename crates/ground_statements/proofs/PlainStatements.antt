-- Statements that have no blocks in them.
use Rattle.std.proofs.Common.{◌≡◌, ◌≢◌, ℕ, zero, suc, ◌+◌, ◌<◌, ◌&&◌, ◌||◌, not, Bool, true, false, List, [], ◌∷◌, ◌++◌, map, length, slice_get, get_or, nat_eq, Option, Some, ℤ, option_map, refl, sym, ap, ap₂, ◌∙◌, subst, arith, append-nil, true≢false, ◌⊎◌, inl, inr}
use Rattle.std.specs.Map.{lookup}
use Rattle.std.proofs.lemmas.List.{length-map}
use Rattle.place_text.specs.declared.place.Place.{Place as TextPlace}
use Rattle.bit_words.specs.Values.{integer_of}
use Rattle.fir_types.specs.declared.name.Name.{Name}
use Rattle.fir_types.specs.declared.fir_type.FirType.{FirType}
use Rattle.fir_types.specs.declared.leaf.TypeLeaf.{TypeLeaf}
use Rattle.fir_types.specs.declared.memory.Memory.{Memory}
use Rattle.fir_types.specs.Leaves.{leaves}
use Rattle.fir_tree.specs.declared.circuit.Module.{Module}
use Rattle.fir_tree.specs.declared.expr.Expr.{Expr}
use Rattle.fir_tree.specs.declared.stmt.Stmt.{Stmt}
use Rattle.fir_tree.specs.declared.stmt.Stmt.TheVariants as stmt
use Rattle.fir_meaning.specs.Components.{TypedModule, Component, Leaf, A_wire, A_register, A_reset_register, A_memory, An_instance, A_node, flow_of, is_clock, type_in}
use Rattle.fir_meaning.specs.Values as tree
use Rattle.fir_meaning.specs.Values.{Scene}
use Rattle.fir_meaning.specs.Mentions as tree_reads
use Rattle.fir_meaning.specs.Mentions.{Scope, region_of}
use Rattle.fir_meaning.specs.Drives.{left_in, set_by_connect, set_by_invalidate}
use Rattle.fir_meaning.specs.Certain.{surely_names}
use Rattle.fir_meaning.specs.Loops.{driven_from}
use Rattle.fir_meaning.specs.States.{is_source, leaf_of}
use Rattle.fir_meaning.specs.WellTyped.{HasTypes, typed, leaf_shape}
use Rattle.circuit_laws.specs.Open as open_text
use Rattle.circuit_laws.specs.Open.{Opened, opened}
use Rattle.circuit_laws.specs.OpenReads as open_reads
use Rattle.circuit_laws.specs.OpenReads.{OpenDriving, open_driving}
use Rattle.ground_net.specs.declared.circuit.GroundStmt.{GroundStmt}
use Rattle.ground_net.specs.Grounds.{Instant, value, mentions}
use Rattle.ground_net.specs.Statements.{is_certain}
use Rattle.ground_net.specs.Shapes.{Table, HasShapes, shape}
use Rattle.net_of_circuit.specs.Numbers.{is_set, scene_at, leaves_before}
use Rattle.ground_exprs.specs.Numbers.{Numbering, SameLeaves}
use Rattle.ground_exprs.proofs.Members.{some_same, none_some, from_place, place_within, item_at}
use Rattle.ground_exprs.specs.declared.source.Source.{Source}
use Rattle.ground_exprs.specs.declared.component.Component.{Component as Entry}
use Rattle.ground_exprs.specs.Sources.{Entries, Knows, AreSources, IsLowered, ReadEach, source_values, told as said}
use Rattle.ground_exprs.proofs.Lowered.{head_same}
use Rattle.ground_statements.specs.Connects.{Does, LeavesAlone, IsOneToOne, SetsTo, IsNode, SameLives, IsConnect, IsInvalidate}
use Rattle.ground_statements.specs.Declares.{Label, Declares, labels, body_labels}
use Rattle.ground_statements.specs.Arms.{leaves_under, leaves_of_component, IsNodeOf, IsNodeWhere}
use Rattle.ground_statements.specs.Bodies.{IsMeant, IsViewOf, HasTable, BodyDoes, IsBody, Stands, numbering, meant_by, node_meant, left_alone, set_to}
use Rattle.ground_statements.proofs.Layers as layer
use Rattle.ground_statements.proofs.Lists.{plus_none, Place, is_before, is_inside, is_behind, placed, among_before, among_inside, among_behind, leaves_more, leaf_there, other_leaf}
use Rattle.ground_statements.proofs.Lives.{lives_none}
use Rattle.ground_statements.proofs.Meanings.{told, means_none}
use Rattle.ground_statements.proofs.NodeStatements.{node_none, node_alone, node_set}
use Rattle.ground_statements.proofs.Views.{one_to_one, number_at, knows_view, known_types}

or_false : (b : Bool) → b ≡ (b || false)
or_false true = refl
or_false false = refl

-- what leaves a leaf alone means nothing to it
alone_means : (N : Numbering) (x : ℕ) (made : List GroundStmt) → LeavesAlone made x → IsMeant N x left_alone made
alone_means N x made l = record {
  effects = λ instant last h. ap (option_map integer_of) (l.effects instant last);
  certain = l.certain;
  live = subst (SameLives N []) (sym l.live) (lives_none N);
}

-- What a statement of a text does to leaves, wherever it stands.
pub record Acts (s : Stmt) (does : Scene → Leaf → Option ℤ → Option ℤ) (surely : Scope → Leaf → Bool) (lives : Scope → Leaf → List (List Leaf)) : Type 0 where
  pub left : (scene : Scene) (leaf : Leaf) (k n : ℕ) (last : Option ℤ) → (opened scene leaf k s).does n last ≡ does scene leaf last
  pub certain : (types : Scope) (leaf : Leaf) (k : ℕ) → (open_driving types leaf k s).certain ≡ surely types leaf
  pub live : (types : Scope) (leaf : Leaf) (k n : ℕ) → (open_driving types leaf k s).live n ≡ lives types leaf

abbrev pub Idles : Stmt → Type 0
Idles s = Acts s (λ scene leaf last. last) (λ types leaf. false) (λ types leaf. [])

idles : (s : Stmt) → ((scene : Scene) (leaf : Leaf) (k : ℕ) → opened scene leaf k s ≡ open_text.declaring) → ((types : Scope) (leaf : Leaf) (k : ℕ) → open_driving types leaf k s ≡ open_reads.declaring) → Idles s
idles s o r = record {
  left = λ scene leaf k n last. ap (λ (x : Opened). x.does n last) (o scene leaf k);
  certain = λ types leaf k. ap (λ (x : OpenDriving). x.certain) (r types leaf k);
  live = λ types leaf k n. ap (λ (x : OpenDriving). x.live n) (r types leaf k);
}

-- the meaning of one statement alone
one_meant : (N : Numbering) (x : ℕ) (m : TypedModule) (s : Stmt) (does : Scene → Leaf → Option ℤ → Option ℤ) (surely : Scope → Leaf → Bool) (lives : Scope → Leaf → List (List Leaf)) → Acts s does surely lives
    → (leaf : Leaf) (k n : ℕ) (made : List GroundStmt)
    → IsMeant N x (record { does = λ instant last. does (scene_at m instant) leaf last; certain = surely (type_in m) leaf; lives = lives (type_in m) leaf }) made
    → IsMeant N x (meant_by m leaf k n (s ∷ [])) made
one_meant N x m s does surely lives acts leaf k n made p =
    told N x (record { does = λ instant last. does (scene_at m instant) leaf last; certain = surely (type_in m) leaf; lives = lives (type_in m) leaf }) (meant_by m leaf k n (s ∷ [])) made
    (λ instant last. sym (acts.left (scene_at m instant) leaf k n last)) (sym (acts.certain (type_in m) leaf k) ∙ or_false (open_driving (type_in m) leaf k s).certain)
    (sym (acts.live (type_in m) leaf k n) ∙ sym (append-nil ((open_driving (type_in m) leaf k s).live n))) p

-- Declarations that set nothing

one_label : (s : Stmt) (l : Label) → labels s ≡ l ∷ [] → body_labels (s ∷ []) ≡ l ∷ []
one_label s l e = append-nil (labels s) ∙ e

no_label : (s : Stmt) → labels s ≡ [] → body_labels (s ∷ []) ≡ []
no_label s e = append-nil (labels s) ∙ e

-- the component that a declaration makes has as many leaves as its name says
under_name : (m : TypedModule) (entries : Entries) (settable : List Bool) → IsViewOf m entries settable → (n : ℕ) (c : Component) (name : ℕ) → slice_get m.components n ≡ Some c → c.declaration.name ≡ name
    → leaves_under entries name ≡ length (leaves c.typ)
under_name m entries settable view n c name at is =
    let v = view.components n c at in
    ap leaves_of_component (ap (λ i. lookup (nat_eq i) entries) (sym is) ∙ v.1) ∙ ap (λ t. length (leaves t)) v.2

one_behind : (entries : Entries) (settable : List Bool) (s : Stmt) (l : Label) → labels s ≡ l ∷ [] → (before behind : ℕ) → behind ≡ before + leaves_under entries l.0
    → (m : TypedModule) (n : ℕ) → IsViewOf m entries settable → Declares m n (body_labels (s ∷ [])) → before ≡ leaves_before m n → behind ≡ leaves_before m (n + length (body_labels (s ∷ [])))
one_behind entries settable s l e before behind is m n view d at =
    let its = subst (Declares m n) (one_label s l e) d in
    let c : Component = its.0.0 in
    is ∙ ap₂ (λ a b. a + b) at (under_name m entries settable view n c l.0 its.0.1 its.0.2) ∙ sym (leaves_more m n c its.0.1) ∙ ap (λ i. leaves_before m (n + i)) (sym (ap length (one_label s l e)))

pub is_declared : (entries : Entries) (settable : List Bool) (s : Stmt) (l : Label) → Idles s → labels s ≡ l ∷ [] → ((e : Expr) → l.1 ≡ A_node e → ⊥) → (before behind : ℕ) → behind ≡ before + leaves_under entries l.0
    → IsBody entries settable (s ∷ []) before behind []
is_declared entries settable s l idle e plain before behind is = record {
  behind_it = one_behind entries settable s l e before behind is;
  does = λ holder m table n has view t d at.
      let its = subst (Declares m n) (one_label s l e) d in
      record {
        sets = λ k j c leaf st set. one_meant (numbering m table) (leaves_before m k + j) m s _ _ _ idle (leaf_of c leaf) k n [] (means_none (numbering m table) (leaves_before m k + j));
        nodes = λ k j c leaf f st is_node clk. by m (numbering m table) (leaves_before m k + j) n k j c f st.component is_node its.0.0 its.0.1 its.0.3 (placed n (length (body_labels (s ∷ []))) k);
        shaped = refl;
      };
}
  where
    by : (m : TypedModule) (N : Numbering) (x n k j : ℕ) (c : Component) (f : Expr) → slice_get m.components k ≡ Some c → c.declaration.sort ≡ A_node f → (d : Component) → slice_get m.components n ≡ Some d → d.declaration.sort ≡ l.1
        → Place n (length (body_labels (s ∷ []))) k → IsMeant N x (node_meant m f j k n (length (body_labels (s ∷ []))) (is_certain x [])) []
    by m N x n k j c f here node d there sort (is_before h) = subst (λ w. IsMeant N x w []) (sym (node_alone m f j k n (length (body_labels (s ∷ []))) false (among_before n _ k h))) (means_none N x)
    by m N x n k j c f here node d there sort (is_behind h) = subst (λ w. IsMeant N x w []) (sym (node_alone m f j k n (length (body_labels (s ∷ []))) false (among_behind n _ k h))) (means_none N x)
    by m N x n k j c f here node d there sort (is_inside h i) =
        let one : length (body_labels (s ∷ [])) ≡ 1 = ap length (one_label s l e) in
        let same : k ≡ n = omega (arith, h, i, one) in
        let same_c : d ≡ c = some_same (sym there ∙ (ap (slice_get m.components) (sym same) ∙ here)) in
        absurd (plain f (sym sort ∙ (ap (λ (z : Component). z.declaration.sort) same_c ∙ node)))

wire_plain : (e : Expr) → A_wire ≡ A_node e → ⊥
wire_plain e q = cc

register_plain : (clock e : Expr) → A_register clock ≡ A_node e → ⊥
register_plain clock e q = cc

reset_plain : (clock reset init e : Expr) → A_reset_register clock reset init ≡ A_node e → ⊥
reset_plain clock reset init e q = cc

memory_plain : (memory : Memory) (e : Expr) → A_memory memory ≡ A_node e → ⊥
memory_plain memory e q = cc

instance_plain : (target : ℕ) (e : Expr) → An_instance target ≡ A_node e → ⊥
instance_plain target e q = cc

module _ (entries : Entries) (settable : List Bool) (before behind : ℕ) where
  pub is_wire : (s : Stmt) (name : Name) (typ : FirType) → s ≡ stmt.Wire name typ → behind ≡ before + leaves_under entries name.id → IsBody entries settable (s ∷ []) before behind []
  is_wire s name typ e b =
      subst (λ z. IsBody entries settable (z ∷ []) before behind []) (sym e)
      (is_declared entries settable (stmt.Wire name typ) (name.id, A_wire) (idles (stmt.Wire name typ) (λ scene leaf k. layer.open-Wire scene leaf k name typ) (λ types leaf k. layer.reads-Wire types leaf k name typ))
      (layer.labels-Wire name typ) wire_plain before behind b)

  pub is_register : (s : Stmt) (name : Name) (typ : FirType) (clock : Expr) → s ≡ stmt.Reg name typ clock → behind ≡ before + leaves_under entries name.id → IsBody entries settable (s ∷ []) before behind []
  is_register s name typ clock e b =
      subst (λ z. IsBody entries settable (z ∷ []) before behind []) (sym e)
      (is_declared entries settable (stmt.Reg name typ clock) (name.id, A_register clock)
      (idles (stmt.Reg name typ clock) (λ scene leaf k. layer.open-Reg scene leaf k name typ clock) (λ types leaf k. layer.reads-Reg types leaf k name typ clock)) (layer.labels-Reg name typ clock) (register_plain clock) before behind b)

  pub is_reset_register : (s : Stmt) (name : Name) (typ : FirType) (clock reset init : Expr) → s ≡ stmt.RegReset name typ clock reset init → behind ≡ before + leaves_under entries name.id
      → IsBody entries settable (s ∷ []) before behind []
  is_reset_register s name typ clock reset init e b =
      subst (λ z. IsBody entries settable (z ∷ []) before behind []) (sym e)
      (is_declared entries settable (stmt.RegReset name typ clock reset init) (name.id, A_reset_register clock reset init)
      (idles (stmt.RegReset name typ clock reset init) (λ scene leaf k. layer.open-RegReset scene leaf k name typ clock reset init) (λ types leaf k. layer.reads-RegReset types leaf k name typ clock reset init))
      (layer.labels-RegReset name typ clock reset init) (reset_plain clock reset init) before behind b)

  pub is_memory : (s : Stmt) (memory : Memory) → s ≡ stmt.Mem memory → behind ≡ before + leaves_under entries memory.name.id → IsBody entries settable (s ∷ []) before behind []
  is_memory s memory e b =
      subst (λ z. IsBody entries settable (z ∷ []) before behind []) (sym e)
      (is_declared entries settable (stmt.Mem memory) (memory.name.id, A_memory memory) (idles (stmt.Mem memory) (λ scene leaf k. layer.open-Mem scene leaf k memory) (λ types leaf k. layer.reads-Mem types leaf k memory))
      (layer.labels-Mem memory) (memory_plain memory) before behind b)

  pub is_instance : (s : Stmt) (name target : Name) → s ≡ stmt.Inst name target → behind ≡ before + leaves_under entries name.id → IsBody entries settable (s ∷ []) before behind []
  is_instance s name target e b =
      subst (λ z. IsBody entries settable (z ∷ []) before behind []) (sym e)
      (is_declared entries settable (stmt.Inst name target) (name.id, An_instance target.id)
      (idles (stmt.Inst name target) (λ scene leaf k. layer.open-Inst scene leaf k name target) (λ types leaf k. layer.reads-Inst types leaf k name target)) (layer.labels-Inst name target) (instance_plain target.id) before behind b)

-- Statements that declare nothing

node_unset : (c : Component) (leaf : TypeLeaf) (e : Expr) → c.declaration.sort ≡ A_node e → is_set (c, leaf) ≡ false
node_unset c leaf e q = ap (λ s. not (is_source (flow_of s leaf.flip)) && not (is_clock leaf)) q

pub is_acting : (entries : Entries) (settable : List Bool) (s : Stmt) (does : Scene → Leaf → Option ℤ → Option ℤ) (surely : Scope → Leaf → Bool) (lives : Scope → Leaf → List (List Leaf)) (before : ℕ) (made : List GroundStmt)
    → Acts s does surely lives → labels s ≡ [] → ((n : Numbering) (types : Scope) → Knows n types entries → IsOneToOne n → Does n settable types does (surely types) (lives types) made)
    → IsBody entries settable (s ∷ []) before before made
is_acting entries settable s does surely lives before made acts e all = record {
  behind_it = λ m n view d at. at ∙ ap (leaves_before m) (sym (plus_none n) ∙ ap (λ i. n + i) (sym (ap length (no_label s e))));
  does = λ holder m table n has view t d at.
      let N : Numbering = numbering m table in
      let its = all N (type_in m) (knows_view holder m entries settable table has view t) (one_to_one m table) in
      record {
        sets = λ k j c leaf st set.
            let x : ℕ = leaves_before m k + j in
            let here = its.sets (leaf_of c leaf) x (view.flags x (c, leaf) (leaf_there m k j c leaf st.component st.listed) ∙ ap Some set) (number_at holder m entries settable has view k j c leaf st) in
            one_meant N x m s does surely lives acts (leaf_of c leaf) k n made (record { effects = here.effects; certain = here.certain; live = here.live });
        nodes = λ k j c leaf f st is_node clk.
            let x : ℕ = leaves_before m k + j in
            let flag : slice_get settable x ≡ Some false = view.flags x (c, leaf) (leaf_there m k j c leaf st.component st.listed) ∙ ap Some (node_unset c leaf f is_node) in
            subst (λ i. IsMeant N x (node_meant m f j k n i (is_certain x made)) made) (sym (ap length (no_label s e)))
            (node_none m f j k N x n (is_certain x made) made (alone_means N x made (its.others x (λ q. true≢false (sym (some_same (sym flag ∙ q)))))));
        shaped = its.shaped;
      };
}

pub is_connect : (entries : Entries) (settable : List Bool) (s : Stmt) (left right : Expr) (before : ℕ) (made : List GroundStmt) → s ≡ stmt.Connect left right → IsConnect entries settable left right made
    → IsBody entries settable (s ∷ []) before before made
is_connect entries settable s left right before made e all =
    subst (λ z. IsBody entries settable (z ∷ []) before before made) (sym e)
    (is_acting entries settable (stmt.Connect left right) (λ scene leaf last. left_in leaf last (set_by_connect scene left right))
    (λ types leaf. surely_names false (region_of types left) leaf || surely_names true (region_of types right) leaf)
    (λ types leaf. driven_from false leaf (tree_reads.mentions right types) (region_of types left) ++ driven_from true leaf (tree_reads.mentions left types) (region_of types right)) before made
    (record {
      left = λ scene leaf k n last. ap (λ (x : Opened). x.does n last) (layer.open-Connect scene leaf k left right);
      certain = λ types leaf k. ap (λ (x : OpenDriving). x.certain) (layer.reads-Connect types leaf k left right);
      live = λ types leaf k n. ap (λ (x : OpenDriving). x.live n) (layer.reads-Connect types leaf k left right);
    }) (layer.labels-Connect left right) all)

pub is_invalidate : (entries : Entries) (settable : List Bool) (s : Stmt) (target : Expr) (before : ℕ) (made : List GroundStmt) → s ≡ stmt.Invalidate target → IsInvalidate entries settable target made
    → IsBody entries settable (s ∷ []) before before made
is_invalidate entries settable s target before made e all =
    subst (λ z. IsBody entries settable (z ∷ []) before before made) (sym e)
    (is_acting entries settable (stmt.Invalidate target) (λ scene leaf last. left_in leaf last (set_by_invalidate scene target))
    (λ types leaf. surely_names false (region_of types target) leaf || surely_names true (region_of types target) leaf)
    (λ types leaf. driven_from false leaf [] (region_of types target) ++ driven_from true leaf [] (region_of types target)) before made
    (record {
      left = λ scene leaf k n last. ap (λ (x : Opened). x.does n last) (layer.open-Invalidate scene leaf k target);
      certain = λ types leaf k. ap (λ (x : OpenDriving). x.certain) (layer.reads-Invalidate types leaf k target);
      live = λ types leaf k n. ap (λ (x : OpenDriving). x.live n) (layer.reads-Invalidate types leaf k target);
    }) (layer.labels-Invalidate target) all)

pub is_skip : (entries : Entries) (settable : List Bool) (s : Stmt) (place : TextPlace) (before : ℕ) → s ≡ stmt.Skip place → IsBody entries settable (s ∷ []) before before []
is_skip entries settable s place before e =
    subst (λ z. IsBody entries settable (z ∷ []) before before []) (sym e)
    (is_acting entries settable (stmt.Skip place) (λ scene leaf last. last) (λ types leaf. false) (λ types leaf. []) before []
    (record {
      left = λ scene leaf k n last. ap (λ (x : Opened). x.does n last) (layer.open-Skip scene leaf k place);
      certain = λ types leaf k. ap (λ (x : OpenDriving). x.certain) (layer.reads-Skip types leaf k place);
      live = λ types leaf k n. ap (λ (x : OpenDriving). x.live n) (layer.reads-Skip types leaf k place);
    }) (layer.labels-Skip place)
    (λ n types knows once. record {
      sets = λ leaf x set is. record { effects = λ instant last h. refl; certain = refl; live = lives_none n };
      others = λ x unset. record { effects = λ instant last. refl; certain = refl; live = refl };
      shaped = refl;
    }))

-- Nodes

-- the values and the mentions of sources at their places
value_at : (sources : List Source) (instant : Instant) (j : ℕ) (s : Source) → slice_get sources j ≡ Some s → slice_get (map integer_of (source_values sources instant)) j ≡ Some (integer_of (value s.expr instant))
value_at [] instant j s e = absurd (none_some e)
value_at (t ∷ sources) instant zero s e = ap (λ (z : Source). Some (integer_of (value z.expr instant))) (some_same e)
value_at (t ∷ sources) instant (suc j) s e = value_at sources instant j s e

reads_at : (N : Numbering) (ms : List (List Leaf)) (sources : List Source) (j : ℕ) (s : Source) → ReadEach N ms sources → slice_get sources j ≡ Some s → SameLeaves N (get_or ms j []) (mentions s.expr)
reads_at N [] [] j s r e = absurd (none_some e)
reads_at N [] (t ∷ sources) j s r e = absurd r
reads_at N (n ∷ ms) [] j s r e = absurd r
reads_at N (n ∷ ms) (t ∷ sources) zero s r e = subst (λ (z : Source). SameLeaves N n (mentions z.expr)) (some_same e) r.0
reads_at N (n ∷ ms) (t ∷ sources) (suc j) s r e = reads_at N ms sources j s r.1 e

shape_at : (sources : List Source) (ls : List TypeLeaf) (table : Table) (j : ℕ) (s : Source) (leaf : TypeLeaf) → map (λ s. shape s.expr table) sources ≡ map (λ s. Some (said s)) sources → map said sources ≡ map leaf_shape ls
    → slice_get sources j ≡ Some s → slice_get ls j ≡ Some leaf → shape s.expr table ≡ Some (leaf_shape leaf)
shape_at [] ls table j s leaf a b e f = absurd (none_some e)
shape_at (t ∷ sources) [] table j s leaf a b e f = absurd (none_some f)
shape_at (t ∷ sources) (l ∷ ls) table zero s leaf a b e f =
    ap (λ (z : Source). shape z.expr table) (sym (some_same e)) ∙ (head_same a ∙ (ap Some (head_same b) ∙ ap (λ z. Some (leaf_shape z)) (some_same f)))
shape_at (t ∷ sources) (l ∷ ls) table (suc j) s leaf a b e f = shape_at sources ls table j s leaf (tail_same a) (tail_same b) e f
  where
    tail_same : {A : Type 0} {x y : A} {xs ys : List A} → (x ∷ xs) ≡ (y ∷ ys) → xs ≡ ys
    tail_same e = cc

lone_joined : (l : List Leaf) → tree_reads.joined (l ∷ []) ≡ l
lone_joined l = append-nil l

same_joined : (N : Numbering) (l : List Leaf) (ns : List ℕ) → SameLeaves N l ns → SameLives N (l ∷ []) (ns ∷ [])
same_joined N l ns s = record { none = refl; leaves = subst (λ a. SameLeaves N a (ns ++ [])) (sym (append-nil l)) (subst (SameLeaves N l) (sym (append-nil ns)) s) }

-- the source of a node's leaf
set_means : (N : Numbering) (x : ℕ) (m : TypedModule) (e : Expr) (j : ℕ) (made : List GroundStmt) (sources : List Source) (s : Source) → slice_get sources j ≡ Some s
    → ((instant : Instant) → HasShapes N.table instant → source_values sources instant ≡ tree.value e (scene_at m instant)) → ReadEach N (tree_reads.mentions e (type_in m)) sources → SetsTo made x s
    → IsMeant N x (set_to m e j (is_certain x made)) made
set_means N x m e j made sources s at values reads set = record {
  effects = λ instant last h.
      ap (option_map integer_of) (set.effects instant last) ∙ (sym (value_at sources instant j s at) ∙ ap (λ vs. slice_get (map integer_of vs) j) (values instant h));
  certain = refl;
  live = subst (SameLives N (set_to m e j true).lives) (sym set.live) (same_joined N (get_or (tree_reads.mentions e (type_in m)) j []) (mentions s.expr) (reads_at N (tree_reads.mentions e (type_in m)) sources j s reads at));
}

module _ (entries : Entries) (settable : List Bool) (name : Name) (e : Expr) (sources : List Source) (made : List GroundStmt) (node : IsNodeOf entries name.id sources made) (low : IsLowered entries e sources) where
  node_does : (holder : Module) (m : TypedModule) (table : Table) (n : ℕ) → HasTypes holder m → IsViewOf m entries settable → HasTable m table → (d : Component) → slice_get m.components n ≡ Some d → d.declaration.name ≡ name.id
      → d.declaration.sort ≡ A_node e → BodyDoes m table n (stmt.Node name e ∷ []) made
  node_does holder m table n has view t d there name_is sort = record {
    sets = λ k j c leaf st set.
        let x : ℕ = leaves_before m k + j in
        one_meant N x m (stmt.Node name e) _ _ _ (idles (stmt.Node name e) (λ scene leaf k. layer.open-Node scene leaf k name e) (λ types leaf k. layer.reads-Node types leaf k name e)) (leaf_of c leaf) k n made
        (alone_means N x made (is.others x (λ i l at clk. other k j c leaf st i l at (apart k c leaf st.component set (placed n 1 k)))));
    nodes = λ k j c leaf f st is_node clk.
        let x : ℕ = leaves_before m k + j in
        subst (λ i. IsMeant N x (node_meant m f j k n i (is_certain x made)) made) (sym one) (by k j c leaf f st is_node clk (placed n 1 k));
    shaped = is.shaped table (λ j leaf s at clk given. (
      shape_at sources (leaves d.typ) table j s leaf its.shapes told_is given (ap (λ typ. slice_get (leaves typ) j) (sym v.2) ∙ at),
      ap (λ i. table.leaf (i + j)) v.3 ∙ t.leaf (leaves_before m n + j) (d, leaf) (leaf_there m n j d leaf there (ap (λ typ. slice_get (leaves typ) j) (sym v.2) ∙ at)),
    ));
  }
    where
      N : Numbering
      N = numbering m table

      v : (w : Entry) × (lookup (nat_eq d.declaration.name) entries ≡ Some w) × (w.typ ≡ d.typ) × (w.first ≡ leaves_before m n)
      v = view.components n d there

      one : length (body_labels (stmt.Node name e ∷ [])) ≡ 1
      one = ap length (one_label (stmt.Node name e) (name.id, A_node e) (layer.labels-Node name e))

      its : AreSources N (λ instant. tree.value e (scene_at m instant)) (tree_reads.mentions e (type_in m)) sources
      its = low.are N (type_in m) (knows_view holder m entries settable table has view t)

      told_is : map said sources ≡ map leaf_shape (leaves d.typ)
      told_is =
          some_same (sym low.typed ∙ (ap (typed e) (known_types m entries settable view) ∙ has.nodes d e (from_place m.components n d there) sort))

      counted : length sources ≡ length (leaves d.typ)
      counted = sym (length-map sources said) ∙ (ap length told_is ∙ length-map (leaves d.typ) leaf_shape)

      is : IsNode v.0.typ v.0.first sources made
      is =
          let found : lookup (nat_eq name.id) entries ≡ Some v.0 = ap (λ i. lookup (nat_eq i) entries) (sym name_is) ∙ v.1 in
          subst (λ o. IsNodeWhere o sources made) found node

      -- a leaf that statements may set is none of a node
      apart : (k : ℕ) (c : Component) (leaf : TypeLeaf) → slice_get m.components k ≡ Some c → is_set (c, leaf) ≡ true → Place n 1 k → (k < n) ⊎ (n < k)
      apart k c leaf here set (is_before h) = inl h
      apart k c leaf here set (is_behind h) = inr (omega (arith, h))
      apart k c leaf here set (is_inside h i) =
          let same : k ≡ n = omega (arith, h, i) in
          let same_c : d ≡ c = some_same (sym there ∙ (ap (slice_get m.components) (sym same) ∙ here)) in
          absurd (true≢false (sym set ∙ node_unset c leaf e (ap (λ (z : Component). z.declaration.sort) (sym same_c) ∙ sort)))

      other : (k j : ℕ) (c : Component) (leaf : TypeLeaf) → Stands m k j c leaf → (i : ℕ) (l : TypeLeaf) → slice_get (leaves v.0.typ) i ≡ Some l → (k < n) ⊎ (n < k) → leaves_before m k + j ≢ v.0.first + i
      other k j c leaf st i l at side same =
          other_leaf m k n j i c d st.component there (place_within (leaves c.typ) j leaf st.listed) (place_within (leaves d.typ) i l (ap (λ typ. slice_get (leaves typ) i) (sym v.2) ∙ at)) side (same ∙ ap (λ z. z + i) v.3)

      by : (k j : ℕ) (c : Component) (leaf : TypeLeaf) (f : Expr) → Stands m k j c leaf → c.declaration.sort ≡ A_node f → is_clock leaf ≡ false → Place n 1 k
          → IsMeant N (leaves_before m k + j) (node_meant m f j k n 1 (is_certain (leaves_before m k + j) made)) made
      by k j c leaf f st is_node clk (is_before h) =
          let x : ℕ = leaves_before m k + j in
          subst (λ w. IsMeant N x w made) (sym (node_alone m f j k n 1 (is_certain x made) (among_before n 1 k h))) (alone_means N x made (is.others x (λ i l at clk. other k j c leaf st i l at (inl h))))
      by k j c leaf f st is_node clk (is_behind h) =
          let x : ℕ = leaves_before m k + j in
          subst (λ w. IsMeant N x w made) (sym (node_alone m f j k n 1 (is_certain x made) (among_behind n 1 k h))) (alone_means N x made (is.others x (λ i l at clk. other k j c leaf st i l at (inr (omega (arith, h))))))
      by k j c leaf f st is_node clk (is_inside h i) =
          let x : ℕ = leaves_before m k + j in
          let same : k ≡ n = omega (arith, h, i) in
          let same_c : d ≡ c = some_same (sym there ∙ (ap (slice_get m.components) (sym same) ∙ st.component)) in
          let same_e : e ≡ f = node_expr e f (sym sort ∙ (ap (λ (z : Component). z.declaration.sort) same_c ∙ is_node)) in
          let listed : slice_get (leaves d.typ) j ≡ Some leaf = ap (λ (z : Component). slice_get (leaves z.typ) j) same_c ∙ st.listed in
          let within : j < length sources = (let w = place_within (leaves d.typ) j leaf listed in let q = counted in omega (arith, w, q)) in
          let s = item_at sources j within in
          let first : v.0.first + j ≡ x = ap (λ z. z + j) (v.3 ∙ ap (leaves_before m) (sym same)) in
          subst (λ w. IsMeant N x w made) (sym (node_set m f j k n 1 (is_certain x made) (among_inside n 1 k h i)))
          (subst (λ g. IsMeant N x (set_to m g j (is_certain x made)) made) same_e
          (set_means N x m e j made sources s.0 s.1 its.values its.reads
          (subst (λ y. SetsTo made y s.0) first (is.sets j leaf s.0 (ap (λ typ. slice_get (leaves typ) j) v.2 ∙ listed) clk s.1))))
        where
          node_expr : (e f : Expr) → A_node e ≡ A_node f → e ≡ f
          node_expr e f q = cc

  pub is_node : (s : Stmt) (before behind : ℕ) → s ≡ stmt.Node name e → behind ≡ before + leaves_under entries name.id → IsBody entries settable (s ∷ []) before behind made
  is_node s before behind q b =
      subst (λ z. IsBody entries settable (z ∷ []) before behind made) (sym q) (record {
        behind_it = one_behind entries settable (stmt.Node name e) (name.id, A_node e) (layer.labels-Node name e) before behind b;
        does = λ holder m table n has view t d at.
            let its = subst (Declares m n) (one_label (stmt.Node name e) (name.id, A_node e) (layer.labels-Node name e)) d in
            node_does holder m table n has view t its.0.0 its.0.1 its.0.2 its.0.3;
      })
