-- The whole body of a module.
use Rattle.std.proofs.Common.{◌≡◌, ℕ, zero, suc, ◌+◌, ◌<◌, ◌≤◌, Bool, true, false, List, [], ◌∷◌, map, length, slice_get, get_or, Some, None, option_map, refl, sym, ap, ◌∙◌, subst, arith, append-nil, ◌⊎◌, inl, inr, if◌then◌else◌}
use Rattle.std.specs.Prelude.{Contains}
use Rattle.std.proofs.lemmas.List.{length-map}
use Rattle.place_text.specs.First.{HasNone}
use Rattle.bit_words.specs.Values.{integer_of}
use Rattle.fir_types.specs.declared.port.Port.{Port}
use Rattle.fir_types.specs.Leaves.{leaves}
use Rattle.fir_tree.specs.declared.circuit.Circuit.{Circuit}
use Rattle.fir_tree.specs.declared.circuit.Module.{Module}
use Rattle.fir_tree.specs.declared.expr.Expr.{Expr}
use Rattle.fir_tree.specs.declared.scope.Scope.{Scope}
use Rattle.fir_tree.specs.declared.stmt.Stmt.{Stmt}
use Rattle.fir_names.specs.Scopes.{IsScope}
use Rattle.fir_names.specs.Faults.{IsFault}
use Rattle.fir_meaning.specs.Components.{TypedModule, Component, Declaration, Leaf, An_input, An_output, A_node, is_clock, told, declared_in_block, declared_by_port, declarations_of, type_in}
use Rattle.fir_meaning.specs.Loops as tree_loops
use Rattle.fir_meaning.specs.Mentions as tree_reads
use Rattle.fir_meaning.specs.States.{leaf_of}
use Rattle.fir_meaning.specs.WellTyped.{HasTypes}
use Rattle.circuit_laws.proofs.Modules as whole
use Rattle.circuit_laws.proofs.Scoping.{get-either}
use Rattle.ground_net.specs.declared.circuit.GroundLeaf.{GroundLeaf}
use Rattle.ground_net.specs.declared.circuit.GroundStmt.{GroundStmt}
use Rattle.ground_net.specs.Grounds.{joined}
use Rattle.ground_net.specs.Statements.{drives, is_certain, live}
use Rattle.ground_net.specs.Shapes.{Table}
use Rattle.net_of_circuit.specs.Numbers.{ModuleLeaf, module_leaves, scene_at, table_of, SameReads, leaves_before}
use Rattle.ground_exprs.specs.Numbers.{Numbering, SameLeaves}
use Rattle.ground_exprs.proofs.Members.{some_same, none_some, from_place, place_within}
use Rattle.ground_exprs.specs.Sources.{Entries}
use Rattle.ground_statements.specs.Declares.{body_labels}
use Rattle.ground_statements.specs.Bodies.{IsMeant, IsViewOf, HasTable, Stands, BodyDoes, IsBody, IsWholeBody, numbering, node_meant, set_to}
use Rattle.ground_statements.proofs.Labels.{label_of, declared_labels, whole_declares}
use Rattle.ground_statements.proofs.Lists.{LeafPlace, leaf_place, map_at, among_inside}
use Rattle.ground_statements.proofs.NodeStatements.{node_set}
use Rattle.ground_statements.proofs.Views.{got}

as_reads : (m : TypedModule) (table : Table) (leaves : List Leaf) (numbers : List ℕ) → SameLeaves (numbering m table) leaves numbers → SameReads m leaves numbers
as_reads m table leaves numbers s = record { only = s.only; all = s.all }

port_is_no_node : (body : List Stmt) (ports : List Port) (k : ℕ) (d : Declaration) (e : Expr) → slice_get (map (declared_by_port body) ports) k ≡ Some d → d.sort ≡ A_node e → ⊥
port_is_no_node body [] k d e at sort = none_some at
port_is_no_node body (port ∷ ports) zero d e at sort = by port.output (ap (λ (z : Declaration). z.sort) (some_same at) ∙ sort)
  where
    by : (b : Bool) → (if b then An_output else An_input) ≡ A_node e → ⊥
    by true q = cc
    by false q = cc
port_is_no_node body (port ∷ ports) (suc k) d e at sort = port_is_no_node body ports k d e at sort

module _ (circuit : Circuit) (scope : Scope) (scoped : IsScope circuit scope) (fine : HasNone (IsFault circuit)) (holder : Module) (within : Contains circuit.modules holder) (m : TypedModule) (has : HasTypes holder m)
    (entries : Entries) (settable : List Bool) (view : IsViewOf m entries settable) (listed : List GroundLeaf) (t : HasTable m (table_of listed)) (before behind : ℕ) (made : List GroundStmt)
    (at : before ≡ leaves_before m (length holder.ports)) (body : IsBody entries settable holder.body before behind made) where
  abbrev N : Numbering
  N = numbering m (table_of listed)

  does : BodyDoes m (table_of listed) (length holder.ports) holder.body made
  does = body.does holder m (table_of listed) (length holder.ports) has view t (whole_declares holder m has.components) at

  -- the declaration of a component
  declared : (k : ℕ) (c : Component) → slice_get m.components k ≡ Some c → slice_get (declarations_of holder) k ≡ Some c.declaration
  declared k c e = ap (λ ds. slice_get ds k) (sym has.components) ∙ map_at (λ c. c.declaration) m.components k c e

  stands : (x : ℕ) (y : ModuleLeaf) (p : LeafPlace m.components x y) → Stands m p.k p.j y.0 y.1
  stands x y p = record { component = p.component; listed = p.listed }

  -- a node is declared in the body
  node_inside : (k : ℕ) (c : Component) (e : Expr) → slice_get m.components k ≡ Some c → c.declaration.sort ≡ A_node e → (length holder.ports ≤ k) × (k < length holder.ports + length (body_labels holder.body))
  node_inside k c e there sort = by (get-either (map (declared_by_port holder.body) holder.ports) (declared_in_block (map told holder.body)) k c.declaration (declared k c there)) where
    by : (slice_get (map (declared_by_port holder.body) holder.ports) k ≡ Some c.declaration)
        ⊎ ((i : ℕ) × (k ≡ length (map (declared_by_port holder.body) holder.ports) + i) × (slice_get (declared_in_block (map told holder.body)) i ≡ Some c.declaration))
        → (length holder.ports ≤ k) × (k < length holder.ports + length (body_labels holder.body))
    by (inl l) = absurd (port_is_no_node holder.body holder.ports k c.declaration e l sort)
    by (inr r) =
        let count : length (map (declared_by_port holder.body) holder.ports) ≡ length holder.ports = length-map holder.ports (declared_by_port holder.body) in
        let all : length (declared_in_block (map told holder.body)) ≡ length (body_labels holder.body) =
        sym (length-map (declared_in_block (map told holder.body)) label_of) ∙ ap length (declared_labels holder.body (map (λ t. t.itself) (map told holder.body))) in
        let less : r.0 < length (declared_in_block (map told holder.body)) = place_within (declared_in_block (map told holder.body)) r.0 c.declaration r.2 in
        (omega (arith, r.1, count), omega (arith, r.1, count, all, less))

  -- a node's leaf
  node_of : (x : ℕ) (y : ModuleLeaf) (e : Expr) (k : ℕ) → slice_get (module_leaves m) x ≡ Some y → y.0.declaration.sort ≡ A_node e → is_clock y.1 ≡ false → slice_get (leaves y.0.typ) k ≡ Some y.1
      → IsMeant N x (set_to m e k (is_certain x made)) made
  node_of x y e k there sort clk here =
      let p = leaf_place m x y there in
      let i = node_inside p.k y.0 e p.component sort in
      let same : p.j ≡ k = has.ways y.0 p.j k y.1 y.1 (from_place m.components p.k y.0 p.component) p.listed here refl in
      let number : leaves_before m p.k + k ≡ x = ap (λ j. leaves_before m p.k + j) (sym same) ∙ sym p.number in
      subst (λ w. IsMeant N x w made) (node_set m e k p.k (length holder.ports) (length (body_labels holder.body)) (is_certain x made) (among_inside (length holder.ports) (length (body_labels holder.body)) p.k i.0 i.1))
      (subst (λ z. IsMeant N z (node_meant m e k p.k (length holder.ports) (length (body_labels holder.body)) (is_certain z made)) made) number
      (does.nodes p.k k y.0 y.1 e (record { component = p.component; listed = here }) sort clk))

  pub whole_body : IsWholeBody m listed made
  whole_body = record {
    values = λ x y instant there set h.
        let p = leaf_place m x y there in
        let b = does.sets p.k p.j y.0 y.1 (stands x y p) set in
        ap (λ z. option_map integer_of (drives instant z made)) p.number
        ∙ (b.effects instant None h
        ∙ whole.module_leaves circuit scope scoped fine holder within p.k y.0.declaration (declared p.k y.0 p.component) (leaf_of y.0 y.1) refl (scene_at m instant) None);
    reads = λ x y there set.
        let p = leaf_place m x y there in
        let b = does.sets p.k p.j y.0 y.1 (stands x y p) set in
        subst (λ z. SameReads m (tree_reads.joined (tree_loops.live (type_in m) (leaf_of y.0 y.1) y.0.declaration.block)) (joined (live z made))) (sym p.number)
        (as_reads m (table_of listed) (tree_reads.joined (tree_loops.live (type_in m) (leaf_of y.0 y.1) y.0.declaration.block)) (joined (live (leaves_before m p.k + p.j) made))
        (subst (λ ls. SameLeaves N (tree_reads.joined ls) (joined (live (leaves_before m p.k + p.j) made)))
        (whole.module_reads circuit scope scoped fine holder within p.k y.0.declaration (declared p.k y.0 p.component) (leaf_of y.0 y.1) refl (type_in m)) b.live.leaves));
    nodes = λ x y e k instant there sort clk here h. (node_of x y e k there sort clk here).effects instant None h;
    node_reads = λ x y e k mentioned there sort clk here is.
        as_reads m (table_of listed) mentioned (joined (live x made))
        (subst (λ l. SameLeaves N l (joined (live x made))) (append-nil (get_or (tree_reads.mentions e (type_in m)) k []) ∙ got (tree_reads.mentions e (type_in m)) k [] mentioned is)
        (node_of x y e k there sort clk here).live.leaves);
    shaped = does.shaped;
  }
