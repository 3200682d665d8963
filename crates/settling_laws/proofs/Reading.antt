-- What a leaf of a well formed circuit reads is a leaf of the run, and so is what the edge takes.
use Rattle.std.proofs.Common.{◌≡◌, ℕ, ◌==◌, zero, suc, true, List, [], ◌∷◌, Option, Some, None, refl, sym, ap, ◌∙◌, subst, arith}
use Rattle.std.specs.Prelude.{Contains, is_some, slice_get}
use Rattle.fir_types.specs.declared.leaf.TypeLeaf.{TypeLeaf}
use Rattle.fir_types.specs.declared.leaf.PathStep.{PathStep}
use Rattle.fir_types.specs.declared.leaf.PathStep.TheVariants as step
use Rattle.fir_types.specs.declared.memory.Memory.{Memory}
use Rattle.fir_types.specs.Leaves.{leaves}
use Rattle.fir_tree.specs.declared.expr.Expr.{Expr}
use Rattle.fir_tree.specs.declared.scope.Fitted.{Fitted}
use Rattle.fir_meaning.specs.Components.{Design, TypedModule, Component, Leaf, FlatLeaf, A_memory, A_reset_register, design_of, module_at, component_named, type_in, flat}
use Rattle.fir_meaning.specs.Mentions.{joined, mentions}
use Rattle.fir_meaning.specs.MemoryPorts.{MemoryPort, memory_ports, port_named}
use Rattle.fir_meaning.specs.States.{Stands, IsLeafOf, leaf_of}
use Rattle.fir_meaning.specs.Loops.{live, ReadsLeaf, by_connect, by_node, by_port, read_goes_by, write_goes_by, IsRead, TakesFrom, by_live_connect, by_reset, by_init, by_write, by_read, TakesLeaves}
use Rattle.fir_meaning.specs.WellTyped.{known_in, typed, is_typed, is_condition}
use Rattle.fir_meaning.proofs.Ports.{component_found, found, same_number, one_later}
use Rattle.fir_meaning.proofs.Tracking.{none_some, some_same, Contains-flat_map}
use Rattle.circuit_laws.specs.WellFormed.{IsWellFormed, IsKnownModule}
use Rattle.circuit_laws.proofs.Reached.{known_module}
use Rattle.circuit_laws.proofs.TypedModules.{module_mentions}
use Rattle.settling_laws.specs.Typed.{is_typed_sort}
use Rattle.settling_laws.proofs.Typing.{both_true, block_typed_there, sort_typed_there}
use Rattle.settling_laws.proofs.Mentioning.{AllOf, condition_typed, block_reads, whole_reads}
use Rattle.fir_meaning.proofs.MemoryLeaves.{read_leaf, write_leaf}
use Rattle.fir_meaning.proofs.MemoryWays.{element_way}

is_there : {A : Type 0} (o : Option A) → is_some o ≡ true → (x : A) × (o ≡ Some x)
is_there (Some x) e = (x, refl)
is_there None e = cc

listed_at : {A : Type 0} (xs : List A) (k : ℕ) (x : A) → slice_get xs k ≡ Some x → Contains xs x
listed_at [] k x e = absurd (none_some e)
listed_at (y ∷ xs) zero x e = (0, omega arith, some_same y x e)
listed_at (y ∷ xs) (suc k) x e = one_later y xs x (listed_at xs k x e)

module _ (fitted : Fitted) (well : IsWellFormed fitted) where
  abbrev design : Design
  design = design_of fitted

  -- a leaf of the module at a path is one of the run
  abbrev IsLeafThere : List ℕ → TypedModule → Leaf → Type 0
  IsLeafThere path m y = IsLeafOf design (flat m path y)

  module _ (path : List ℕ) (m : TypedModule) (at : module_at design path ≡ Some m) where
    its : IsKnownModule fitted m
    its = known_module fitted well path m at

    mentioned_there : (e : Expr) → is_typed (known_in m) e ≡ true → AllOf (IsLeafThere path m) (joined (mentions e (type_in m)))
    mentioned_there e t = λ y among.
        let shapes = is_there (typed e (known_in m)) t in
        let told = module_mentions its.holder m its.typed e shapes.0 shapes.1 y among in
        record {
          path = path;
          m = m;
          c = told.0;
          leaf = told.2;
          stands = record { reached = at; declared = subst (λ n. component_named m n ≡ Some told.0) (sym (component_found m y.component told.0 told.1).0) told.1; listed = told.3 };
          is = ap (flat m path) told.4;
        }

  -- the leaf of a memory at this way
  memory_leaf : (path : List ℕ) (m : TypedModule) (c : Component) → module_at design path ≡ Some m → component_named m c.declaration.name ≡ Some c → (l : TypeLeaf) → Contains (leaves c.typ) l
      → (way : List PathStep) → l.path ≡ way → IsLeafThere path m (record { component = c.declaration.name; way = way })
  memory_leaf path m c at named l among way is = record {
    path = path;
    m = m;
    c = c;
    leaf = l;
    stands = record { reached = at; declared = named; listed = among };
    is = ap (λ (w : List PathStep). flat m path (record { component = c.declaration.name; way = w })) is;
  }

  -- what the live connects of a block mention
  live_there : (path : List ℕ) (m : TypedModule) (c : Component) (leaf : TypeLeaf) → Stands design path m c leaf → AllOf (IsLeafThere path m) (joined (live (type_in m) (leaf_of c leaf) c.declaration.block))
  live_there path m c leaf stands =
      block_reads (IsLeafThere path m) (known_in m) (type_in m) (mentioned_there path m stands.reached) (leaf_of c leaf) c.declaration.block (block_typed_there fitted well path m c stands.reached stands.declared)

  -- what a port's read goes by
  read_there : (path : List ℕ) (m : TypedModule) (c : Component) (memory : Memory) (port : MemoryPort) (name : ℕ) → module_at design path ≡ Some m → component_named m c.declaration.name ≡ Some c
      → c.declaration.sort ≡ A_memory memory → port_named memory name ≡ Some port → (by : ℕ) → Contains (read_goes_by port.mode) by
      → IsLeafThere path m (record { component = c.declaration.name; way = step.Field name ∷ step.Field by ∷ [] })
  read_there path m c memory port name at declared sort named by goes =
      let bundle = well.bundles.memories path m c memory at declared sort in
      let here' = found (λ q. q.name == name) (memory_ports memory) port named in
      let l = read_leaf memory bundle.0 port by here'.1 goes in
      memory_leaf path m c at declared l.0 (subst (λ ls. Contains ls l.0) (sym bundle.1) l.1) (step.Field name ∷ step.Field by ∷ [])
      (l.2 ∙ ap (λ n. step.Field n ∷ step.Field by ∷ []) (same_number port.name name here'.0))

  pub reads_leaf : (x y : FlatLeaf) → ReadsLeaf design x y → IsLeafOf design y
  reads_leaf x y (by_connect path m c leaf z stands driven mentioned) = live_there path m c leaf stands z mentioned
  reads_leaf x y (by_node path m c leaf e k ms z stands sort clock there mentioned among) =
      let typed_there = (its path m stands.reached).typed.nodes c e (component_found m c.declaration.name c stands.declared).1 sort in
      mentioned_there path m stands.reached e (ap is_some typed_there) z (Contains-flat_map (λ (ls : List Leaf). ls) (mentions e (type_in m)) ms z (listed_at (mentions e (type_in m)) k ms mentioned) among)
  reads_leaf x y (by_port path m c leaf memory port name field way stands sort latency turned is named by goes) = read_there path m c memory port name stands.reached stands.declared sort named by goes

  -- What the edge takes for a register's next value, and for what a memory holds and shows next.
  reset_typed : (path : List ℕ) (m : TypedModule) (c : Component) (clock reset init : Expr) → module_at design path ≡ Some m → component_named m c.declaration.name ≡ Some c
      → c.declaration.sort ≡ A_reset_register clock reset init → (is_condition (known_in m) reset ≡ true) × (is_typed (known_in m) init ≡ true)
  reset_typed path m c clock reset init at named sort =
      both_true (is_condition (known_in m) reset) (is_typed (known_in m) init) (sym (ap (is_typed_sort (known_in m)) sort) ∙ sort_typed_there fitted well path m c at named)

  written_there : (path : List ℕ) (m : TypedModule) (c : Component) (leaf : TypeLeaf) (memory : Memory) (port : ℕ) (way : List PathStep) (writer : MemoryPort) (by : List PathStep) → Stands design path m c leaf
      → IsRead c leaf memory port way → Contains (memory_ports memory) writer → Contains (write_goes_by writer.mode way) by
      → IsLeafThere path m (record { component = c.declaration.name; way = step.Field writer.name ∷ by })
  written_there path m c leaf memory port way writer by stands read among goes =
      let bundle = well.bundles.memories path m c memory stands.reached stands.declared read.sort in
      let element = element_way memory bundle.0 leaf port read.field way (subst (λ ls. Contains ls leaf) bundle.1 stands.listed) read.source read.is in
      let l = write_leaf memory bundle.0 writer element.0 element.1 by among (subst (λ w. Contains (write_goes_by writer.mode w) by) (sym element.2) goes) in
      memory_leaf path m c stands.reached stands.declared l.0 (subst (λ ls. Contains ls l.0) (sym bundle.1) l.1) (step.Field writer.name ∷ by) l.2

  takes_leaf : (x y : FlatLeaf) → TakesFrom design x y → IsLeafOf design y
  takes_leaf x y (by_live_connect path m c leaf z stands register mentioned) = live_there path m c leaf stands z mentioned
  takes_leaf x y (by_reset path m c leaf clock reset init z stands sort mentioned) =
      let t = reset_typed path m c clock reset init stands.reached stands.declared sort in
      mentioned_there path m stands.reached reset (condition_typed (typed reset (known_in m)) t.0) z mentioned
  takes_leaf x y (by_init path m c leaf clock reset init z stands sort mentioned) =
      let t = reset_typed path m c clock reset init stands.reached stands.declared sort in
      whole_reads (IsLeafThere path m) (leaf_of c leaf) (type_in m) c.declaration.name (mentions init (type_in m)) (mentioned_there path m stands.reached init t.1) z mentioned
  takes_leaf x y (by_write path m c leaf memory port way writer by stands read among goes) = written_there path m c leaf memory port way writer by stands read among goes
  takes_leaf x y (by_read path m c leaf memory name way port by stands read late named goes) = read_there path m c memory port name stands.reached stands.declared read.sort named by goes

  pub takes_leaves : TakesLeaves design
  takes_leaves = record { closed = takes_leaf }
