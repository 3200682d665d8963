-- A circuit that the checks let pass is well typed.
use Rattle.std.proofs.Common.{◌≡◌, ℕ, zero, suc, ◌+◌, ◌==◌, ◌≤◌, Bool, true, false, cond, List, [], ◌∷◌, ◌++◌, map, zip, fold, length, get_or, replicate, Option, Some, None, refl, sym, ap, ap₂, ◌∙◌, subst, arith, slice_get, ⊎_elim, append-nil, length-append}
use Rattle.std.proofs.lemmas.List.Elements.{Contains-append_cases}
use Rattle.std.specs.Prelude.{is_some, find, option_map, sum_by, Contains}
use Rattle.std.specs.List.{AllZip, flat_map}
use Rattle.std.proofs.lemmas.Bool.{eqb-false}
use Rattle.std.proofs.lemmas.List.{length-replicate}
use Rattle.std.proofs.lemmas.Option.{get_or_from_slice_get}
use Rattle.fir_types.specs.declared.fir_type.FirType.{FirType}
use Rattle.fir_types.specs.declared.name.Name.{Name}
use Rattle.fir_types.specs.declared.port.Port.{Port}
use Rattle.fir_types.specs.Leaves.{leaves}
use Rattle.fir_types.specs.Memories.{element_of}
use Rattle.fir_types.specs.Bundles.{memory_of}
use Rattle.fir_types.specs.Equivalence.{Equivalent}
use Rattle.fir_types.proofs.Ways.{same_ways}
use Rattle.fir_types.proofs.Masks.{straight}
use Rattle.prim_ops.specs.declared.widths.Width.{Width}
use Rattle.prim_ops.specs.declared.widths.Width.TheVariants.{Bits}
use Rattle.fir_tree.specs.declared.circuit.Circuit.{Circuit}
use Rattle.fir_tree.specs.declared.circuit.Module.{Module}
use Rattle.fir_tree.specs.declared.scope.Fitted.{Fitted}
use Rattle.fir_tree.specs.Parts as parts
use Rattle.type_check.specs.Texts.{twice_in}
use Rattle.type_check.specs.Statements as checking
use Rattle.width_rules.specs.Solutions.{IsWidth}
use Rattle.width_rules.specs.declared.rule.Formula.{Formula}
use Rattle.width_rules.specs.Circuits.{memory_slots, WithPorts, modules_from, all_open, bodies_from, rules_in, open_ports}
use Rattle.width_rules.proofs.Bounds.{Each}
use Rattle.width_rules.proofs.Ports.{modules_open, module_places}
use Rattle.type_filling.specs.Filling.{filled}
use Rattle.width_fit.specs.Judging.{Solved, told_of, slot_width}
use Rattle.fir_meaning.specs.Components.{Declaration, Component, TypedModule, declarations_of, with_types, modules_of}
use Rattle.fir_meaning.specs.WellTyped.{Known, known_in, HasTypes}
use Rattle.fir_names.specs.Extents.{uses_in, instances_in, declared_in}
use Rattle.fir_names.specs.Parts.{Part, stmt_part}
use Rattle.fir_names.specs.Parts as named
use Rattle.fir_names.specs.Scopes.{texts, FirstOf, Means}
use Rattle.fir_names.specs.Faults.{name_twice}
use Rattle.fir_names.proofs.Graphs.{some_same}
use Rattle.fir_names.proofs.Agreement.{declares_its_names}
use Rattle.circuit_laws.specs.Names.{Every}
use Rattle.circuit_laws.specs.Designs.{component_of}
use Rattle.circuit_laws.proofs.Scoping.{Distinct, every_named, named_within, distinct_behind, distinct-left}
use Rattle.circuit_laws.proofs.Typed.{named_itself}
use Rattle.circuit_laws.proofs.Pieces.{all_true, narrow_leaves}
use Rattle.fitted_laws.specs.Shaped.{is_shaped_module}
use Rattle.fitted_laws.specs.Accepted.{IsAccepted}
use Rattle.fitted_laws.specs.OneBit.{ask_one_bit}
use Rattle.fitted_laws.specs.Choices.{choose_in}
use Rattle.fitted_laws.proofs.Steps.{left_empty, right_empty, all_empty, IsGood}
use Rattle.fitted_laws.proofs.Once.{differ_places}
use Rattle.fitted_laws.proofs.Known.{Marks, Marked, RuleMarked}
use Rattle.fitted_laws.proofs.Walking.{Begins, Solves, rule_of, NamedAs, TargetsIn}
use Rattle.fitted_laws.proofs.Ruling.{free_marks, least_solves}
use Rattle.fitted_laws.proofs.Stored.{HasGoodPorts, instance_there, instance_good}
use Rattle.fitted_laws.proofs.Filling.{filled_equivalent}
use Rattle.fitted_laws.proofs.Held.{unclocked, read_silent, port_itself, element_passive}
use Rattle.fitted_laws.proofs.Memories.{memory_filled}
use Rattle.fitted_laws.proofs.Showing.{elements_straight}
use Rattle.fitted_laws.proofs.Declared.{IsDeclared, straight_ways, filled_straight}
use Rattle.fitted_laws.proofs.OneBit.{are_fit, body_both}
use Rattle.fitted_laws.proofs.Statements.{Instances}
use Rattle.fitted_laws.proofs.Modules.{ports_walk, IsFaultless, IsModule, ModulesCome, modules_come}
use Rattle.fir_names.proofs.Members.{Contains-first, Contains-later, Contains-none, Contains-one, Contains-get, Contains-flat_map}

none_contained : {X : Type 0} (xs : List X) → ((x : X) → ¬ (Contains xs x)) → xs ≡ []
none_contained [] h = refl
none_contained (x ∷ xs) h = absurd (h x (0, omega arith, refl))

every_of : {X : Type 0} (P : X → Type 0) (xs : List X) → ((x : X) → Contains xs x → P x) → Every X P xs
every_of P [] h = tt
every_of P (x ∷ xs) h = (h x (Contains-first xs), every_of P xs (λ y i. h y (Contains-later x xs i)))

-- Modules by names

zip_in : (S : Name → ℕ → Type 0) (ns : List Name) (ks : List ℕ) → AllZip S ns ks → (n : Name) → Contains ns n → (k : ℕ) × S n k
zip_in S [] ks z n i = absurd (Contains-none i)
zip_in S (m ∷ ns) [] z n i = absurd z
zip_in S (m ∷ ns) (k ∷ ks) z n i = ⊎_elim (λ l. (k, subst (λ x. S x k) (sym (Contains-one l)) z.0)) (λ r. zip_in S ns ks z.1 n r) (Contains-append_cases (m ∷ []) ns _ i)

in_flat : {X Y : Type 0} (f : X → List Y) (xs : List X) (x : X) (y : Y) → Contains xs x → Contains (f x) y → Contains (flat_map f xs) y
in_flat f xs x y i j = Contains-flat_map f xs x y i j

-- the first module of a name is found
first_module : (modules : List Module) (name k : ℕ) → FirstOf (texts (map (λ m. m.name) modules)) name k → is_some (parts.instance_in modules name) ≡ true
first_module [] name k f = absurd (let e = f.has in cc)
first_module (m ∷ modules) name k f = by (m.name.id == name) refl k f (λ k f. first_module modules name k f) where
  rest : (k : ℕ) → FirstOf (texts (map (λ m. m.name) (m ∷ modules))) name (suc k) → FirstOf (texts (map (λ m. m.name) modules)) name k
  rest k f = record { has = f.has; first = λ earlier below is. f.first (suc earlier) (omega arith) is }

  by : (b : Bool) → (m.name.id == name) ≡ b → (k : ℕ) → FirstOf (texts (map (λ m. m.name) (m ∷ modules))) name k
      → ((k : ℕ) → FirstOf (texts (map (λ m. m.name) modules)) name k → is_some (parts.instance_in modules name) ≡ true) → is_some (parts.instance_in (m ∷ modules) name) ≡ true
  by true q k f more = ap (λ b. is_some (option_map parts.instance_part (cond b (Some m) (find (λ x. x.name.id == name) modules)))) q
  by false q zero f more = absurd (eqb-false m.name.id name q (some_same f.has))
  by false q (suc k) f more = ap (λ b. is_some (option_map parts.instance_part (cond b (Some m) (find (λ x. x.name.id == name) modules)))) q ∙ more k (rest k f)

pub named_at : (modules : List Module) (k x : ℕ) → slice_get (texts (map (λ m. m.name) modules)) k ≡ Some x → (holder : Module) × (slice_get modules k ≡ Some holder)
named_at [] k x e = cc
named_at (h ∷ modules) zero x e = (h, refl)
named_at (h ∷ modules) (suc k) x e = named_at modules k x e

module _ (fitted : Fitted) (ok : IsAccepted fitted) where
  abbrev pub circuit : Circuit
  circuit = fitted.checked.resolved

  abbrev pub modules : List Module
  modules = circuit.modules

  abbrev pub with_ports : List WithPorts
  with_ports = modules_from 0 modules

  abbrev pub ports : ℕ
  ports = all_open modules

  abbrev pub ws : List Width
  ws = ok.fit.widths

  abbrev pub all : Solved
  all = record { widths = ok.fit.widths; rules = (rules_in circuit).rules }

  pub bounded : (k : ℕ) → IsWidth (get_or ws k (Bits 0))
  bounded = ok.fit.least.assignment.bounded

  -- Types have no fault

  type_faults : flat_map (λ (m : Module). (checking.module_walk modules m []).faults) modules ≡ []
  type_faults = none_contained (checking.faults_of circuit) ok.types

  faults_in : (m : Module) → Contains modules m → (checking.module_walk modules m []).faults ≡ []
  faults_in m i = all_empty (λ (m : Module). (checking.module_walk modules m []).faults) modules m type_faults i

  -- what the module of an instance means
  pub target_means : (m : Module) → Contains modules m → (target : Name) → Contains (instances_in m) target → (number : ℕ) × Means circuit target.id number
  target_means m i target j = zip_in (λ target number. Means circuit target.id number) (flat_map instances_in modules) fitted.checked.scope.targets ok.scope.targets target (in_flat instances_in modules m target i j)

  targets_in : (m : Module) → Contains modules m → TargetsIn modules (instances_in m)
  targets_in m i = every_of (λ (target : Name). is_some (parts.instance_in modules target.id) ≡ true) (instances_in m) (λ target j.
      let means = target_means m i target j in
      first_module modules target.id means.0 means.1)

  faultless : (m : Module) → Contains modules m → IsFaultless all modules with_ports ports bounded m
  faultless m i = record {
    types = faults_in m i;
    names = named_within modules m i (every_named (flat_map uses_in modules) fitted.checked.scope.uses ok.scope.uses);
    targets = targets_in m i;
    shaped = all_true is_shaped_module modules m ok.shaped i;
  }

  -- Ports

  port_names : (ps : List Port) → (named.in_turn (map (λ (port : Port). named.declares port.name) ps)).declares ≡ map (λ (p : Port). p.name) ps
  port_names [] = refl
  port_names (p ∷ ps) = ap (λ l. p.name ∷ l) (port_names ps)

  ports_once : (ps : List Port) (tk : _) → (ports_walk ps tk).faults ≡ [] → Every Port (λ p. twice_in p.typ ≡ []) ps
  ports_once [] tk e = tt
  ports_once (p ∷ ps) tk e =
      (left_empty (twice_in p.typ) [] (left_empty (checking.port_walk p tk).faults _ e), ports_once ps (checking.port_walk p tk).known (right_empty (checking.port_walk p tk).faults _ e))

  good_ports : (m : Module) → Contains modules m → HasGoodPorts m
  good_ports m i =
      let body : Part = named.in_turn (map stmt_part m.body) in
      let first : Part = named.in_turn (map (λ (port : Port). named.declares port.name) m.ports) in
      let distinct : Distinct (first.declares ++ body.declares) = subst Distinct (sym (declares_its_names m)) (distinct_behind [] (declared_in m) (λ name t. ok.names _ (name_twice m name i t))) in
      record {
        names = subst Distinct (port_names m.ports) (distinct-left first.declares body.declares distinct);
        once = ports_once m.ports [] (left_empty (ports_walk m.ports []).faults _ (faults_in m i));
      }

  pub instances : Instances all modules with_ports ports bounded
  instances name part e =
      let r = instance_there modules name 0 part e in (
        ap (λ c. c.part) r.sized_is ∙ r.part_is,
        λ ms b. subst (IsGood (Marked ms)) (sym r.sized_is) (instance_good ms ports r.from r.holder (good_ports r.holder r.among) b (let w : r.from + open_ports r.holder.ports ≤ all_open modules = omega (arith, r.within) in w)),
      )

  -- All modules

  abbrev first_marks : Marks
  first_marks = replicate ports None

  begins : Begins ports first_marks
  begins x below = free_marks [] 0 ports refl x (omega arith) (omega (arith, below))

  come : ModulesCome all modules with_ports ports bounded instances modules 0 ports first_marks fitted.checked.scope.reached
  come = modules_come all modules with_ports ports bounded instances modules (every_of (IsFaultless all modules with_ports ports bounded) modules faultless) 0 ports first_marks
      (length-replicate ports None) begins (omega arith) fitted.checked.scope.reached

  get-none : (k x : ℕ) (f : Formula) → ◌≡◌ {A = Option (Option Formula)} (slice_get (replicate k None) x) (Some (Some f)) → ⊥
  get-none zero x f e = cc
  get-none (suc k) zero f e = cc
  get-none (suc k) (suc x) f e = get-none k x f e

  solves : Solves ws (first_marks ++ come.marks)
  solves =
      let places = flat_map module_places modules in
      let open' : length places ≡ ports = modules_open modules in
      let bodies : bodies_from with_ports (length places) with_ports ≡ bodies_from with_ports ports with_ports = ap (λ n. bodies_from with_ports n with_ports) open' in
      let counted : length (first_marks ++ come.marks) ≡ length (rules_in circuit).places
      = come.counted ∙ ap₂ (λ a b. a + b) (sym open') (ap (λ b. length b.places) (sym bodies)) ∙ sym (length-append places (bodies_from with_ports (length places) with_ports).places) in
      least_solves (rules_in circuit).rules (length (rules_in circuit).places) ws (first_marks ++ come.marks) ok.fit.least counted
      (subst (λ b. Each (RuleMarked (first_marks ++ come.marks)) b.rules) (sym bodies) come.marked)
      (λ x f e. subst (λ b. Contains b.rules (rule_of x f)) (sym bodies) (⊎_elim (λ l. absurd (get-none ports x f l)) (λ r. r) (come.ruled x f e)))

  no_width_fault : (told_of fitted.checked ws).faults ≡ []
  no_width_fault = none_contained (told_of fitted.checked ws).faults ok.fit.none

  declared_is : fitted.declared ≡ (told_of fitted.checked ws).declared
  declared_is = ok.fit.fitted_is.declared

  -- Counting

  abbrev count : List Module → ℕ
  count [] = 0
  count (m ∷ rest) = length (declarations_of m) + count rest

  summed : (a : ℕ) (ms : List Module) → fold (λ a m. a + length (declarations_of m)) a ms ≡ a + count ms
  summed a [] = omega arith
  summed a (m ∷ ms) = summed (a + length (declarations_of m)) ms ∙ (let e : (a + length (declarations_of m)) + count ms ≡ a + (length (declarations_of m) + count ms) = omega arith in e)

  pub all_declared : length fitted.declared ≡ sum_by (λ holder. length (declarations_of holder)) modules
  all_declared = ap length declared_is ∙ come.declared ∙ (let e : count modules ≡ 0 + count modules = omega arith in e) ∙ sym (summed 0 modules)

  -- Modules that main reaches

  pub reached_module : (k : ℕ) (holder : Module) (m : TypedModule) → slice_get modules k ≡ Some holder → slice_get (modules_of fitted) k ≡ Some m
      → slice_get fitted.checked.scope.reached k ≡ Some true → (K : Known) → IsModule all modules with_ports ports bounded instances holder m K (slice_get with_ports k)
  reached_module k holder m e at flag K =
      come.each solves no_width_fault k holder m e []
      (ap (λ l. slice_get (with_types modules l) k) (append-nil (told_of fitted.checked ws).declared ∙ sym declared_is) ∙ at)
      (get_or_from_slice_get fitted.checked.scope.reached k true false flag) K

  zip_named : (K : Known) (ds : List Declaration) (ts : List FirType) → length ds ≡ length ts → ((c : Component) → Contains (map component_of (zip ds ts)) c → K c.declaration.name ≡ Some c.typ) → NamedAs K ds ts
  zip_named K [] [] e h = tt
  zip_named K [] (t ∷ ts) e h = absurd (omega (arith, e))
  zip_named K (d ∷ ds) [] e h = absurd (omega (arith, e))
  zip_named K (d ∷ ds) (t ∷ ts) e h = (h (component_of (d, t)) (Contains-first (map component_of (zip ds ts))), zip_named K ds ts (omega (arith, e)) (λ c i. h c (Contains-later (component_of (d, t)) (map component_of (zip ds ts)) i)))

  zip_at : (S : Declaration → FirType → Type 0) (ds : List Declaration) (ts : List FirType) → AllZip S ds ts → (c : Component) → Contains (map component_of (zip ds ts)) c → S c.declaration c.typ
  zip_at S [] ts z c i = absurd (Contains-none i)
  zip_at S (d ∷ ds) [] z c i = absurd z
  zip_at S (d ∷ ds) (t ∷ ts) z c i = ⊎_elim (λ l. subst (λ (x : Component). S x.declaration x.typ) (sym (Contains-one l)) z.0) (λ r. zip_at S ds ts z.1 c r) (Contains-append_cases (component_of (d, t) ∷ []) (map component_of (zip ds ts)) _ i)

  zip_declarations : (ds : List Declaration) (ts : List FirType) → length ds ≡ length ts → map (λ (c : Component). c.declaration) (map component_of (zip ds ts)) ≡ ds
  zip_declarations [] ts e = refl
  zip_declarations (d ∷ ds) [] e = absurd (omega (arith, e))
  zip_declarations (d ∷ ds) (t ∷ ts) e = ap (λ l. d ∷ l) (zip_declarations ds ts (omega (arith, e)))

  contained_at : (ms : List TypedModule) (k : ℕ) (m : TypedModule) → slice_get ms k ≡ Some m → Contains ms m
  contained_at ms k m e = Contains-get ms k m e

  named_in : (k : ℕ) (holder : Module) (m : TypedModule) → slice_get (modules_of fitted) k ≡ Some m → IsModule all modules with_ports ports bounded instances holder m (known_in m) (slice_get with_ports k) → (t : List FirType)
      → m.components ≡ map component_of (zip (declarations_of holder) t) → length (declarations_of holder) ≡ length t → NamedAs (known_in m) (declarations_of holder) t
  named_in k holder m at im t is counted =
      zip_named (known_in m) (declarations_of holder) t counted (λ c i.
      ap (option_map (λ (x : Component). x.typ)) (named_itself fitted ok.names m (contained_at (modules_of fitted) k m at) c (subst (λ list. Contains list c) (sym is) i)))

  -- what is known of each component of a module that main reaches
  pub component_declared : (k : ℕ) (holder : Module) (m : TypedModule) → slice_get modules k ≡ Some holder → slice_get (modules_of fitted) k ≡ Some m
      → slice_get fitted.checked.scope.reached k ≡ Some true → (c : Component) → Contains m.components c → IsDeclared ws with_ports (known_in m) c.declaration c.typ
  component_declared k holder m e at flag c among =
      let im = reached_module k holder m e at flag (known_in m) in
      zip_at (IsDeclared ws with_ports (known_in m)) (declarations_of holder) im.types (im.well (named_in k holder m at im im.types im.is im.counted)).1 c
      (subst (λ list. Contains list c) im.is among)

  body_fit : (k : ℕ) (holder : Module) (m : TypedModule) → slice_get modules k ≡ Some holder → slice_get (modules_of fitted) k ≡ Some m
      → slice_get fitted.checked.scope.reached k ≡ Some true → are_fit (known_in m) holder.body ≡ true
  body_fit k holder m e at flag =
      let im = reached_module k holder m e at flag (known_in m) in
      (im.well (named_in k holder m at im im.types im.is im.counted)).0

  pub module_asks : (k : ℕ) (holder : Module) (m : TypedModule) → slice_get modules k ≡ Some holder → slice_get (modules_of fitted) k ≡ Some m
      → slice_get fitted.checked.scope.reached k ≡ Some true → ask_one_bit (known_in m) holder.body ≡ true
  module_asks k holder m e at flag = (body_both (known_in m) holder.body (body_fit k holder m e at flag)).1

  pub module_chooses : (k : ℕ) (holder : Module) (m : TypedModule) → slice_get modules k ≡ Some holder → slice_get (modules_of fitted) k ≡ Some m
      → slice_get fitted.checked.scope.reached k ≡ Some true → choose_in (known_in m) holder.body ≡ true
  module_chooses k holder m e at flag = (body_both (known_in m) holder.body (body_fit k holder m e at flag)).2

  pub module_typed : (k : ℕ) (holder : Module) (m : TypedModule) → slice_get modules k ≡ Some holder → slice_get (modules_of fitted) k ≡ Some m
      → slice_get fitted.checked.scope.reached k ≡ Some true → HasTypes holder m
  module_typed k holder m e at flag =
      let im = reached_module k holder m e at flag (known_in m) in
      let each : (c : Component) → Contains m.components c → IsDeclared ws with_ports (known_in m) c.declaration c.typ = component_declared k holder m e at flag in
      record {
        components = ap (map (λ (c : Component). c.declaration)) im.is ∙ zip_declarations (declarations_of holder) im.types im.counted;
        statements = (body_both (known_in m) holder.body (body_fit k holder m e at flag)).0;
        nodes = λ c x among s. (each c among).node x s;
        passive = λ c x leaf among s i. (each c among).passive x s leaf i;
        narrow = λ c leaf among i. narrow_leaves c.typ (each c among).narrow leaf i;
        parts = λ c among. (each c among).narrow;
        ways = λ c j k a b among. differ_places (leaves c.typ) (each c among).ways j k a b;
        elements = λ c memory leaf among s none i. narrow_leaves (element_of memory) ((each c among).elements memory s) leaf i;
        held = λ c leaf among r i. let g = (each c among).register r in unclocked g.1 g.2 leaf i;
        held_passive = λ c leaf among r i. let g = (each c among).register r in straight_ways ws with_ports (leaves g.0) (leaves c.typ) (same_ways g.1) (straight g.0 g.3) leaf i;
        read_data = λ c memory leaf among s i f.
            let is = (each c among).memory memory s in
            let q : Equivalent (memory_of memory) c.typ = subst (Equivalent (memory_of memory)) (sym is.2) (filled_equivalent (memory_of memory) (map (slot_width ws) (memory_slots memory is.0))) in
            read_silent memory c.typ ((each c among).stored memory s) q (same_ways q) leaf i f;
        port_names = λ c memory port among s i. port_itself memory ((each c among).stored memory s) port i;
        stored_passive = λ c memory element leaf among s at i.
            let is = (each c among).memory memory s in
            let faultless = (each c among).stored memory s in
            let vs : List Width = map (slot_width ws) is.0 in
            elements_straight memory faultless (filled (element_of memory) vs) element (filled_straight ws with_ports (element_of memory) vs (element_passive memory faultless))
            (sym at.bundle ∙ ap leaves (is.2 ∙ memory_filled ws memory is.0 is.1)) at.unported leaf i;
      }
