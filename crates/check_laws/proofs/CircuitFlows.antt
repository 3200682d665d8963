-- The flows of a circuit's references.
use Rattle.std.proofs.Common.{◌≡◌, ℕ, ◌==◌, Bool, true, false, cond, zero, suc, List, [], ◌∷◌, ◌++◌, map, Some, refl, sym, ap, ◌∙◌, subst, append_assoc, append-nil, arith}
use Rattle.std.specs.Prelude.{Contains, is_some, find, option_map, slice_get, get_or}
use Rattle.std.specs.List.{AllZip, flat_map}
use Rattle.std.proofs.lemmas.Bool.{eqb-false}
use Rattle.place_text.specs.First.{HasNone}
use Rattle.fir_types.specs.declared.name.Name.{Name}
use Rattle.fir_types.specs.declared.port.Port.{Port}
use Rattle.fir_tree.specs.declared.circuit.Circuit.{Circuit}
use Rattle.fir_tree.specs.declared.circuit.Module.{Module}
use Rattle.fir_tree.specs.declared.scope.Scope.{Scope}
use Rattle.fir_names.specs.Extents.{instances_in}
use Rattle.fir_names.specs.Parts as parts
use Rattle.fir_names.specs.Scopes.{texts, FirstOf, Means, IsScope}
use Rattle.fir_names.proofs.Agreement.{has_its_instances}
use Rattle.fir_tree.specs.declared.part.Flow.{Flow}
use Rattle.fir_tree.specs.declared.part.Flow.TheVariants.{Source}
use Rattle.fir_tree.specs.declared.part.Part.{Part}
use Rattle.fir_tree.specs.Parts.{part_of, port_flow, part_or_none, instance_in, instance_part}
use Rattle.reference_flow.specs.Flows.{Declared, port_declared, declared_in, components_of, module_flows, reference_flows, flow_number}
use Rattle.type_check.specs.Parts.{Known}
use Rattle.type_check.specs.Faults.{IsFault}
use Rattle.type_check.specs.Statements.{Walk, in_turn, port_walk, module_walk}
use Rattle.check_laws.specs.Typing.{IsPart}
use Rattle.check_laws.proofs.Members.{head_in}
use Rattle.check_laws.proofs.Typing.{found_is, some_same, none_some, left_empty, right_empty}
use Rattle.circuit_laws.specs.Names.{Every}
use Rattle.circuit_laws.proofs.Alone.{every-left, every-right}
use Rattle.check_laws.specs.CircuitNodes.{Node, ports_of, NodesIn, NodesOfModules, no_modules, one_module, NodesOfCircuit, HasThree}
use Rattle.check_laws.proofs.Faultless.{IsTyped, all_parts}
use Rattle.check_laws.specs.References.{references_in, IsJudged}
use Rattle.check_laws.proofs.Steps.{itself}
use Rattle.check_laws.proofs.Components.{Agree, neither, agree_with, Fits}
use Rattle.check_laws.proofs.Expressions.{Flowing, joined}
use Rattle.check_laws.proofs.Statements.{TargetsIn, block_walk, block_part, block_goes}

-- A module

ports_agree : (ps : List Port) (known : Known) (before : Declared) → Agree known before → Agree (in_turn (map port_walk ps) known).known (before ++ map port_declared ps)
ports_agree [] known before a = subst (Agree known) (sym (append-nil before)) a
ports_agree (p ∷ ps) known before a =
    let after : Known = (port_walk p known).known in
    subst (Agree (in_turn (map port_walk ps) after).known) (append_assoc before (port_declared p ∷ []) (map port_declared ps))
    (ports_agree ps after (before ++ port_declared p ∷ []) (agree_with known before p.name.id (part_of p.typ (port_flow p)) (part_of p.typ (port_flow p)) (itself refl) a))

module _ (modules : List Module) where
  fits_itself : (m : Module) → Fits (components_of modules m) (declared_in modules m)
  fits_itself m name part e = ap part_or_none e

  -- no fault is found in a module, and the modules of its instances are there
  abbrev IsFaultless : Module → Type 0
  IsFaultless m = ((module_walk modules m []).faults ≡ []) × TargetsIn modules (components_of modules m) (instances_in m)

  abbrev ports_walk : Module → Walk
  ports_walk m = in_turn (map port_walk m.ports)

  module_goes : (m : Module) {nodes : List Node} → NodesIn modules (ports_of m) m.body nodes → Every Node IsTyped nodes → IsFaultless m → Flowing nodes (module_flows modules m)
  module_goes m are typed h =
      let c = components_of modules m in
      let front : parts.Part = parts.in_turn (map (λ (port : Port). parts.declares port.name) m.ports) in
      let body : parts.Part = block_part modules c m.body in
      let targets : TargetsIn modules c (front.instances ++ body.instances) = subst (TargetsIn modules c) (sym (has_its_instances m)) h.1 in
      (block_goes modules c are (map port_declared m.ports) typed (record {
        none = right_empty (ports_walk m []).faults (block_walk modules c m.body (ports_of m)).faults h.0;
        targets = every-right Name (λ target. is_some (instance_in modules target.id) ≡ true) front.instances body.instances targets;
      }) (ports_agree m.ports [] [] (λ name. neither)) (fits_itself m)).0

  modules_go : {ms : List Module} {nodes : List Node} → NodesOfModules modules ms nodes → Every Node IsTyped nodes → Every Module IsFaultless ms
      → Flowing nodes (flat_map (module_flows modules) ms)
  modules_go no_modules typed h = tt
  modules_go (one_module {m = m} {rest = rest} {nodes = xs} {others = ys} own more) typed h =
      joined xs ys (module_flows modules m) (flat_map (module_flows modules) rest) (module_goes m own (every-left Node IsTyped xs ys typed) h.0)
      (modules_go more (every-right Node IsTyped xs ys typed) h.1)

-- What the scope says of instances

none_contained : {X : Type 0} (xs : List X) → HasNone (Contains xs) → xs ≡ []
none_contained [] h = refl
none_contained (x ∷ xs) h = absurd (h x (head_in x xs))

zip_in : (S : Name → ℕ → Type 0) (ns : List Name) (ks : List ℕ) → AllZip S ns ks → Every Name (λ n. (k : ℕ) × S n k) ns
zip_in S [] ks z = tt
zip_in S (n ∷ ns) [] z = absurd z
zip_in S (n ∷ ns) (k ∷ ks) z = ((k, z.0), zip_in S ns ks z.1)

-- the first module of a name is found
first_module : (modules : List Module) (name k : ℕ) → FirstOf (texts (map (λ m. m.name) modules)) name k → is_some (instance_in modules name) ≡ true
first_module [] name k f = absurd (let e = f.has in cc)
first_module (m ∷ modules) name k f = by (m.name.id == name) refl k f (λ k f. first_module modules name k f) where
  rest : (k : ℕ) → FirstOf (texts (map (λ m. m.name) (m ∷ modules))) name (suc k) → FirstOf (texts (map (λ m. m.name) modules)) name k
  rest k f = record { has = f.has; first = λ earlier below is. f.first (suc earlier) (omega arith) is }

  by : (b : Bool) → (m.name.id == name) ≡ b → (k : ℕ) → FirstOf (texts (map (λ m. m.name) (m ∷ modules))) name k
      → ((k : ℕ) → FirstOf (texts (map (λ m. m.name) modules)) name k → is_some (instance_in modules name) ≡ true) → is_some (instance_in (m ∷ modules) name) ≡ true
  by true q k f more = ap (λ b. is_some (option_map instance_part (cond b (Some m) (find (λ x. x.name.id == name) modules)))) q
  by false q zero f more = absurd (eqb-false m.name.id name q (some_same f.has))
  by false q (suc k) f more = ap (λ b. is_some (option_map instance_part (cond b (Some m) (find (λ x. x.name.id == name) modules)))) q ∙ more k (rest k f)

module _ (modules : List Module) where
  abbrev AreThere : List Name → Type 0
  AreThere = Every Name (λ target. is_some (instance_in modules target.id) ≡ true)

  targets_there : (ns : List Name) → Every Name (λ n. (k : ℕ) × FirstOf (texts (map (λ m. m.name) modules)) n.id k) ns → AreThere ns
  targets_there [] h = tt
  targets_there (n ∷ ns) h = (first_module modules n.id h.0.0 h.0.1, targets_there ns h.1)

  all_faultless : (ms : List Module) → flat_map (λ (m : Module). (module_walk modules m []).faults) ms ≡ [] → AreThere (flat_map instances_in ms) → Every Module (IsFaultless modules) ms
  all_faultless [] e t = tt
  all_faultless (m ∷ ms) e t =
      let faults = (module_walk modules m []).faults in
      let others = flat_map (λ (m : Module). (module_walk modules m []).faults) ms in
      let own = every-left Name (λ target. is_some (instance_in modules target.id) ≡ true) (instances_in m) (flat_map instances_in ms) t in
      let rest = every-right Name (λ target. is_some (instance_in modules target.id) ≡ true) (instances_in m) (flat_map instances_in ms) t in
      ((left_empty faults others e, own), all_faultless ms (right_empty faults others e) rest)

-- The references of a circuit have the flows of the table

pub circuit_flows : (circuit : Circuit) (scope : Scope) (nodes : List Node) → IsScope circuit scope → HasNone (IsFault circuit) → NodesOfCircuit circuit nodes
    → ((node : Node) → Contains nodes node → HasThree node.e) → AllZip IsJudged (references_in nodes) (reference_flows circuit)
circuit_flows circuit scope nodes is none are three =
    let modules : List Module = circuit.modules in
    modules_go modules are (all_parts circuit scope nodes is none are three) (all_faultless modules modules (none_contained _ none)
    (targets_there modules (flat_map instances_in modules) (zip_in (λ target number. Means circuit target.id number) (flat_map instances_in modules) scope.targets is.targets)))

-- by their numbers

one_part : (node : Node) (flow : Flow) (part : Part) → IsJudged node flow → IsPart node.known node.e part → part.flow ≡ flow
one_part node flow part j is = ap (λ (p : Part). p.flow) (some_same (sym (found_is node.known is) ∙ found_is node.known j.is)) ∙ j.has

numbered : (nodes : List Node) (flows : List Flow) → AllZip IsJudged nodes flows → (n : ℕ) (node : Node) → slice_get nodes n ≡ Some node → (part : Part)
    → IsPart node.known node.e part → part.flow ≡ get_or flows n Source
numbered [] flows h n node e part is = absurd (none_some e)
numbered (x ∷ nodes) [] h n node e part is = absurd h
numbered (x ∷ nodes) (flow ∷ flows) h zero node e part is = one_part node flow part (subst (λ y. IsJudged y flow) (some_same e) h.0) is
numbered (x ∷ nodes) (flow ∷ flows) h (suc n) node e part is = numbered nodes flows h.1 n node e part is

pub flows_by_number : (circuit : Circuit) (scope : Scope) (nodes : List Node) → IsScope circuit scope → HasNone (IsFault circuit) → NodesOfCircuit circuit nodes
    → ((node : Node) → Contains nodes node → HasThree node.e) → (n : ℕ) (node : Node) → slice_get (references_in nodes) n ≡ Some node → (part : Part)
    → IsPart node.known node.e part → part.flow ≡ flow_number circuit n
flows_by_number circuit scope nodes is none are three n node e part its =
    numbered (references_in nodes) (reference_flows circuit) (circuit_flows circuit scope nodes is none are three) n node e part its
