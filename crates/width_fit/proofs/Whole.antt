-- The walk through all modules.
use Rattle.std.proofs.Common.{◌≡◌, ℕ, ◌+◌, Bool, false, List, [], ◌∷◌, ◌++◌, map, length, drop, get_or, refl, ap, ap₂, ◌∙◌, append_assoc}
use Rattle.std.specs.List.{flat_map}
use Rattle.place_text.specs.declared.place.Place.{Place}
use Rattle.prim_ops.specs.declared.widths.Width.{Width}
use Rattle.fir_tree.specs.declared.scope.Checked.{Checked}
use Rattle.width_rules.specs.Sources.{Known}
use Rattle.width_rules.specs.Circuits.{WithPorts, modules_from, all_open, known_ports, rules_in}
use Rattle.width_rules.specs.Walks.{AreInstances}
use Rattle.width_rules.proofs.Ports.{module_places, modules_open}
use Rattle.width_fit.specs.Judging.{Solved, Findings, Told, in_turn, ports_declared, ports_faults, module_survey, told_from, told_of, where_reached}
use Rattle.width_fit.specs.declared.walk.Walk.{Walk}
use Rattle.width_fit.specs.Walks.{Walks, WalksModule, stmt_among, module_among, told_among}
use Rattle.width_fit.proofs.Walking.{same_walk}

-- modules by the list of instances

same_module : (all : Solved) (modules : List WithPorts) (instances : Known) → AreInstances modules instances → (m : WithPorts) (n : ℕ) → module_among all instances m n ≡ module_survey all modules m n
same_module all modules instances h m n =
    ap (λ walk. let body = in_turn (map walk m.holder.body) (known_ports m.holder.ports m.ports []) n in
    record {
      known = body.known;
      count = body.count;
      declared = ports_declared all m.holder.ports m.ports ++ body.declared;
      nodes = body.nodes;
      faults = ports_faults all m.holder.ports m.ports ++ body.faults;
    }) (same_walk all modules instances h)

same_told : (all : Solved) (modules : List WithPorts) (instances : Known) → AreInstances modules instances → (n : ℕ) (ms : List WithPorts) (reached : List Bool)
    → told_among all instances n ms reached ≡ told_from all modules n ms reached
same_told all modules instances h n [] reached = refl
same_told all modules instances h n (m ∷ ms) reached =
    let one = module_survey all modules m n in
    ap (λ (one : Findings). let others = told_among all instances (n + one.count) ms (drop 1 reached) in
    record { declared = one.declared ++ others.declared; nodes = one.nodes ++ others.nodes; faults = where_reached (get_or reached 0 false) one.faults ++ others.faults })
    (same_module all modules instances h m n)
    ∙ ap (λ (others : Told). record { declared = one.declared ++ others.declared; nodes = one.nodes ++ others.nodes; faults = where_reached (get_or reached 0 false) one.faults ++ others.faults })
    (same_told all modules instances h (n + one.count) ms (drop 1 reached))

pub told_is : (checked : Checked) (widths : List Width) (all : Solved) (with_ports : List WithPorts) (instances : Known) (places : List Place) (reached : List Bool)
    → with_ports ≡ modules_from 0 checked.resolved.modules → AreInstances with_ports instances → places ≡ flat_map module_places checked.resolved.modules
    → all ≡ record { widths = widths; rules = (rules_in checked.resolved).rules } → reached ≡ checked.scope.reached
    → told_among all instances (length places) with_ports reached ≡ told_of checked widths
told_is checked widths all with_ports instances places reached ms h ps is r =
    let count : length places ≡ all_open checked.resolved.modules = ap length ps ∙ modules_open checked.resolved.modules in
    same_told all with_ports instances h (length places) with_ports reached
    ∙ ap₂ (λ all ms. told_from all ms (length places) ms reached) is ms
    ∙ ap₂ (λ n reached. told_from (record { widths = widths; rules = (rules_in checked.resolved).rules }) (modules_from 0 checked.resolved.modules) n (modules_from 0 checked.resolved.modules) reached) count r

pub from_nothing : {X : Type 0} (old new told : List X) → old ≡ [] → new ≡ old ++ told → new ≡ told
from_nothing old new told none is = is ∙ ap (λ l. l ++ told) none

-- a module is walked: its ports, and then its body
pub module_walks : (all : Solved) (instances : Known) (m : WithPorts) (a mid b : Walk) → mid.known.entries ≡ known_ports m.holder.ports m.ports [] → mid.places.items ≡ a.places.items
    → mid.declared.items ≡ a.declared.items ++ ports_declared all m.holder.ports m.ports → mid.found.nodes.items ≡ a.found.nodes.items
    → mid.found.faults.items ≡ a.found.faults.items ++ ports_faults all m.holder.ports m.ports → Walks (in_turn (map (stmt_among all instances) m.holder.body)) mid b
    → WalksModule (module_among all instances m (length a.places.items)) (module_among all instances m (length a.places.items)).faults a b
module_walks all instances m a mid b k p d n f w =
    let walked = in_turn (map (stmt_among all instances) m.holder.body) in
    let body = walked (known_ports m.holder.ports m.ports []) (length a.places.items) in
    let same : walked mid.known.entries (length mid.places.items) ≡ body = ap₂ (λ known places. walked known (length places)) k p in
    record {
      count = w.count ∙ ap₂ (λ places (found : Findings). length places + found.count) p same;
      declared = w.declared ∙ ap₂ (λ l (found : Findings). l ++ found.declared) d same ∙ append_assoc a.declared.items (ports_declared all m.holder.ports m.ports) body.declared;
      nodes = w.nodes ∙ ap₂ (λ l (found : Findings). l ++ found.nodes) n same;
      faults = w.faults ∙ ap₂ (λ l (found : Findings). l ++ found.faults) f same ∙ append_assoc a.found.faults.items (ports_faults all m.holder.ports m.ports) body.faults;
    }
