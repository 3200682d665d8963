-- The rules of a whole circuit.
use Rattle.std.proofs.Common.{◌≡◌, ℕ, ◌+◌, List, [], ◌∷◌, ◌++◌, map, length, refl, ap, ap₂, ◌∙◌}
use Rattle.std.specs.List.{flat_map}
use Rattle.place_text.specs.declared.place.Place.{Place}
use Rattle.fir_tree.specs.declared.circuit.Module.{Module}
use Rattle.width_rules.specs.declared.rule.Rule.{Rule}
use Rattle.width_rules.specs.Sources.{Known}
use Rattle.width_rules.specs.Circuits.{WithPorts, in_turn, known_ports, body_walk, bodies_from, modules_from, rules_of_modules}
use Rattle.width_rules.specs.Walks.{AreInstances, body_among, bodies_among}
use Rattle.width_rules.proofs.Ports.{module_places}
use Rattle.width_rules.proofs.Walking.{same_walk}

same_body : (modules : List WithPorts) (instances : Known) → AreInstances modules instances → (m : WithPorts) (n : ℕ) → body_among instances m n ≡ body_walk modules m n
same_body modules instances h m n = ap (λ walk. in_turn (map walk m.holder.body) (known_ports m.holder.ports m.ports []) n) (same_walk modules instances h)

same_bodies : (modules : List WithPorts) (instances : Known) → AreInstances modules instances → (n : ℕ) (ms : List WithPorts) → bodies_among instances n ms ≡ bodies_from modules n ms
same_bodies modules instances h n [] = refl
same_bodies modules instances h n (m ∷ ms) =
    let body = body_walk modules m n in
    ap (λ b. let others = bodies_among instances (n + length b.places) ms in record { places = b.places ++ others.places; rules = b.rules ++ others.rules }) (same_body modules instances h m n)
    ∙ ap (λ others. record { places = body.places ++ others.places; rules = body.rules ++ others.rules }) (same_bodies modules instances h (n + length body.places) ms)

pub exactly : (modules : List Module) (with_ports : List WithPorts) (instances : Known) (ports places : List Place) (rules : List Rule) → with_ports ≡ modules_from 0 modules → AreInstances with_ports instances
    → ports ≡ flat_map module_places modules → places ≡ ports ++ (bodies_among instances (length ports) with_ports).places → rules ≡ (bodies_among instances (length ports) with_ports).rules
    → record { places = places; rules = rules } ≡ rules_of_modules modules
exactly modules with_ports instances ports places rules ms h ps g r =
    let bodies : bodies_among instances (length ports) with_ports ≡ bodies_from with_ports (length ports) with_ports = same_bodies with_ports instances h (length ports) with_ports in
    let from : bodies_from with_ports (length ports) with_ports ≡ bodies_from (modules_from 0 modules) (length (flat_map module_places modules)) (modules_from 0 modules)
    = ap₂ (λ all first. bodies_from all (length first) all) ms ps in
    let whole = bodies ∙ from in
    ap₂ (λ p q. record { places = p; rules = q }) (g ∙ ap₂ (λ first rest. first ++ rest.places) ps whole) (r ∙ ap (λ rest. rest.rules) whole)
