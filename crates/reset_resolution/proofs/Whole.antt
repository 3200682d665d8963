-- The feeds of a whole circuit.
use Rattle.std.proofs.Common.{◌≡◌, ℕ, ◌+◌, List, [], ◌∷◌, ◌++◌, refl, sym, ap, ap₂, ◌∙◌}
use Rattle.fir_tree.specs.declared.circuit.Circuit.{Circuit}
use Rattle.fir_tree.specs.declared.circuit.Module.{Module}
use Rattle.reset_search.specs.declared.spot.Spot.{Spot}
use Rattle.reset_search.specs.declared.spot.Spot.TheVariants.{Cast}
use Rattle.reset_search.specs.declared.spot.Feed.{Feed}
use Rattle.reset_search.specs.declared.spot.Feeds.{Feeds}
use Rattle.reset_search.specs.Feeds.{Known, Instances, WithPorts, instance_in, bodies_from, modules_from, all_ports, feeds_in}
use Rattle.reset_resolution.specs.Walked.{listed, AreInstances}

pub exactly : (circuit : Circuit) (modules : List Module) (with_ports : List WithPorts) (instances : Known) (next : ℕ) (feeds0 feeds : List Feed) (asyncs0 asyncs : List Spot) → modules ≡ circuit.modules
    → with_ports ≡ modules_from 0 modules → AreInstances with_ports instances → next ≡ all_ports modules → feeds0 ≡ [] → asyncs0 ≡ Cast ∷ []
    → feeds ≡ feeds0 ++ (bodies_from (listed instances) next 0 with_ports).feeds → asyncs ≡ asyncs0 ++ (bodies_from (listed instances) next 0 with_ports).asyncs
    → record { feeds = feeds; asyncs = asyncs } ≡ feeds_in circuit
exactly circuit modules with_ports instances next feeds0 feeds asyncs0 asyncs m w h n f0 a0 f a =
    let same : listed instances ≡ instance_in with_ports = λ i name. h.found name i in
    let here : bodies_from (listed instances) next 0 with_ports ≡ bodies_from (instance_in with_ports) (all_ports modules) 0 with_ports
    = ap₂ (λ known first. bodies_from known first 0 with_ports) same n in
    let ports : bodies_from (instance_in with_ports) (all_ports modules) 0 with_ports ≡ bodies_from (instance_in (modules_from 0 modules)) (all_ports modules) 0 (modules_from 0 modules)
    = ap (λ all. bodies_from (instance_in all) (all_ports modules) 0 all) w in
    let there' : bodies_from (instance_in (modules_from 0 modules)) (all_ports modules) 0 (modules_from 0 modules)
    ≡ bodies_from (instance_in (modules_from 0 circuit.modules)) (all_ports circuit.modules) 0 (modules_from 0 circuit.modules)
    = ap (λ ms. bodies_from (instance_in (modules_from 0 ms)) (all_ports ms) 0 (modules_from 0 ms)) m in
    let whole : bodies_from (listed instances) next 0 with_ports ≡ bodies_from (instance_in (modules_from 0 circuit.modules)) (all_ports circuit.modules) 0 (modules_from 0 circuit.modules)
    = here ∙ ports ∙ there' in
    ap₂ (λ (fs : List Feed) (as' : List Spot). record { feeds = fs; asyncs = as' })
    (f ∙ ap₂ (λ (l : List Feed) (g : Feeds). l ++ g.feeds) f0 whole) (a ∙ ap₂ (λ (l : List Spot) (g : Feeds). l ++ g.asyncs) a0 whole)
