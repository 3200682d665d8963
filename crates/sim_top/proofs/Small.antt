-- The net of a built circuit has few leaves, few inputs and few sinks.
use Rattle.std.proofs.Common.{ℕ, ◌+◌, ◌<◌, ◌≤◌, List, length, ap, arith}
use Rattle.std.proofs.lemmas.List.{length-map}
use Rattle.place_text.specs.First.{HasNone}
use Rattle.fir_tree.specs.declared.scope.Fitted.{Fitted}
use Rattle.fir_meaning.specs.Components.{design_of}
use Rattle.fitted_laws.specs.Accepted.{IsAccepted}
use Rattle.ground_net.specs.declared.net.Net.{Net}
use Rattle.ground_net.specs.declared.net.PortLeaf.{PortLeaf}
use Rattle.ground_net.specs.Cones.{sinks}
use Rattle.ground_net.specs.Watching.{inputs, watched}
use Rattle.net_of_circuit.specs.NetOf.{IsNetOf}
use Rattle.size_check.specs.Limits.{IsFault}
use Rattle.cut_listing.specs.CircuitCuts.{watch}
use Rattle.sim_engine.specs.Building.{IsBuilt}
use Rattle.sim_engine.specs.declared.compile.Built.{Built}
use Rattle.sim_engine.proofs.Accepting.{accepted_circuit}

-- what is said of each net of each accepted circuit
abbrev OfNets : (Net → Type 0) → Type 0
OfNets Says = (fitted : Fitted) → IsAccepted fitted → HasNone (IsFault fitted.checked.resolved) → (net : Net) → IsNetOf fitted.checked.resolved.names (design_of fitted) net → Says net

of_built : (Says : Net → Type 0) → OfNets Says → (text : List ℕ) (built : Built) → IsBuilt text built → Says built.ordered.net
of_built Says law text built is =
    let fits = is.accepted.clocked.driven.fits in
    law built.fitted (accepted_circuit text built.fitted fits) fits.widthed.sized.none built.ordered.net is.ordered.serves.of

pub few : OfNets (λ net. length net.leaves ≤ 65536) → (text : List ℕ) (built : Built) → IsBuilt text built → length built.ordered.net.leaves < 4294967296
few law text built is = let low = of_built (λ net. length net.leaves ≤ 65536) law text built is in omega (arith, low)

pub few_inputs : OfNets (λ net. length (inputs net) ≤ 65536) → (text : List ℕ) (built : Built) → IsBuilt text built → length built.ports.inputs < 4294967296
few_inputs law text built is =
    let low = of_built (λ net. length (inputs net) ≤ 65536) law text built is in
    let same = ap (λ (l : List PortLeaf). length l) is.inputs in
    omega (arith, low, same)

pub few_sinks : OfNets (λ net. length (watched net) ≤ 65536) → OfNets (λ net. (watch : List ℕ) → length (sinks net watch) ≤ length watch + 1065536)
    → (text : List ℕ) (built : Built) → IsBuilt text built → length (sinks built.ordered.net (watch built.ordered.net)) < 4294967296
few_sinks seen law text built is =
    let net = built.ordered.net in
    let low = of_built (λ net. length (watched net) ≤ 65536) seen text built is in
    let most = of_built (λ net. (watch : List ℕ) → length (sinks net watch) ≤ length watch + 1065536) law text built is (watch net) in
    let same = length-map (watched net) (λ (p : PortLeaf). p.leaf) in
    omega (arith, low, most, same)
