-- What the cycles of a net lead to is what those of the circuit lead to.
use Rattle.std.proofs.Common.{ℕ, List, [], ◌∷◌}
use Rattle.fir_tree.specs.LeafNames.{Texts}
use Rattle.fir_meaning.specs.Components.{Design}
use Rattle.fir_meaning.specs.States.{State, Inputs}
use Rattle.fir_meaning.specs.States as tree
use Rattle.ground_net.specs.declared.net.Net.{Net}
use Rattle.ground_net.specs.Reads.{IsOrder}
use Rattle.ground_net.specs.Cycles.{NetState, instant_of}
use Rattle.ground_net.specs.Cycles as net_cycle
use Rattle.ground_net.specs.Nets.{IsWithin}
use Rattle.net_of_circuit.specs.FlatOrder.{all_leaves}
use Rattle.net_of_circuit.specs.NetOf.{seen_valuation}
use Rattle.net_laws.specs.Runs.{AreGiven, no_more, one_more}
use Rattle.net_laws.specs.Serves.{Serves, Matches}
use Rattle.net_laws.proofs.Traces.{settles, nexts_match, nexts_within}
use Rattle.crew_run.specs.Epochs.{Reaches, there, onward}
use Rattle.circuit_texts.specs.StateTexts as circuit

module _ (texts : Texts) (design : Design) (net : Net) (serves : Serves texts design net) (sequence : List ℕ) (order : IsOrder net sequence) where
  pub reaches : (s : State) (t u : NetState) → Matches serves s t → IsWithin net t → (given : List Inputs) (numbered : List net_cycle.Inputs) → AreGiven (all_leaves serves.of.placed) net given numbered
      → Reaches net t numbered u → (behind : State) × circuit.Reaches design s given behind × Matches serves behind u
  reaches s t u matching within [] [] no_more there = (s, circuit.there, matching)
  reaches s t u matching within [] (n ∷ numbered) given_are r = elim given_are [ ]
  reaches s t u matching within (g ∷ given) [] given_are r = elim given_are [ ]
  reaches s t u matching within (g ∷ given) (n ∷ numbered) (one_more matched ranges later) (onward rho settled rest) =
      let seen = seen_valuation serves.of.placed net t rho in
      let on = reaches (tree.next design s seen) (net_cycle.next net t (instant_of net t rho)) u
      (nexts_match texts design net serves.of serves.lists serves.has serves.typed sequence order s t n rho matching within settled)
      (nexts_within texts design net serves.of serves.lists serves.has serves.typed sequence order s t n rho matching within settled) given numbered later rest in
      (on.0, circuit.onward seen (settles texts design net serves.of serves.lists serves.has serves.typed sequence order s t g n rho matching within matched ranges settled) on.1, on.2)
