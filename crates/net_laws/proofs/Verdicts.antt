-- The verdict over a net that serves a circuit is one over the circuit.
use Rattle.std.proofs.Common.{ℕ, List, ◌⊎◌, inl, inr, ⊎_elim}
use Rattle.std.specs.Prelude.{Result, Ok, Err}
use Rattle.place_text.specs.First.{IsFirst}
use Rattle.place_text.specs.Verdicts.{IsVerdict}
use Rattle.place_text.proofs.Verdicts.{passes}
use Rattle.fir_tree.specs.LeafNames.{Texts}
use Rattle.place_text.specs.declared.place.Place.{Place}
use Rattle.fir_meaning.specs.Components.{Design}
use Rattle.fir_meaning.specs.Loops.{HasNoLoop}
use Rattle.ground_net.specs.declared.net.Net.{Net}
use Rattle.ground_net.specs.declared.net.Ordered.{Ordered}
use Rattle.ground_net.specs.Reads.{IsOrder}
use Rattle.ground_net.proofs.Mentioning.{mentions_leaves}
use Rattle.net_laws.specs.Serves.{Serves}
use Rattle.comb_order.specs.declared.fault.OrderFault.{OrderFault}
use Rattle.comb_order.specs.declared.fault.OrderFault.TheVariants.{CombLoop, NoMemory}
use Rattle.comb_order.specs.Faults.{IsFault, comb_loop, IsOrdered, place_of, rank_of}
use Rattle.comb_order.proofs.Existing.{order_there}
use Rattle.net_laws.specs.FirstLoops.{IsFirstLoopOf, IsLoopFault, first_loop, IsOrderedFor}
use Rattle.net_laws.proofs.Loops.{none_of_net, none_of_circuit, first_of_net, first_of_circuit}
use Rattle.net_laws.proofs.Searching.{none_or_first}

module _ (texts : Texts) (design : Design) (net : Net) (serves : Serves texts design net) where
  pub fault_of_net : (fault : OrderFault) → IsFault net fault → IsLoopFault design fault
  fault_of_net (CombLoop place) (comb_loop _ loop) = first_loop place (first_of_net texts design net serves.of serves.lists serves.has serves.typed place loop)
  fault_of_net NoMemory has = elim has [ ]

  pub fault_of_circuit : (fault : OrderFault) → IsLoopFault design fault → IsFault net fault
  fault_of_circuit (CombLoop place) (first_loop _ loop) = comb_loop place (first_of_circuit texts design net serves.of serves.lists serves.has serves.typed place loop)
  fault_of_circuit NoMemory has = elim has [ ]

  first_here : (fault : OrderFault) → IsFirst place_of rank_of (IsFault net) fault → IsFirst place_of rank_of (IsLoopFault design) fault
  first_here fault f = record { is = fault_of_net fault f.is; first = λ other has. f.first other (fault_of_circuit other has) }

  first_there : (fault : OrderFault) → IsFirst place_of rank_of (IsLoopFault design) fault → IsFirst place_of rank_of (IsFault net) fault
  first_there fault f = record { is = fault_of_circuit fault f.is; first = λ other has. f.first other (fault_of_net other has) }

  pub verdict : (result : Result Ordered OrderFault) → IsVerdict place_of rank_of (IsFault net) (IsOrdered net) result → IsVerdict place_of rank_of (IsLoopFault design) (IsOrderedFor design net) result
  verdict (Ok made) v =
      passes made (record { unchanged = v.ok.unchanged; sequence = v.ok.sequence; no_loop = none_of_net texts design net serves.of serves.lists serves.has serves.typed v.ok.no_loop })
      (λ fault has. v.none fault (fault_of_circuit fault has))
  verdict (Err given) v = record {
    ok = tt;
    none = tt;
    fault = ⊎_elim (λ e. inl e) (λ f. inr (first_here given f)) v.fault;
    accepts = λ none. v.accepts (λ fault has. none fault (fault_of_net fault has));
    refuses = λ first f. v.refuses first (first_there first f);
  }

  pub none_or_first_of : HasNoLoop design ⊎ ((place : Place) × IsFirstLoopOf design place)
  none_or_first_of = ⊎_elim
      (λ none. inl (none_of_net texts design net serves.of serves.lists serves.has serves.typed none))
      (λ found. inr (found.0, first_of_net texts design net serves.of serves.lists serves.has serves.typed found.0 found.1))
      (none_or_first net)

  pub order_of : HasNoLoop design → (sequence : List ℕ) × IsOrder net sequence
  order_of none = order_there net (mentions_leaves net serves.of.well_formed) (none_of_circuit texts design net serves.of serves.lists serves.has serves.typed none)
