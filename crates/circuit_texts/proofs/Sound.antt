-- What is known of a circuit without a loop: its nets serve it, and its settled values are one.
use Rattle.std.proofs.Common.{List}
use Rattle.fir_tree.specs.LeafNames.{Texts}
use Rattle.fir_tree.specs.declared.scope.Fitted.{Fitted}
use Rattle.fir_meaning.specs.Components.{Design, FlatLeaf, HasBundles, design_of}
use Rattle.fir_meaning.specs.Loops.{HasNoLoop, HasLeaves, TakesLeaves}
use Rattle.ground_net.specs.declared.net.Net.{Net}
use Rattle.circuit_laws.specs.WellFormed.{IsWellFormed}
use Rattle.net_of_circuit.specs.FlatOrder.{ListsLeaves}
use Rattle.net_of_circuit.specs.NetOf.{IsNetOf}
use Rattle.net_laws.specs.Serves.{Serves}
use Rattle.net_laws.specs.Typed.{IsTyped}
use Rattle.net_laws.proofs.Accepted.{lists_leaves, is_typed}
use Rattle.settling_laws.proofs.Listing.{has_leaves}
use Rattle.settling_laws.proofs.Reading.{takes_leaves}

pub record IsSound (texts : Texts) (design : Design) : Type 0 where
  pub lists : (net : Net) (of : IsNetOf texts design net) → ListsLeaves design of.placed
  pub typed : IsTyped design
  pub has : HasBundles design
  pub none : HasNoLoop design
  pub all : List FlatLeaf
  pub leaves : HasLeaves design all
  pub takes : TakesLeaves design

abbrev pub its_net_serves : {texts : Texts} {design : Design} → IsSound texts design → (net : Net) → IsNetOf texts design net → Serves texts design net
its_net_serves sound net of = record { of = of; lists = sound.lists net of; has = sound.has; typed = sound.typed }

-- A well formed circuit is such.
pub well_formed_is_sound : (texts : Texts) (fitted : Fitted) → IsWellFormed fitted → HasNoLoop (design_of fitted) → IsSound texts (design_of fitted)
well_formed_is_sound texts fitted well none =
    let leaves = has_leaves fitted well in
    record {
      lists = λ net of. lists_leaves fitted well of.main of.found of.placed of.order;
      typed = is_typed fitted well;
      has = well.bundles;
      none = none;
      all = leaves.0;
      leaves = leaves.1;
      takes = takes_leaves fitted well;
    }
