-- A circuit has one refined cut.
use Rattle.std.proofs.Common.{◌≡◌, ℕ, List, length, sym, ap, ◌∙◌}
use Rattle.fir_tree.specs.declared.scope.Fitted.{Fitted}
use Rattle.fir_tree.specs.LeafNames.{Texts}
use Rattle.fir_meaning.specs.Components.{Design, design_of}
use Rattle.circuit_laws.specs.WellFormed.{IsWellFormed}
use Rattle.ground_net.specs.declared.net.Net.{Net}
use Rattle.net_of_circuit.specs.NetOf.{IsNetOf}
use Rattle.net_laws.specs.Serves.{Serves}
use Rattle.net_laws.proofs.Accepted.{lists_leaves, is_typed}
use Rattle.cut_listing.specs.CircuitCuts.{watch, StandOnce}
use Rattle.cut_listing.proofs.Accepted.{stand_once}
use Rattle.cut_listing.proofs.Circuits.{same_sinks, to_other, from_other}
use Rattle.cut_listing.specs.RefinedTexts.{IsRefinedText}
use Rattle.cut_listing.proofs.OneListing.{one_refined_listing}

pub one_text : (texts : Texts) (design : Design) (net : Net) (serves : Serves texts design net) → StandOnce serves.of.placed → (workers : ℕ) (bytes other : List ℕ)
    → IsRefinedText texts design workers bytes → IsRefinedText texts design workers other → bytes ≡ other
one_text texts design net serves stand workers bytes other a b =
    let first = same_sinks texts design net serves stand a.net a.is in
    let second = same_sinks texts design net serves stand b.net b.is in
    a.is_text
    ∙ (one_refined_listing (record { net = a.net; sequence = a.sequence }) (record { net = b.net; sequence = b.sequence }) (watch a.net) (watch b.net) workers a.start b.start a.refined b.refined
    (ap length (sym first ∙ second))
    (λ k x i. to_other texts design net serves stand b.net b.is k x (from_other texts design net serves stand a.net a.is k x i))
    (λ k x i. to_other texts design net serves stand a.net a.is k x (from_other texts design net serves stand b.net b.is k x i))
    a.starts b.starts a.refines b.refines
    ∙ sym b.is_text)

-- a net of a well formed circuit serves it
abbrev its_net_serves : (texts : Texts) (fitted : Fitted) (net : Net) → IsWellFormed fitted → IsNetOf texts (design_of fitted) net → Serves texts (design_of fitted) net
its_net_serves texts fitted net well of = record { of = of; lists = lists_leaves fitted well of.main of.found of.placed of.order; has = well.bundles; typed = is_typed fitted well }

pub one_refined_text : (texts : Texts) (fitted : Fitted) → IsWellFormed fitted → (workers : ℕ) (bytes other : List ℕ) → IsRefinedText texts (design_of fitted) workers bytes → IsRefinedText texts (design_of fitted) workers other
    → bytes ≡ other
one_refined_text texts fitted well workers bytes other a b =
    one_text texts (design_of fitted) a.net (its_net_serves texts fitted a.net well a.is) (stand_once fitted well a.is.main a.is.found a.is.placed a.is.order) workers bytes other a b
