-- A circuit has one cut.
use Rattle.std.proofs.Common.{◌≡◌, ℕ, List, length, sym, ap, ◌∙◌}
use Rattle.fir_tree.specs.LeafNames.{Texts}
use Rattle.fir_meaning.specs.Components.{Design}
use Rattle.ground_net.specs.declared.net.Net.{Net}
use Rattle.net_laws.specs.Serves.{Serves}
use Rattle.cut_listing.specs.CircuitCuts.{watch, IsCutText, StandOnce}
use Rattle.cut_listing.proofs.OneCut.{one_listing}
use Rattle.cut_listing.proofs.Circuits.{same_sinks, to_other, from_other}

pub one_text : (texts : Texts) (design : Design) (net : Net) (serves : Serves texts design net) → StandOnce serves.of.placed → (workers : ℕ) (bytes other : List ℕ)
    → IsCutText texts design workers bytes → IsCutText texts design workers other → bytes ≡ other
one_text texts design net serves stand workers bytes other a b =
    let first = same_sinks texts design net serves stand a.net a.is in
    let second = same_sinks texts design net serves stand b.net b.is in
    a.is_text
    ∙ (one_listing (record { net = a.net; sequence = a.sequence }) (record { net = b.net; sequence = b.sequence }) (watch a.net) (watch b.net) workers a.cut b.cut
    (ap length (sym first ∙ second))
    (λ k x i. to_other texts design net serves stand b.net b.is k x (from_other texts design net serves stand a.net a.is k x i))
    (λ k x i. to_other texts design net serves stand a.net a.is k x (from_other texts design net serves stand b.net b.is k x i))
    a.cuts b.cuts
    ∙ sym b.is_text)
