-- The tree of what a search found is the resolved circuit.
use Rattle.std.proofs.Common.{◌≡◌, ℕ, Bool, true, List, subst, sym, ap, ◌∙◌}
use Rattle.std.specs.Prelude.{◌↔◌}
use Rattle.fir_tree.specs.declared.circuit.Circuit.{Circuit}
use Rattle.reset_search.specs.declared.spot.Spot.{Spot}
use Rattle.reset_search.specs.declared.spot.Spot.TheVariants.{Declared}
use Rattle.reset_search.specs.declared.spot.Feeds.{Feeds}
use Rattle.reset_search.specs.Feeds.{IsReached, feeds_in}
use Rattle.reset_search.specs.Resolved.{IsResolved, resolved_circuit}
use Rattle.reset_search.specs.Rows.{number, holds, marked}

pub made_tree : (circuit tree : Circuit) (feeds : Feeds) (keys : List ℕ) → feeds ≡ feeds_in circuit → ((p : Spot) → (holds keys (number p) ≡ true) ↔ IsReached feeds p)
    → tree ≡ resolved_circuit (marked keys) circuit → IsResolved circuit tree
made_tree circuit tree feeds keys is found made = record {
  reached = marked keys;
  exact = λ n. subst (λ f. (holds keys (number (Declared n)) ≡ true) ↔ IsReached f (Declared n)) is (found (Declared n));
  is = made;
}
