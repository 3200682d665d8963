-- The loops of a circuit and of its net.
use Rattle.std.proofs.Common.{◌≡◌, ℕ, zero, suc, ◌<◌, List, [], ◌∷◌, length, Some, refl, sym, ap, ◌∙◌, subst, arith}
use Rattle.std.specs.List.{slice_get}
use Rattle.place_text.specs.declared.place.Place.{Place}
use Rattle.fir_tree.specs.LeafNames.{Texts}
use Rattle.fir_meaning.specs.Components.{Design, FlatLeaf, HasBundles}
use Rattle.fir_meaning.specs.States.{IsLeafOf}
use Rattle.fir_meaning.specs.Loops.{ReadsLeaf, by_connect, by_node, by_port, ReadsThrough, directly, through, HasNoLoop}
use Rattle.ground_net.specs.declared.net.Net.{Net}
use Rattle.ground_net.specs.declared.net.Leaf.{Leaf}
use Rattle.ground_net.specs.Reads.{IsAssigned, Through, itself, others, IsFirstLoop}
use Rattle.ground_net.specs.Reads as net_reads
use Rattle.ground_net.proofs.Loops.{through_assigned}
use Rattle.net_of_circuit.specs.FlatOrder.{Placed, Standing, all_leaves, flat_of, ListsLeaves}
use Rattle.net_of_circuit.specs.NetOf.{IsNetOf}
use Rattle.net_laws.specs.Typed.{IsTyped}
use Rattle.net_laws.proofs.Numbers.{below_length}
use Rattle.net_laws.proofs.Seen.{found_entry}
use Rattle.net_laws.specs.FirstLoops.{IsOnLoop, IsFirstLoopOf}
use Rattle.net_laws.proofs.FlatOrders.{one_placed}

item : {A : Type 0} (xs : List A) (k : ℕ) → k < length xs → (x : A) × (slice_get xs k ≡ Some x)
item [] k h = absurd (omega arith)
item (x ∷ xs) zero h = (x, refl)
item (x ∷ xs) (suc k) h = item xs k (omega arith)

-- What reads is a leaf of the run.
reads_of_leaf : (design : Design) (x f : FlatLeaf) → ReadsLeaf design x f → IsLeafOf design x
reads_of_leaf design x f (by_connect path m c leaf y stands driven mentioned) = record { path = path; m = m; c = c; leaf = leaf; stands = stands; is = refl }
reads_of_leaf design x f (by_node path m c leaf e k mentioned y stands sort clock there at y_in) = record { path = path; m = m; c = c; leaf = leaf; stands = stands; is = refl }
reads_of_leaf design x f (by_port path m c leaf memory port name field way stands sort latency turned behind named by goes) = record { path = path; m = m; c = c; leaf = leaf; stands = stands; is = refl }

chain_of_leaf : (design : Design) (x f : FlatLeaf) → ReadsThrough design x f → IsLeafOf design x
chain_of_leaf design x f (directly r) = reads_of_leaf design x f r
chain_of_leaf design x f (through {y = z} r more) = reads_of_leaf design x z r

module _ (texts : Texts) (design : Design) (net : Net) (of : IsNetOf texts design net) (lists : ListsLeaves design of.placed) (has : HasBundles design) (typed : IsTyped design) where
  abbrev placed : List Placed
  placed = of.placed

  -- the entry of an assignment, and the net's leaf of an entry
  entry_of : (x : ℕ) → IsAssigned net.leaves x → (y : Standing) × (slice_get (all_leaves placed) x ≡ Some y)
  entry_of x a = item (all_leaves placed) x (subst (λ n. x < n) of.is.counted (below_length net.leaves x a.leaf a.there))

  leaf_of_entry : (x : ℕ) (y : Standing) → slice_get (all_leaves placed) x ≡ Some y → (leaf : Leaf) × (slice_get net.leaves x ≡ Some leaf)
  leaf_of_entry x y e = item net.leaves x (subst (λ n. x < n) (sym of.is.counted) (below_length (all_leaves placed) x y e))

  -- Chains of reads
  net_chain : (x z : ℕ) (y w : Standing) → slice_get (all_leaves placed) x ≡ Some y → slice_get (all_leaves placed) z ≡ Some w → Through net x z → ReadsThrough design (flat_of y) (flat_of w)
  net_chain x z y w e f (itself r) = directly (of.is.reads x z y w e f r)
  net_chain x z y w e f (others {b = v} r t) =
      let a = entry_of v (through_assigned net v z t) in
      through (of.is.reads x v y a.0 e a.1 r) (net_chain v z a.0 w a.1 f t)

  chain : (x : ℕ) (y : Standing) → slice_get (all_leaves placed) x ≡ Some y → (f g : FlatLeaf) → flat_of y ≡ f → ReadsThrough design f g
      → (z : ℕ) × (w : Standing) × (slice_get (all_leaves placed) z ≡ Some w) × (flat_of w ≡ g) × Through net x z
  chain x y e f g is (directly r) =
      let a = of.is.all_reads x y g e (subst (λ h. ReadsLeaf design h g) (sym is) r) in
      (a.0, a.1, a.2, a.3, itself a.4)
  chain x y e f g is (through {y = h} r more) =
      let a = of.is.all_reads x y h e (subst (λ k. ReadsLeaf design k h) (sym is) r) in
      let b = chain a.0 a.1 a.2 h g a.3 more in
      (b.0, b.1, b.2, b.3, others a.4 b.4)

  -- Loops
  pub loop_of_net : (x : ℕ) (y : Standing) → slice_get (all_leaves placed) x ≡ Some y → net_reads.IsOnLoop net x → IsOnLoop design (flat_of y)
  loop_of_net x y e t = net_chain x x y y e e t

  pub loop_of_circuit : (x : ℕ) (y : Standing) → slice_get (all_leaves placed) x ≡ Some y → IsOnLoop design (flat_of y) → net_reads.IsOnLoop net x
  loop_of_circuit x y e r =
      let b = chain x y e (flat_of y) (flat_of y) refl r in
      let same : b.0 ≡ x = lists.once b.0 x b.1 y b.2 e b.3 in
      subst (λ z. Through net x z) same b.4

  -- what is on a loop stands in the net
  loop_at : (f : FlatLeaf) → IsOnLoop design f → (x : ℕ) × net_reads.IsOnLoop net x
  loop_at f r =
      let a = found_entry texts design placed of.elements net of.is of.well_formed lists has typed f (chain_of_leaf design f f r) in
      (a.0, loop_of_circuit a.0 a.1 a.2 (subst (λ g. IsOnLoop design g) (sym a.3) r))

  pub none_of_net : net_reads.HasNoLoop net → HasNoLoop design
  none_of_net none = record { none = λ f r. let a = loop_at f r in none.none a.0 a.1 }

  pub none_of_circuit : HasNoLoop design → net_reads.HasNoLoop net
  none_of_circuit none = record { none = λ x t. let a = entry_of x (through_assigned net x x t) in none.none (flat_of a.0) (loop_of_net x a.0 a.1 t) }

  -- First loops
  pub first_of_net : (place : Place) → IsFirstLoop net place → IsFirstLoopOf design place
  first_of_net place loop =
      let a = entry_of loop.at (through_assigned net loop.at loop.at loop.here) in
      record {
        main = of.main;
        found = of.found;
        placed = placed;
        order = of.order;
        at = loop.at;
        standing = a.0;
        there = a.1;
        here = loop_of_net loop.at a.0 a.1 loop.here;
        first = λ x y less e r. loop.first x less (loop_of_circuit x y e r);
        is = sym (of.is.leaves_are loop.at a.0 loop.leaf a.1 loop.there).place ∙ loop.is;
      }

  pub first_of_circuit : (place : Place) → IsFirstLoopOf design place → IsFirstLoop net place
  first_of_circuit place loop =
      let same : loop.placed ≡ placed = one_placed design loop.main of.main loop.placed placed loop.found of.found loop.order of.order in
      let there : slice_get (all_leaves placed) loop.at ≡ Some loop.standing = ap (λ p. slice_get (all_leaves p) loop.at) (sym same) ∙ loop.there in
      let a = leaf_of_entry loop.at loop.standing there in
      record {
        at = loop.at;
        leaf = a.0;
        there = a.1;
        here = loop_of_circuit loop.at loop.standing there loop.here;
        first = λ x less t.
            let b = entry_of x (through_assigned net x x t) in
            loop.first x b.0 less (ap (λ p. slice_get (all_leaves p) x) same ∙ b.1) (loop_of_net x b.0 b.1 t);
        is = (of.is.leaves_are loop.at loop.standing a.0 there a.1).place ∙ loop.is;
      }
