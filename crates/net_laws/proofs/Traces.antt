-- A run of the net of a circuit is a trace of the circuit, and the circuit has one settled valuation in each cycle.
use Rattle.std.proofs.Common.{◌≡◌, ℕ, List, [], ◌∷◌, map, Some, refl, sym, ap, ap₂, ◌∙◌, subst}
use Rattle.std.specs.List.{slice_get, AllZip}
use Rattle.bit_words.specs.declared.value.Value.{Value}
use Rattle.bit_words.specs.Values.{integer_of}
use Rattle.fir_tree.specs.LeafNames.{Texts}
use Rattle.fir_meaning.specs.Components.{Design, FlatLeaf, HasBundles, flat}
use Rattle.fir_meaning.specs.States.{State, Inputs, Settled, Trace, WatchedTrace, ended, cycle, IsLeafOf, Stands, leaf_of, HasOneSettled}
use Rattle.fir_meaning.specs.States as tree
use Rattle.fir_meaning.specs.Loops.{ReadsLeaf, by_connect, by_node, by_port, ReadsThrough, directly, through, HasNoLoop, HasLeaves}
use Rattle.fir_meaning.proofs.Settling.{settled_agree}
use Rattle.ground_net.specs.declared.net.Net.{Net}
use Rattle.ground_net.specs.declared.net.Role.TheVariants as role
use Rattle.ground_net.specs.Reads.{Through, itself, others, IsOrder}
use Rattle.ground_net.specs.Watching.{watched}
use Rattle.ground_net.specs.Cycles.{NetState, instant_of, HasOneSettled as NetHasOne}
use Rattle.ground_net.specs.Cycles as net_cycle
use Rattle.ground_net.specs.Nets.{IsWithin, HasRole, AreInputs, register_shapes, shape_or_none, leaf_shape as net_shape}
use Rattle.ground_net.proofs.Loops.{no_loop}
use Rattle.ground_net.proofs.Mentioning.{one_of_net}
use Rattle.ground_net.proofs.Ranges.{next_within, settled_has}
use Rattle.net_of_circuit.specs.FlatOrder.{Placed, Standing, all_leaves, all_memories, flat_of, ListsLeaves}
use Rattle.net_of_circuit.specs.NetOf.{IsNetOf, IsSeen, MatchingState, MatchingInputs, seen_valuation}
use Rattle.net_laws.specs.Typed.{IsTyped}
use Rattle.net_laws.specs.Runs.{Run, AreGiven, no_more, one_more}
use Rattle.net_laws.specs.Runs as runs
use Rattle.net_laws.proofs.Integers.{fitted_is}
use Rattle.net_laws.proofs.Seen.{get-map', own_flat, found_entry, in_list, seen_settles}
use Rattle.net_laws.proofs.Nexts.{next_matches}
use Rattle.net_laws.proofs.Numbers.{valuation_at}
use Rattle.net_laws.proofs.Rows.{map_map, watched_row}

-- What reads is a leaf of the run.
reads_of_leaf : (design : Design) (x f : FlatLeaf) → ReadsLeaf design x f → IsLeafOf design x
reads_of_leaf design x f (by_connect path m c leaf y stands driven mentioned) = record { path = path; m = m; c = c; leaf = leaf; stands = stands; is = refl }
reads_of_leaf design x f (by_node path m c leaf e k mentioned y stands sort clock there at y_in) = record { path = path; m = m; c = c; leaf = leaf; stands = stands; is = refl }
reads_of_leaf design x f (by_port path m c leaf memory port name field way stands sort latency turned behind named by goes) = record { path = path; m = m; c = c; leaf = leaf; stands = stands; is = refl }

module _ (texts : Texts) (design : Design) (net : Net) (of : IsNetOf texts design net) (lists : ListsLeaves design of.placed) (has : HasBundles design) (typed : IsTyped design) (sequence : List ℕ) (order : IsOrder net sequence) where
  abbrev placed : List Placed
  placed = of.placed

  -- What is seen of a settled valuation.
  seen_of : (s : State) (t : NetState) (numbered : net_cycle.Inputs) (rho : net_cycle.Valuation) → MatchingState (all_leaves placed) (all_memories placed) of.elements net s t → IsWithin net t
      → net_cycle.Settled net t numbered rho → IsSeen placed of.elements net s t rho
  seen_of s t numbered rho matching within settled = record { states = matching; within = within; shapes = settled_has net of.well_formed sequence order t numbered rho settled }

  -- registers show what they hold
  shows : (s : State) (t : NetState) (numbered : net_cycle.Inputs) (rho : net_cycle.Valuation) → IsWithin net t → net_cycle.Settled net t numbered rho
      → (x n : ℕ) → HasRole net x (role.Register n) → integer_of (rho x) ≡ t.registers n
  shows s t numbered rho within settled x n held =
      let register = of.well_formed.registers x n held in
      let shaped_at : slice_get (register_shapes net) n ≡ Some (net_shape held.leaf) =
      get-map' (λ r. shape_or_none (slice_get net.leaves r.leaf)) net.registers n register.0 register.1
      ∙ ap (λ o. Some (shape_or_none o)) (ap (slice_get net.leaves) register.2 ∙ held.there) in
      ap integer_of (settled.registers x n held.leaf held.there held.is)
      ∙ fitted_is held.leaf.kind held.leaf.width (t.registers n) held.leaf.narrow (within.registers n (net_shape held.leaf) shaped_at)

  module _ (s : State) (t : NetState) (given : Inputs) (numbered : net_cycle.Inputs) (rho : net_cycle.Valuation) (matching : MatchingState (all_leaves placed) (all_memories placed) of.elements net s t) (within : IsWithin net t)
      (inputs : MatchingInputs (all_leaves placed) net given numbered) (ranges : AreInputs net numbered) (settled : net_cycle.Settled net t numbered rho) where
    pub settles : Settled design s given (seen_valuation placed net t rho)
    settles = seen_settles texts design placed of.elements net of.is of.well_formed lists has typed s t given numbered rho (seen_of s t numbered rho matching within settled) inputs ranges settled

  module _ (s : State) (t : NetState) (numbered : net_cycle.Inputs) (rho : net_cycle.Valuation) (matching : MatchingState (all_leaves placed) (all_memories placed) of.elements net s t) (within : IsWithin net t)
      (settled : net_cycle.Settled net t numbered rho) where
    pub nexts_match : MatchingState (all_leaves placed) (all_memories placed) of.elements net (tree.next design s (seen_valuation placed net t rho)) (net_cycle.next net t (instant_of net t rho))
    nexts_match = next_matches texts design placed of.elements net of.is of.well_formed lists typed s t rho (seen_of s t numbered rho matching within settled) (shows s t numbered rho within settled)

    pub nexts_within : IsWithin net (net_cycle.next net t (instant_of net t rho))
    nexts_within = next_within net of.well_formed t (instant_of net t rho) (seen_of s t numbered rho matching within settled).shapes within

    pub rows_match : map integer_of (map rho (map (λ p. p.leaf) (watched net))) ≡ tree.row design (seen_valuation placed net t rho)
    rows_match =
        ap (map integer_of) (map_map rho (λ p. p.leaf) (watched net)) ∙ (map_map integer_of (λ p. rho p.leaf) (watched net)
        ∙ watched_row texts design placed of.elements net of.is lists of.main of.found of.order (typed.main of.main of.found) t rho)

  -- What is watched by numbers is watched by the leaves that stand there.
  leaves_match : (t : NetState) (rho : net_cycle.Valuation) (watch : List ℕ) (leaves : List Standing) → AllZip (λ x y. slice_get (all_leaves placed) x ≡ Some y) watch leaves
      → map integer_of (map rho watch) ≡ tree.row_of (map flat_of leaves) (seen_valuation placed net t rho)
  leaves_match t rho [] [] are = refl
  leaves_match t rho [] (y ∷ leaves) are = absurd are
  leaves_match t rho (x ∷ watch) [] are = absurd are
  leaves_match t rho (x ∷ watch) (y ∷ leaves) are = ap₂ (λ n row. n ∷ row) (sym (valuation_at design placed lists (instant_of net t rho) x y are.0)) (leaves_match t rho watch leaves are.1)

  -- A run is a trace, where each row has what is seen of the leaves.
  module _ (watch : List ℕ) (leaves : List FlatLeaf)
      (match : (s : State) (t : NetState) (numbered : net_cycle.Inputs) (rho : net_cycle.Valuation) → MatchingState (all_leaves placed) (all_memories placed) of.elements net s t → IsWithin net t
      → net_cycle.Settled net t numbered rho → map integer_of (map rho watch) ≡ tree.row_of leaves (seen_valuation placed net t rho)) where
    traces : (s : State) (t : NetState) → MatchingState (all_leaves placed) (all_memories placed) of.elements net s t → IsWithin net t → (given : List Inputs) (numbered : List net_cycle.Inputs)
        → AreGiven (all_leaves placed) net given numbered → {rows : List (List Value)} → Run net watch t numbered rows → WatchedTrace design leaves s given (map (map integer_of) rows)
    traces s t matching within [] [] no_more runs.ended = ended
    traces s t matching within [] (n ∷ numbered) given_are r = elim given_are [ ]
    traces s t matching within (g ∷ given) [] given_are r = elim given_are [ ]
    traces s t matching within (g ∷ given) (n ∷ numbered) (one_more inputs ranges later) (runs.cycle {rows = more} rho settled rest) =
        subst (λ row. WatchedTrace design leaves s (g ∷ given) (row ∷ map (map integer_of) more)) (sym (match s t n rho matching within settled))
        (cycle (seen_valuation placed net t rho) (settles s t g n rho matching within inputs ranges settled)
        (traces (tree.next design s (seen_valuation placed net t rho)) (net_cycle.next net t (instant_of net t rho)) (nexts_match s t n rho matching within settled)
        (nexts_within s t n rho matching within settled) given numbered later rest))

  pub watched_traces : (s : State) (t : NetState) → MatchingState (all_leaves placed) (all_memories placed) of.elements net s t → IsWithin net t → (given : List Inputs) (numbered : List net_cycle.Inputs)
      → AreGiven (all_leaves placed) net given numbered → (watch : List ℕ) (leaves : List Standing) → AllZip (λ x y. slice_get (all_leaves placed) x ≡ Some y) watch leaves → {rows : List (List Value)}
      → Run net watch t numbered rows → WatchedTrace design (map flat_of leaves) s given (map (map integer_of) rows)
  watched_traces s t matching within given numbered given_are watch leaves are run =
      traces watch (map flat_of leaves) (λ s t n rho m w settled. leaves_match t rho watch leaves are) s t matching within given numbered given_are run

  -- And so is one that is watched where the circuit is.
  pub run_traces : (s : State) (t : NetState) → MatchingState (all_leaves placed) (all_memories placed) of.elements net s t → IsWithin net t → (given : List Inputs) (numbered : List net_cycle.Inputs)
      → AreGiven (all_leaves placed) net given numbered → {rows : List (List Value)} → Run net (map (λ p. p.leaf) (watched net)) t numbered rows → Trace design s given (map (map integer_of) rows)
  run_traces s t matching within given numbered given_are run = traces (map (λ p. p.leaf) (watched net)) (tree.watched_leaves design) rows_match s t matching within given numbered given_are run

  -- Loops
  entry : (f : FlatLeaf) → IsLeafOf design f → (x : ℕ) × (y : Standing) × (slice_get (all_leaves placed) x ≡ Some y) × (flat_of y ≡ f)
  entry f leaf = found_entry texts design placed of.elements net of.is of.well_formed lists has typed f leaf

  chain : (x : ℕ) (y : Standing) → slice_get (all_leaves placed) x ≡ Some y → (f g : FlatLeaf) → flat_of y ≡ f → ReadsThrough design f g → (z : ℕ) × (w : Standing) × (slice_get (all_leaves placed) z ≡ Some w) × (flat_of w ≡ g) × Through net x z
  chain x y e f g is (directly r) =
      let a = of.is.all_reads x y g e (subst (λ h. ReadsLeaf design h g) (sym is) r) in
      (a.0, a.1, a.2, a.3, itself a.4)
  chain x y e f g is (through {y = h} r more) =
      let a = of.is.all_reads x y h e (subst (λ k. ReadsLeaf design k h) (sym is) r) in
      let b = chain a.0 a.1 a.2 h g a.3 more in
      (b.0, b.1, b.2, b.3, others a.4 b.4)

  pub no_loops : HasNoLoop design
  no_loops = record { none = none } where
    first_leaf : (x y : FlatLeaf) → ReadsThrough design x y → (z : FlatLeaf) × ReadsLeaf design x z
    first_leaf x y (directly r) = (y, r)
    first_leaf x y (through {y = z} r more) = (z, r)

    none : (x : FlatLeaf) → ReadsThrough design x x → ⊥
    none x r =
        let reader = reads_of_leaf design x (first_leaf x x r).0 (first_leaf x x r).1 in
        let a = entry x reader in
        let b = chain a.0 a.1 a.2 x x a.3 r in
        let same : b.0 ≡ a.0 = lists.once b.0 a.0 b.1 a.1 b.2 a.2 (b.3 ∙ sym a.3) in
        (no_loop net sequence order).none a.0 (subst (λ z. Through net a.0 z) same b.4)

  abbrev all_flat : List FlatLeaf
  all_flat = map flat_of (all_leaves placed)

  pub has_leaves : HasLeaves design all_flat
  has_leaves = record {
    listed = λ x leaf. let a = entry x leaf in in_list all_flat a.0 x (get-map' flat_of (all_leaves placed) a.0 a.1 a.2 ∙ ap Some a.3);
    closed = λ x y r.
        let a = entry x (reads_of_leaf design x y r) in
        let b = of.is.all_reads a.0 a.1 y a.2 (subst (λ k. ReadsLeaf design k y) (sym a.3) r) in
        let stands = lists.stands b.0 b.1 b.2 in
        record { path = b.1.0.path; m = b.1.0.m; c = b.1.0.c; leaf = b.1.1; stands = stands.0; is = sym (flat_standing b.0 b.1 b.2) ∙ b.3 };
  } where
    flat_standing : (x : ℕ) (y : Standing) → slice_get (all_leaves placed) x ≡ Some y → flat_of y ≡ flat y.0.m y.0.path (leaf_of y.0.c y.1)
    flat_standing x y e = let stands = lists.stands x y e in sym (own_flat texts design placed of.elements net of.is of.well_formed lists has typed y.0.path y.0.m y.0.c y.1 stands.0.declared stands.1)

  -- There is one settled valuation, where states and inputs match.
  pub one_settled : (s : State) (t : NetState) (given : Inputs) (numbered : net_cycle.Inputs) → MatchingState (all_leaves placed) (all_memories placed) of.elements net s t → IsWithin net t
      → MatchingInputs (all_leaves placed) net given numbered → AreInputs net numbered → HasOneSettled design s given
  one_settled s t given numbered matching within inputs ranges =
      let one = (one_of_net net sequence of.well_formed order t numbered).one in
      record {
        one = (seen_valuation placed net t one.0, settles s t given numbered one.0 matching within inputs ranges one.1);
        only = λ rho other a b x leaf. settled_agree design all_flat has no_loops has_leaves s given rho other a b x leaf;
      }
