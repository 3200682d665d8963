-- What main's inputs are given is what the inputs of the net are given.
use Rattle.std.proofs.Common.{◌≡◌, ℕ, ◌==◌, ◌&&◌, ◌+◌, Bool, true, false, List, [], ◌∷◌, map, Option, Some, None, option_map, refl, sym, ap, ap₂, ◌∙◌, arith, slice_get, true≢false}
use Rattle.std.specs.List.{AllZip, enumerate_from}
use Rattle.std.proofs.lemmas.Option.{slice_get-map}
use Rattle.fir_types.specs.declared.leaf.PathStep.{PathStep}
use Rattle.fir_tree.specs.LeafNames.{Texts}
use Rattle.fir_meaning.specs.Components.{Design}
use Rattle.fir_meaning.specs.Drives.{same_way}
use Rattle.ground_net.specs.declared.net.Leaf.{Leaf}
use Rattle.ground_net.specs.declared.net.Net.{Net}
use Rattle.ground_net.specs.declared.net.Ports.{Ports}
use Rattle.ground_net.specs.declared.net.Role.TheVariants as role
use Rattle.ground_net.specs.Watching.{port_leaf, inputs}
use Rattle.ground_net.specs.Nets.{HasRole, input_number as number_of_role}
use Rattle.net_of_circuit.specs.FlatOrder.{Placed, Standing, all_leaves, flat_of, same_path}
use Rattle.net_of_circuit.specs.NetOf.{MatchingInputs}
use Rattle.net_laws.specs.Runs.{AreGiven, no_more, one_more}
use Rattle.net_laws.specs.Serves.{Serves}
use Rattle.net_laws.proofs.Numbers.{position_at, flat_is, flat_itself}
use Rattle.stimulus.specs.declared.stimulus.Stimulus.{Stimulus}
use Rattle.stimulus.specs.Stimuli.{IsFormed}
use Rattle.circuit_run.specs.Ports.{PortPart, port_parts, is_given, given_parts, IsPortLeaf}
use Rattle.circuit_run.specs.Traces.{input_number, integer_given, inputs_in}
use Rattle.circuit_run.specs.NetRuns.{given_in}
use Rattle.circuit_run.proofs.Lists.{some_same, none_some, get_enumerate, filter_in, zip_left, zip_right}
use Rattle.circuit_run.proofs.Fed.{input_at, input_of, inputs_in_range}
use Rattle.circuit_run.proofs.Parts.{strip, front, front_main, front_at, parts_of_front, inputs_zip}

both_true : (a b : Bool) → (a && b) ≡ true → (a ≡ true) × (b ≡ true)
both_true true b e = (refl, e)
both_true false b e = absurd (true≢false (sym e))

pair_is : (o : Option Standing) (k : ℕ) (e : ℕ × PortPart) → option_map {U = ℕ × PortPart} (λ x. (0 + k, x)) (option_map strip o) ≡ Some e → (y : Standing) × (o ≡ Some y) × (e.0 ≡ k) × (e.1 ≡ strip y)
pair_is None k e h = none_some h
pair_is (Some y) k e h =
    let zero_plus : 0 + k ≡ k = omega arith in
    (y, refl, ap (λ z. z.0) (sym (some_same h)) ∙ zero_plus, ap (λ z. z.1) (sym (some_same h)))

module _ (texts : Texts) (design : Design) (net : Net) (serves : Serves texts design net) where
  abbrev placed : List Placed
  placed = serves.of.placed

  abbrev ports_first : List Standing
  ports_first = front texts design placed serves.of.elements net serves.of.is serves.lists serves.of.main serves.of.found serves.of.order (serves.typed.main serves.of.main serves.of.found)

  -- an input of the circuit is the leaf of its number
  entry_of : (k : ℕ) (e : ℕ × PortPart) → slice_get (given_parts design) k ≡ Some e → (y : Standing) × (slice_get (all_leaves placed) e.0 ≡ Some y) × (y.0.path ≡ []) × (e.1 ≡ strip y)
  entry_of k e there =
      let first = serves.typed.main serves.of.main serves.of.found in
      let j = filter_in (λ x. is_given x.1) (port_parts design) k e there in
      let listed : slice_get (enumerate_from 0 (map strip ports_first)) j.0 ≡ Some e =
      ap (λ l. slice_get l j.0) (sym (parts_of_front texts design placed serves.of.elements net serves.of.is serves.lists serves.of.main serves.of.found serves.of.order first)) ∙ j.1 in
      let p = pair_is (slice_get ports_first j.0) j.0 e
      (ap (option_map {U = ℕ × PortPart} (λ x. (0 + j.0, x))) (sym (slice_get-map strip ports_first j.0)) ∙ (sym (get_enumerate 0 (map strip ports_first) j.0) ∙ listed)) in
      let at = front_at texts design placed serves.of.elements net serves.of.is serves.lists serves.of.main serves.of.found serves.of.order first j.0 p.0 p.1 in
      let main = front_main texts design placed serves.of.elements net serves.of.is serves.lists serves.of.main serves.of.found serves.of.order first j.0 p.0 p.1 in
      (p.0, ap (slice_get (all_leaves placed)) p.2 ∙ at, main.0, p.3)

  zipped : AllZip (IsPortLeaf texts) (given_parts design) (inputs net)
  zipped = inputs_zip texts design placed serves.of.elements net serves.of.is serves.lists serves.of.main serves.of.found serves.of.order (serves.typed.main serves.of.main serves.of.found)

  abbrev is_named : ℕ → List PathStep → ℕ × PortPart → Bool
  is_named name way x = (x.1.0.declaration.name == name) && same_way x.1.1.path way

  -- The number of an input of the circuit is that of its leaf's role.
  number_is : (x n : ℕ) (y : Standing) → slice_get (all_leaves placed) x ≡ Some y → HasRole net x (role.Input n) → input_number design y.0.c.declaration.name y.1.path ≡ Some n
  number_is x n y there held =
      let well = serves.of.well_formed in
      let told = input_at net well x n held.leaf held.there held.is in
      let e = zip_right (IsPortLeaf texts) (given_parts design) (inputs net) zipped n (port_leaf x held.leaf) told in
      let part = entry_of n e.0 e.1 in
      let number : x ≡ e.0.0 = e.2.number in
      let same : part.0 ≡ y = some_same (sym part.1 ∙ (ap (slice_get (all_leaves placed)) (sym number) ∙ there)) in
      let itself : is_named y.0.c.declaration.name y.1.path e.0 ≡ true =
      ap (λ (p : PortPart). (p.0.declaration.name == y.0.c.declaration.name) && same_way p.1.path y.1.path) (part.3 ∙ ap strip same)
      ∙ (both_true (same_path y.0.path y.0.path) _ (flat_itself (flat_of y))).1 in
      position_at (is_named y.0.c.declaration.name y.1.path) (given_parts design) n e.0 e.1 itself
      (λ z w at named.
      let other = entry_of z w at in
      let main : y.0.path ≡ [] = ap (λ (s : Standing). s.0.path) (sym same) ∙ part.2 in
      let paths : same_path other.0.0.path y.0.path ≡ true = ap₂ same_path other.2 main in
      let alike : is_named y.0.c.declaration.name y.1.path (w.0, strip other.0) ≡ true =
      ap (λ (p : PortPart). (p.0.declaration.name == y.0.c.declaration.name) && same_way p.1.path y.1.path) (sym other.3) ∙ named in
      let flat : flat_of other.0 ≡ flat_of y = flat_is (flat_of other.0) (flat_of y) (ap₂ (λ a b. a && b) paths alike) in
      let one : w.0 ≡ x = serves.lists.once w.0 x other.0 y other.1 there flat in
      let q = zip_left (IsPortLeaf texts) (given_parts design) (inputs net) zipped z w at in
      let role_of = input_of net well z q.0 q.1 in
      let leaf_is : role_of.0 ≡ held.leaf = some_same (sym role_of.1 ∙ (ap (slice_get net.leaves) (q.2.number ∙ one) ∙ held.there)) in
      some_same (ap number_of_role (sym role_of.2 ∙ (ap (λ (l : Leaf). l.role) leaf_is ∙ held.is))))

  pub inputs_match : (stimulus : Stimulus) (cycle : ℕ) → MatchingInputs (all_leaves placed) net (inputs_in design stimulus cycle) (given_in stimulus cycle)
  inputs_match stimulus cycle = record {
    inputs = λ x n y there held. ap (integer_given stimulus.settings cycle) (number_is x n y there held);
  }

  -- So it is in all cycles.
  pub all_given : (ports : Ports) → ports.inputs ≡ inputs net → (stimulus : Stimulus) → IsFormed ports stimulus → (cycles : List ℕ)
      → AreGiven (all_leaves placed) net (map (inputs_in design stimulus) cycles) (map (given_in stimulus) cycles)
  all_given ports fed stimulus formed [] = no_more
  all_given ports fed stimulus formed (c ∷ cycles) =
      one_more (inputs_match stimulus c) (inputs_in_range net serves.of.well_formed ports fed stimulus formed c) (all_given ports fed stimulus formed cycles)
