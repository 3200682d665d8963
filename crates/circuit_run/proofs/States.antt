-- For a state and inputs that are in range there are those of the net that match them.
use Rattle.std.proofs.Common.{◌≡◌, ◌≢◌, ℕ, ◌==◌, ◌<◌, ◌&&◌, not, Bool, true, false, List, [], ◌∷◌, map, length, Option, Some, None, ℤ, pos, refl, sym, ap, ap₂, ◌∙◌, subst, true≢false, slice_get}
use Rattle.std.specs.Prelude.{Contains}
use Rattle.std.proofs.lemmas.Option.{slice_get-map}
use Rattle.bit_words.specs.Values.{InRange}
use Rattle.fir_types.specs.declared.fir_type.FirType.{FirType}
use Rattle.fir_types.specs.declared.leaf.TypeLeaf.{TypeLeaf}
use Rattle.fir_types.specs.declared.leaf.PathStep.{PathStep}
use Rattle.fir_types.specs.declared.leaf.PathStep.TheVariants as step
use Rattle.fir_types.specs.declared.memory.Memory.{Memory}
use Rattle.fir_types.specs.Leaves.{leaves}
use Rattle.fir_types.specs.Memories.{read_latency_of}
use Rattle.fir_tree.specs.LeafNames.{Texts}
use Rattle.fir_meaning.specs.Components.{Design, Component, Sort, An_input, An_output, A_wire, A_register, A_reset_register, A_memory, An_instance, A_node, flow_of, is_clock, kind_of_leaf, width_of_leaf}
use Rattle.fir_meaning.specs.States.{State, Inputs, Stands, HasOneSettled, is_register, is_port, is_source}
use Rattle.fir_meaning.proofs.Settling.{memory_way}
use Rattle.ground_net.specs.declared.net.Leaf.{Leaf as NetLeaf}
use Rattle.ground_net.specs.declared.net.Net.{Net}
use Rattle.ground_net.specs.declared.net.NetMemory.{NetMemory}
use Rattle.ground_net.specs.declared.net.NetRegister.{NetRegister}
use Rattle.ground_net.specs.declared.net.PortLeaf.{PortLeaf}
use Rattle.ground_net.specs.declared.net.Role.TheVariants as role
use Rattle.ground_net.specs.Reads.{IsOrder}
use Rattle.ground_net.specs.Watching.{inputs}
use Rattle.ground_net.specs.Shapes.{Shape}
use Rattle.ground_net.specs.Cycles.{NetState, Capture, captures}
use Rattle.ground_net.specs.Cycles as cycles
use Rattle.ground_net.specs.Nets.{IsIn, IsWithin, AreInputs, leaf_shape, element_shape, shape_or_none}
use Rattle.net_of_circuit.specs.FlatOrder.{Placed, Standing, all_leaves, all_memories, memory_in}
use Rattle.net_of_circuit.specs.NetOf.{Given, Without_value, Held, Kept, Driven, part_of_role, part_of, is_input_of_main, is_late_read, MatchingInputs}
use Rattle.net_laws.specs.Serves.{Serves, Matches}
use Rattle.net_laws.proofs.Numbers.{below_length}
use Rattle.net_laws.proofs.Seen.{part_is, in_list}
use Rattle.net_laws.proofs.Traces.{one_settled}
use Rattle.circuit_run.specs.Ranges.{IsInRange, AreInRange}
use Rattle.circuit_run.proofs.Lists.{some_same, none_some, get_item, some_of, filter_map_from}
use Rattle.circuit_run.proofs.Fed.{input_at}

-- What a leaf is, from its part

no_value : {B : Type 0} → Without_value ≡ Held → B
no_value e = absurd cc

given_held : {B : Type 0} → Given ≡ Held → B
given_held e = absurd cc

kept_held : {B : Type 0} → Kept ≡ Held → B
kept_held e = absurd cc

driven_held : {B : Type 0} → Driven ≡ Held → B
driven_held e = absurd cc

no_kept : {B : Type 0} → Without_value ≡ Kept → B
no_kept e = absurd cc

held_kept : {B : Type 0} → Held ≡ Kept → B
held_kept e = absurd cc

given_kept : {B : Type 0} → Given ≡ Kept → B
given_kept e = absurd cc

driven_kept : {B : Type 0} → Driven ≡ Kept → B
driven_kept e = absurd cc

no_given : {B : Type 0} → Without_value ≡ Given → B
no_given e = absurd cc

held_given : {B : Type 0} → Held ≡ Given → B
held_given e = absurd cc

kept_given : {B : Type 0} → Kept ≡ Given → B
kept_given e = absurd cc

driven_given : {B : Type 0} → Driven ≡ Given → B
driven_given e = absurd cc

module _ (y : Standing) where
  held_is : part_of y ≡ Held → is_register y.0.c.declaration.sort ≡ true
  held_is e = by (is_clock y.1) (is_register y.0.c.declaration.sort) (is_input_of_main y.0.path y.0.c y.1) (is_late_read y.0.c.declaration.sort y.1) refl refl refl refl where
    by : (clock register input late : Bool) → is_clock y.1 ≡ clock → is_register y.0.c.declaration.sort ≡ register → is_input_of_main y.0.path y.0.c y.1 ≡ input → is_late_read y.0.c.declaration.sort y.1 ≡ late
        → is_register y.0.c.declaration.sort ≡ true
    by clock true input late a b c d = b
    by true false input late a b c d = no_value (sym (part_is y true false input late a b c d) ∙ e)
    by false false true late a b c d = given_held (sym (part_is y false false true late a b c d) ∙ e)
    by false false false true a b c d = kept_held (sym (part_is y false false false true a b c d) ∙ e)
    by false false false false a b c d = driven_held (sym (part_is y false false false false a b c d) ∙ e)

  kept_is : part_of y ≡ Kept → is_late_read y.0.c.declaration.sort y.1 ≡ true
  kept_is e = by (is_clock y.1) (is_register y.0.c.declaration.sort) (is_input_of_main y.0.path y.0.c y.1) (is_late_read y.0.c.declaration.sort y.1) refl refl refl refl where
    by : (clock register input late : Bool) → is_clock y.1 ≡ clock → is_register y.0.c.declaration.sort ≡ register → is_input_of_main y.0.path y.0.c y.1 ≡ input → is_late_read y.0.c.declaration.sort y.1 ≡ late
        → is_late_read y.0.c.declaration.sort y.1 ≡ true
    by clock register input true a b c d = d
    by true register input false a b c d = no_kept (sym (part_is y true register input false a b c d) ∙ e)
    by false true input false a b c d = held_kept (sym (part_is y false true input false a b c d) ∙ e)
    by false false true false a b c d = given_kept (sym (part_is y false false true false a b c d) ∙ e)
    by false false false false a b c d = driven_kept (sym (part_is y false false false false a b c d) ∙ e)

  given_is : part_of y ≡ Given → (is_clock y.1 ≡ false) × (is_input_of_main y.0.path y.0.c y.1 ≡ true)
  given_is e = by (is_clock y.1) (is_register y.0.c.declaration.sort) (is_input_of_main y.0.path y.0.c y.1) (is_late_read y.0.c.declaration.sort y.1) refl refl refl refl where
    by : (clock register input late : Bool) → is_clock y.1 ≡ clock → is_register y.0.c.declaration.sort ≡ register → is_input_of_main y.0.path y.0.c y.1 ≡ input → is_late_read y.0.c.declaration.sort y.1 ≡ late
        → (is_clock y.1 ≡ false) × (is_input_of_main y.0.path y.0.c y.1 ≡ true)
    by false false true late a b c d = (a, c)
    by true register input late a b c d = no_given (sym (part_is y true register input late a b c d) ∙ e)
    by false true input late a b c d = held_given (sym (part_is y false true input late a b c d) ∙ e)
    by false false false true a b c d = kept_given (sym (part_is y false false false true a b c d) ∙ e)
    by false false false false a b c d = driven_given (sym (part_is y false false false false a b c d) ∙ e)

both_true : (a b : Bool) → (a && b) ≡ true → (a ≡ true) × (b ≡ true)
both_true true b e = (refl, e)
both_true false b e = absurd (true≢false (sym e))

main_input : (path : List ℕ) (c : Component) (leaf : TypeLeaf) → is_input_of_main path c leaf ≡ true → (path ≡ []) × (is_port c.declaration.sort ≡ true) × (is_source (flow_of c.declaration.sort leaf.flip) ≡ true)
main_input [] c leaf e = let b = both_true (is_port c.declaration.sort) (is_source (flow_of c.declaration.sort leaf.flip)) e in (refl, b.0, b.1)
main_input (i ∷ path) c leaf e = absurd (true≢false (sym e))

not_zero : (n : ℕ) → not (n == 0) ≡ true → n ≢ 0
not_zero n e z = true≢false (sym e ∙ ap (λ m. not (m == 0)) z)

not_true : (b : Bool) → not b ≡ true → b ≡ false
not_true true e = absurd (true≢false (sym e))
not_true false e = refl

late_is : (sort : Sort) (leaf : TypeLeaf) → is_late_read sort leaf ≡ true → (memory : Memory) × (sort ≡ A_memory memory) × (read_latency_of memory ≢ 0) × (leaf.flip ≡ false)
late_is (A_memory memory) leaf e =
    let b = both_true (not (read_latency_of memory == 0)) (not leaf.flip) e in
    (memory, refl, not_zero (read_latency_of memory) b.0, not_true leaf.flip b.1)
late_is An_input leaf e = absurd (true≢false (sym e))
late_is An_output leaf e = absurd (true≢false (sym e))
late_is A_wire leaf e = absurd (true≢false (sym e))
late_is (A_register clock) leaf e = absurd (true≢false (sym e))
late_is (A_reset_register clock reset init) leaf e = absurd (true≢false (sym e))
late_is (An_instance target) leaf e = absurd (true≢false (sym e))
late_is (A_node expr) leaf e = absurd (true≢false (sym e))

memory_is : (q : Placed) (sort : Sort) (p : Placed) (memory : Memory) → memory_in q sort ≡ Some (p, memory) → (q ≡ p) × (sort ≡ A_memory memory)
memory_is q (A_memory held) p memory e = (ap (λ b. b.0) (some_same e), ap (λ b. A_memory b.1) (some_same e))
memory_is q An_input p memory e = none_some e
memory_is q An_output p memory e = none_some e
memory_is q A_wire p memory e = none_some e
memory_is q (A_register clock) p memory e = none_some e
memory_is q (A_reset_register clock reset init) p memory e = none_some e
memory_is q (An_instance target) p memory e = none_some e
memory_is q (A_node expr) p memory e = none_some e

-- What the net holds and is given

abbrev register_at : State → Option Standing → ℤ
register_at s (Some y) = s.registers y.0.path y.0.c.declaration.name y.1.path
register_at s None = pos 0

abbrev register_of : State → List Standing → Option NetRegister → ℤ
register_of s all (Some r) = register_at s (slice_get all r.leaf)
register_of s all None = pos 0

abbrev leaf_at : State → Placed → ℕ → Option TypeLeaf → ℤ
leaf_at s p element (Some leaf) = s.contents p.path p.c.declaration.name element leaf.path
leaf_at s p element None = pos 0

abbrev element_of : State → ℕ → ℕ → Option (Placed × Memory) → Option FirType → ℤ
element_of s element k (Some p) (Some typ) = leaf_at s p.0 element (slice_get (leaves typ) k)
element_of s element k _ _ = pos 0

abbrev way_at : State → Placed → List PathStep → ℤ
way_at s p (step.Field port ∷ step.Field field ∷ way) = s.captured p.path p.c.declaration.name port way
way_at s p _ = pos 0

abbrev captured_at : State → Option Standing → ℤ
captured_at s (Some y) = way_at s y.0 y.1.path
captured_at s None = pos 0

abbrev capture_of : State → List Standing → Option Capture → ℤ
capture_of s all (Some c) = captured_at s (slice_get all c.leaf)
capture_of s all None = pos 0

abbrev given_at : Inputs → Option Standing → ℤ
given_at given (Some y) = given y.0.c.declaration.name y.1.path
given_at given None = pos 0

abbrev given_of : Inputs → List Standing → Option PortLeaf → ℤ
given_of given all (Some p) = given_at given (slice_get all p.leaf)
given_of given all None = pos 0

module _ (texts : Texts) (design : Design) (net : Net) (serves : Serves texts design net) where
  abbrev all : List Standing
  all = all_leaves serves.of.placed

  -- the entry of a leaf of the net
  entry : (x : ℕ) (leaf : NetLeaf) → slice_get net.leaves x ≡ Some leaf → (y : Standing) × (slice_get all x ≡ Some y)
  entry x leaf e = get_item all x (subst (λ n. x < n) serves.of.is.counted (below_length net.leaves x leaf e))

  part_there : (x : ℕ) (y : Standing) (leaf : NetLeaf) → slice_get all x ≡ Some y → slice_get net.leaves x ≡ Some leaf → part_of y ≡ part_of_role leaf.role
  part_there x y leaf e f = sym (serves.of.is.leaves_are x y leaf e f).part

  -- what fits the circuit's leaf fits the net's
  ranged : (x : ℕ) (y : Standing) (leaf : NetLeaf) → slice_get all x ≡ Some y → slice_get net.leaves x ≡ Some leaf → (v : ℤ) → InRange (kind_of_leaf y.1) (width_of_leaf y.1) v → IsIn (leaf_shape leaf) v
  ranged x y leaf e f v h =
      let is = serves.of.is.leaves_are x y leaf e f in
      subst (λ w. InRange leaf.kind w v) (sym is.width) (subst (λ k. InRange k (width_of_leaf y.1) v) (sym is.kind) h)

  module _ (s : State) where
    abbrev net_state : NetState
    net_state = record {
      registers = λ n. register_of s all (slice_get net.registers n);
      contents = λ m element k. element_of s element k (slice_get (all_memories serves.of.placed) m) (slice_get serves.of.elements m);
      captured = λ n. capture_of s all (slice_get (captures net) n);
    }

    register_same : (n : ℕ) (r : NetRegister) (y : Standing) → slice_get net.registers n ≡ Some r → slice_get all r.leaf ≡ Some y → net_state.registers n ≡ s.registers y.0.path y.0.c.declaration.name y.1.path
    register_same n r y e f = ap (register_of s all) e ∙ ap (register_at s) f

    element_same : (m element k : ℕ) (p : Placed) (memory : Memory) (typ : FirType) (leaf : TypeLeaf) → slice_get (all_memories serves.of.placed) m ≡ Some (p, memory) → slice_get serves.of.elements m ≡ Some typ
        → slice_get (leaves typ) k ≡ Some leaf → net_state.contents m element k ≡ s.contents p.path p.c.declaration.name element leaf.path
    element_same m element k p memory typ leaf e f g = ap₂ (element_of s element k) e f ∙ ap (leaf_at s p element) g

    capture_same : (n : ℕ) (c : Capture) (y : Standing) (port field : ℕ) (way : List PathStep) → slice_get (captures net) n ≡ Some c → slice_get all c.leaf ≡ Some y → y.1.path ≡ step.Field port ∷ step.Field field ∷ way
        → net_state.captured n ≡ s.captured y.0.path y.0.c.declaration.name port way
    capture_same n c y port field way e f g = ap (capture_of s all) e ∙ (ap (captured_at s) f ∙ ap (way_at s y.0) g)

    state_matches : Matches serves s net_state
    state_matches = record {
      registers = λ x n y e held.
          let r = serves.of.well_formed.registers x n held in
          sym (register_same n r.0 y r.1 (ap (slice_get all) r.2 ∙ e));
      contents = λ m element k p memory typ leaf e f g. sym (element_same m element k p memory typ leaf e f g);
      captured = λ x n y port field way e held g.
          let c = serves.of.well_formed.captured x n held in
          sym (capture_same n c.0 y port field way c.1 (ap (slice_get all) c.2 ∙ e) g);
    }

    module _ (inside : IsInRange design s) where
      registers_within : (n : ℕ) (t : Shape) → slice_get (map (λ (r : NetRegister). shape_or_none (slice_get net.leaves r.leaf)) net.registers) n ≡ Some t → IsIn t (net_state.registers n)
      registers_within n t at =
          let r = some_of (λ (r : NetRegister). shape_or_none (slice_get net.leaves r.leaf)) (slice_get net.registers n) t (sym (slice_get-map (λ (r : NetRegister). shape_or_none (slice_get net.leaves r.leaf)) net.registers n) ∙ at) in
          let held = serves.of.well_formed.register_leaves n r.0 r.1 in
          let y = entry r.0.leaf held.leaf held.there in
          let register = held_is y.0 (part_there r.0.leaf y.0 held.leaf y.1 held.there ∙ ap part_of_role held.is) in
          let stands = (serves.lists.stands r.0.leaf y.0 y.1).0 in
          let fits = inside.registers y.0.0.path y.0.0.m y.0.0.c y.0.1 stands register in
          let shape_is : leaf_shape held.leaf ≡ t = ap shape_or_none (sym held.there) ∙ r.2 in
          subst (IsIn t) (sym (register_same n r.0 y.0 r.1 y.1)) (subst (λ u. IsIn u (s.registers y.0.0.path y.0.0.c.declaration.name y.0.1.path)) shape_is (ranged r.0.leaf y.0 held.leaf y.1 held.there _ fits))

      contents_within : (m element k : ℕ) (nm : NetMemory) (t : Shape) → slice_get net.memories m ≡ Some nm → slice_get (map element_shape nm.elements) k ≡ Some t → IsIn t (net_state.contents m element k)
      contents_within m element k nm t there at =
          let is = serves.of.is in
          let below : m < length net.memories = below_length net.memories m nm there in
          let both = get_item (all_memories serves.of.placed) m (subst (λ n. m < n) is.all_memories_there below) in
          let typ = get_item serves.of.elements m (subst (λ n. m < n) (sym is.all_elements_there) (subst (λ n. m < n) is.all_memories_there below)) in
          let p : Placed = both.0.0 in
          let memory : Memory = both.0.1 in
          let of = is.memories m p memory typ.0 nm both.1 typ.1 there in
          let kept = some_of element_shape (slice_get nm.elements k) t (sym (slice_get-map element_shape nm.elements k) ∙ at) in
          let leaf = get_item (leaves typ.0) k (subst (λ n. k < n) of.counted (below_length nm.elements k kept.0 kept.1)) in
          let facts = of.elements k leaf.0 kept.0 leaf.1 kept.1 in
          let from = filter_map_from (λ (q : Placed). memory_in q q.c.declaration.sort) serves.of.placed m (p, memory) both.1 in
          let found = memory_is from.1 from.1.c.declaration.sort p memory from.3 in
          let placed_at : slice_get serves.of.placed from.0 ≡ Some p = from.2 ∙ ap Some found.0 in
          let sort : p.c.declaration.sort ≡ A_memory memory = ap (λ (q : Placed). q.c.declaration.sort) (sym found.0) ∙ found.1 in
          let component = serves.lists.components from.0 p placed_at in
          let fits = inside.contents p.path p.m p.c memory typ.0 leaf.0 element component.0 component.1 sort of.is_element (in_list (leaves typ.0) k leaf.0 leaf.1) in
          let v : ℤ = s.contents p.path p.c.declaration.name element leaf.0.path in
          let kept_fits : IsIn (element_shape kept.0) v = subst (λ w. InRange kept.0.kind w v) (sym facts.1) (subst (λ d. InRange d (width_of_leaf leaf.0) v) (sym facts.0) fits) in
          subst (IsIn t) (sym (element_same m element k p memory typ.0 leaf.0 both.1 typ.1 leaf.1)) (subst (λ u. IsIn u v) kept.2 kept_fits)

      captured_within : (n : ℕ) (t : Shape) → slice_get (map (λ (c : Capture). shape_or_none (slice_get net.leaves c.leaf)) (captures net)) n ≡ Some t → IsIn t (net_state.captured n)
      captured_within n t at =
          let c = some_of (λ (c : Capture). shape_or_none (slice_get net.leaves c.leaf)) (slice_get (captures net) n) t (sym (slice_get-map (λ (c : Capture). shape_or_none (slice_get net.leaves c.leaf)) (captures net) n) ∙ at) in
          let held = serves.of.well_formed.captured_leaves n c.0 c.1 in
          let y = entry c.0.leaf held.leaf held.there in
          let late = late_is y.0.0.c.declaration.sort y.0.1 (kept_is y.0 (part_there c.0.leaf y.0 held.leaf y.1 held.there ∙ ap part_of_role held.is)) in
          let stands = (serves.lists.stands c.0.leaf y.0 y.1).0 in
          let bundle = serves.has.memories y.0.0.path y.0.0.m y.0.0.c late.0 stands.reached stands.declared late.1 in
          let way = memory_way late.0 bundle.0 y.0.1 (subst (λ ls. Contains ls y.0.1) bundle.1 stands.listed) in
          let fits = inside.captured y.0.0.path y.0.0.m y.0.0.c y.0.1 late.0 way.0 way.1 way.2 stands late.1 late.2 late.3 way.3 in
          let shape_is : leaf_shape held.leaf ≡ t = ap shape_or_none (sym held.there) ∙ c.2 in
          subst (IsIn t) (sym (capture_same n c.0 y.0 way.0 way.1 way.2 c.1 y.1 way.3))
          (subst (λ u. IsIn u (s.captured y.0.0.path y.0.0.c.declaration.name way.0 way.2)) shape_is (ranged c.0.leaf y.0 held.leaf y.1 held.there _ fits))

      state_within : IsWithin net net_state
      state_within = record { registers = registers_within; contents = contents_within; captured = captured_within }

  module _ (given : Inputs) where
    abbrev numbered : cycles.Inputs
    numbered n = given_of given all (slice_get (inputs net) n)

    given_same : (x n : ℕ) (y : Standing) (leaf : NetLeaf) → slice_get all x ≡ Some y → slice_get net.leaves x ≡ Some leaf → leaf.role ≡ role.Input n → numbered n ≡ given y.0.c.declaration.name y.1.path
    given_same x n y leaf e f is = ap (given_of given all) (input_at net serves.of.well_formed x n leaf f is) ∙ ap (given_at given) e

    inputs_matching : MatchingInputs all net given numbered
    inputs_matching = record { inputs = λ x n y e held. sym (given_same x n y held.leaf e held.there held.is) }

    inputs_within : AreInRange design given → AreInputs net numbered
    inputs_within inside x n leaf there is =
        let y = entry x leaf there in
        let part = given_is y.0 (part_there x y.0 leaf y.1 there ∙ ap part_of_role is) in
        let main = main_input y.0.0.path y.0.0.c y.0.1 part.1 in
        let stands = subst (λ path. Stands design path y.0.0.m y.0.0.c y.0.1) main.0 (serves.lists.stands x y.0 y.1).0 in
        let fits = inside.inputs y.0.0.m y.0.0.c y.0.1 stands main.1 main.2 part.0 in
        subst (IsIn (leaf_shape leaf)) (sym (given_same x n y.0 leaf y.1 there is)) (ranged x y.0 leaf y.1 there _ fits)

  -- So each such state and inputs have one settled valuation.
  pub settled_once : (sequence : List ℕ) → IsOrder net sequence → (s : State) (given : Inputs) → IsInRange design s → AreInRange design given → HasOneSettled design s given
  settled_once sequence order s given inside fed =
      one_settled texts design net serves.of serves.lists serves.has serves.typed sequence order s (net_state s) given (numbered given) (state_matches s) (state_within s inside) (inputs_matching given) (inputs_within given fed)
