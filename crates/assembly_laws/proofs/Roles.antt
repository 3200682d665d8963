-- What a leaf of the net is in a cycle is what the circuit's leaf is.
use Rattle.std.proofs.Common.{◌≡◌, ℕ, ◌==◌, ◌&&◌, Bool, true, false, not, List, [], ◌∷◌, ◌++◌, take, Option, Some, refl, sym, ap, ◌∙◌, true≢false, if◌then◌else◌, ⊎_elim, inl, inr}
use Rattle.std.specs.Prelude.{◌⊎◌}
use Rattle.std.specs.List.{slice_get}
use Rattle.fir_types.specs.declared.leaf.TypeLeaf.{TypeLeaf}
use Rattle.fir_types.specs.declared.memory.Memory.{Memory}
use Rattle.fir_types.specs.Memories.{read_latency_of}
use Rattle.fir_meaning.specs.Components.{TypedModule, Component, Sort, An_input, An_output, A_wire, A_register, A_reset_register, A_memory, An_instance, A_node, flow_of, is_clock}
use Rattle.fir_meaning.specs.States.{is_port, is_register, is_source}
use Rattle.ground_net.specs.declared.circuit.DrivenModule.{DrivenModule}
use Rattle.ground_net.specs.declared.circuit.GroundRole.{GroundRole}
use Rattle.ground_net.specs.declared.circuit.GroundRole.TheVariants.{Input, Clock, Register, Plain}
use Rattle.ground_net.specs.declared.net.Leaf.{Leaf}
use Rattle.ground_net.specs.declared.net.Net.{Net}
use Rattle.net_of_circuit.specs.FlatOrder.{Standing}
use Rattle.net_of_circuit.specs.NetOf.{Part, Given, Without_value, Held, Kept, Driven, part_of_role, part_of, is_input_of_main, is_late_read}
use Rattle.net_laws.proofs.Seen.{part_is, port_late}
use Rattle.net_of_circuit.specs.Numbers.{role_of}
use Rattle.flatten_instances.specs.Flat.{role_at, is_input}
use Rattle.memory_ports.specs.declared.reads.ReadData.{ReadData}
use Rattle.memory_ports.specs.Placing.{IsPlaced, data_in, role_behind, parts_of}
use Rattle.memory_ports.specs.Placing as placing
use Rattle.lowering_laws.proofs.Heights.{some_same}
use Rattle.lowering_laws.proofs.Matching.{at_main, behind}
use Rattle.lowering_laws.proofs.Whole.{Setting, Way, leaf_at}
use Rattle.lowering_laws.proofs.Drivers.{all, role_is}
use Rattle.lowering_laws.proofs.Nets.{shown_at}
use Rattle.assembly_laws.proofs.Showing.{ShowsData, nothing, what_is_read, shows_data, is_load, is_late, equal_zero}

abbrev as_part : placing.Part → Part
as_part placing.Given = Given
as_part placing.Without_value = Without_value
as_part placing.Held = Held
as_part placing.Kept = Kept
as_part placing.Driven = Driven

part_behind : (before : List placing.Part) (p : placing.Part) → part_of_role (role_behind before p) ≡ as_part p
part_behind before placing.Given = refl
part_behind before placing.Without_value = refl
part_behind before placing.Held = refl
part_behind before placing.Kept = refl
part_behind before placing.Driven = refl

-- only an input becomes an assignment below main
role_stays : (path : List ℕ) (r : GroundRole) → is_input r ≡ false → role_at path r ≡ r
role_stays [] r e = refl
role_stays (i ∷ path) Input e = absurd (true≢false e)
role_stays (i ∷ path) Clock e = refl
role_stays (i ∷ path) Register e = refl
role_stays (i ∷ path) Plain e = refl

below_main : (path : List ℕ) (i : ℕ) (c : Component) (leaf : TypeLeaf) → is_input_of_main (path ++ i ∷ []) c leaf ≡ false
below_main [] i c leaf = refl
below_main (j ∷ path) i c leaf = refl

no_input : (path : List ℕ) (c : Component) (leaf : TypeLeaf) → (is_port c.declaration.sort && is_source (flow_of c.declaration.sort leaf.flip)) ≡ false → is_input_of_main path c leaf ≡ false
no_input [] c leaf e = e
no_input (i ∷ path) c leaf e = refl

port_true : (a b : Bool) → (a && b) ≡ true → a ≡ true
port_true true b e = refl
port_true false b e = absurd (true≢false (sym e))

and_false : (a : Bool) → (a && false) ≡ false
and_false true = refl
and_false false = refl

and_true : (a : Bool) → (a && true) ≡ a
and_true true = refl
and_true false = refl

-- read data alone come late
never_late : (sort : Sort) (leaf : TypeLeaf) → ((memory : Memory) → sort ≡ A_memory memory → leaf.flip ≡ false → ⊥) → is_late_read sort leaf ≡ false
never_late (A_memory memory) leaf never = by leaf.flip refl where
  by : (b : Bool) → leaf.flip ≡ b → is_late_read (A_memory memory) leaf ≡ false
  by true e = ap (λ b. not (read_latency_of memory == 0) && not b) e ∙ and_false (not (read_latency_of memory == 0))
  by false e = absurd (never memory refl e)
never_late An_input leaf never = refl
never_late An_output leaf never = refl
never_late A_wire leaf never = refl
never_late (A_register clock) leaf never = refl
never_late (A_reset_register clock reset init) leaf never = refl
never_late (An_instance target) leaf never = refl
never_late (A_node expr) leaf never = refl

module _ (z : Setting) where
  -- whether an entry shows late data, and what it is for a plain leaf
  record Late (x : ℕ) (y : Standing) : Type 0 where
    late : Bool
    is : is_late_read y.0.c.declaration.sort y.1 ≡ late
    part : (shown : Option ReadData) → slice_get (data_in z.flat) x ≡ Some shown → as_part (placing.part_of Plain shown) ≡ (if late then Kept else Driven)

  late_of : (x : ℕ) (y : Standing) → ShowsData z x y → Late x y
  late_of x y (nothing e no_data) = record {
    late = false;
    is = never_late y.0.c.declaration.sort y.1 no_data;
    part = λ shown h. ap (λ o. as_part (placing.part_of Plain o)) (some_same (sym h ∙ e));
  }
  late_of x y (what_is_read shows e r) = by (read_latency_of r.memory == 0) refl where
    late_is : is_late_read y.0.c.declaration.sort y.1 ≡ not (read_latency_of r.memory == 0)
    late_is = ap (λ s. is_late_read s y.1) r.sort ∙ (ap (λ b. not (read_latency_of r.memory == 0) && not b) r.source ∙ and_true (not (read_latency_of r.memory == 0)))

    by : (b : Bool) → (read_latency_of r.memory == 0) ≡ b → Late x y
    by true q = record {
      late = false;
      is = late_is ∙ ap not q;
      part = λ shown h. ap (λ o. as_part (placing.part_of Plain o)) (some_same (sym h ∙ e) ∙ ap Some (is_load z y shows r (equal_zero (read_latency_of r.memory) q)));
    }
    by false q = record {
      late = true;
      is = late_is ∙ ap not q;
      part = λ shown h. ap (λ o. as_part (placing.part_of Plain o)) (some_same (sym h ∙ e) ∙ ap Some (is_late z y shows r q));
    }

  -- a port of main is given, and one below is an assignment
  given_or : {path : List ℕ} {n : ℕ} {m : TypedModule} {d : DrivenModule} {names : List ℕ} → Way z path n m d names → (c : Component) (leaf : TypeLeaf)
      → ((path ≡ []) × (names ≡ [])) ⊎ ((role_at path Input ≡ Plain) × (is_input_of_main names c leaf ≡ false))
  given_or (at_main m d at known) c leaf = inl (refl, refl)
  given_or (behind {names = front} i at target c' gi inner child leads part there placed named at' known) c leaf = inr (refl, below_main front c'.declaration.name c leaf)

  module _ (net : Net) (is : IsPlaced z.flat net) where
    -- The part of a leaf.
    pub part_at : (x : ℕ) (y : Standing) (leaf : Leaf) → slice_get (all z) x ≡ Some y → slice_get net.leaves x ≡ Some leaf → part_of_role leaf.role ≡ part_of y
    part_at x y leaf there e =
        let at = leaf_at z x y there in
        let shown = shown_at z net is x at.leaf at.leaf_there in
        ap part_of_role (is.roles x at.leaf shown.0 leaf at.leaf_there shown.1 e)
        ∙ (part_behind (take x (parts_of z.flat.leaves (data_in z.flat))) (placing.part_of at.leaf.role shown.0)
        ∙ (ap (λ r. as_part (placing.part_of r shown.0)) at.role
        ∙ by at.s.path (given_or at.at.leads y.0.c y.1) shown.0 (late.part shown.0 shown.1) (is_clock y.1) (is_register y.0.c.declaration.sort) (is_port y.0.c.declaration.sort && is_source (flow_of y.0.c.declaration.sort y.1.flip)) refl refl refl))
      where
        late : Late x y
        late = late_of x y (shows_data z x y there)

        by : (path : List ℕ) → ((path ≡ []) × (y.0.path ≡ [])) ⊎ ((role_at path Input ≡ Plain) × (is_input_of_main y.0.path y.0.c y.1 ≡ false)) → (shown : Option ReadData) → as_part (placing.part_of Plain shown) ≡ (if late.late then Kept else Driven)
            → (clock register input : Bool) → is_clock y.1 ≡ clock → is_register y.0.c.declaration.sort ≡ register → (is_port y.0.c.declaration.sort && is_source (flow_of y.0.c.declaration.sort y.1.flip)) ≡ input
            → as_part (placing.part_of (role_at path (role_of (y.0.c, y.1))) shown) ≡ part_of y
        by path o shown p true register input a b c =
            ap (λ r. as_part (placing.part_of (role_at path r) shown)) (role_is y.0.c y.1 true register input a b c)
            ∙ (ap (λ r. as_part (placing.part_of r shown)) (role_stays path Clock refl)
            ∙ sym (part_is y true register (is_input_of_main y.0.path y.0.c y.1) (is_late_read y.0.c.declaration.sort y.1) a b refl refl))
        by path o shown p false true input a b c =
            ap (λ r. as_part (placing.part_of (role_at path r) shown)) (role_is y.0.c y.1 false true input a b c)
            ∙ (ap (λ r. as_part (placing.part_of r shown)) (role_stays path Register refl)
            ∙ sym (part_is y false true (is_input_of_main y.0.path y.0.c y.1) (is_late_read y.0.c.declaration.sort y.1) a b refl refl))
        by path o shown p false false true a b c =
            ap (λ r. as_part (placing.part_of (role_at path r) shown)) (role_is y.0.c y.1 false false true a b c)
            ∙ ⊎_elim
            (λ main. ap (λ l. as_part (placing.part_of (role_at l Input) shown)) main.0
            ∙ sym (part_is y false false true (is_late_read y.0.c.declaration.sort y.1) a b (ap (λ l. is_input_of_main l y.0.c y.1) main.1 ∙ c) refl))
            (λ below.
            let early : is_late_read y.0.c.declaration.sort y.1 ≡ false = port_late y.0.c.declaration.sort y.1 (port_true (is_port y.0.c.declaration.sort) (is_source (flow_of y.0.c.declaration.sort y.1.flip)) c) in
            ap (λ r. as_part (placing.part_of r shown)) below.0
            ∙ (p ∙ (ap (λ b. if b then Kept else Driven) (sym late.is ∙ early) ∙ sym (part_is y false false false false a b below.1 early))))
            o
        by path o shown p false false false a b c =
            ap (λ r. as_part (placing.part_of (role_at path r) shown)) (role_is y.0.c y.1 false false false a b c)
            ∙ (ap (λ r. as_part (placing.part_of r shown)) (role_stays path Plain refl)
            ∙ (p ∙ sym (part_is y false false false late.late a b (no_input y.0.path y.0.c y.1 c) late.is)))
