-- States of a circuit are the same where those of its nets agree, number by number.
use Rattle.std.proofs.Common.{◌≡◌, ◌≢◌, ℕ, ◌==◌, ◌<◌, ◌&&◌, not, Bool, true, false, List, [], ◌∷◌, length, map, Some, None, option_and_then, refl, sym, ap, ap₂, ◌∙◌, subst, arith, true≢false, slice_get}
use Rattle.std.specs.Prelude.{Contains}
use Rattle.std.proofs.lemmas.Grind.{common_steps}
use Rattle.fir_types.specs.declared.fir_type.FirType.{FirType}
use Rattle.fir_types.specs.declared.leaf.TypeLeaf.{TypeLeaf}
use Rattle.fir_types.specs.declared.leaf.PathStep.{PathStep}
use Rattle.fir_types.specs.declared.leaf.PathStep.TheVariants as step
use Rattle.fir_types.specs.declared.memory.Memory.{Memory}
use Rattle.fir_types.specs.Leaves.{leaves}
use Rattle.fir_types.specs.Memories.{depth_of, read_latency_of}
use Rattle.fir_tree.specs.LeafNames.{Texts}
use Rattle.fir_meaning.specs.Components.{Design, TypedModule, Component, Sort, An_input, An_output, A_wire, A_register, A_reset_register, A_memory, An_instance, A_node, is_clock, module_at, module_named, module_within, component_named, target_in}
use Rattle.fir_meaning.specs.Elements.{IsElement}
use Rattle.fir_meaning.specs.States.{State, SameState, Stands, is_register}
use Rattle.ground_net.specs.declared.net.Leaf.{Leaf}
use Rattle.ground_net.specs.declared.net.Net.{Net}
use Rattle.ground_net.specs.declared.net.NetRegister.{NetRegister}
use Rattle.ground_net.specs.declared.net.Role.TheVariants as role
use Rattle.ground_net.specs.Cycles.{NetState, Capture, captures}
use Rattle.ground_net.specs.Nets.{IsNet, HasRole}
use Rattle.net_of_circuit.specs.FlatOrder.{Placed, Standing, InFlatOrder, all_leaves, all_memories, memory_in, ListsLeaves}
use Rattle.net_of_circuit.specs.NetOf.{Held, Kept, Given, Without_value, Driven, part_of, part_of_role, is_input_of_main, is_late_read, MatchingState, IsNetWith, read_field}
use Rattle.net_laws.specs.Typed.{IsTyped}
use Rattle.net_laws.proofs.Numbers.{below_length}
use Rattle.net_laws.proofs.Lists.{in_list, place_of, map_at, from_map_at}
use Rattle.net_laws.proofs.Seen.{part_is}
use Rattle.net_laws.proofs.Standing.{own_there, placed_at}
use Rattle.circuit_run.proofs.Lists.{get_item, filter_map_at}
use Rattle.circuit_texts.proofs.Elements.{elements_same}
use Rattle.circuit_texts.proofs.Counting.{Agree, size_of}
use Rattle.circuit_texts.proofs.Captures.{shown_by}
use Rattle.circuit_texts.proofs.States.{memory_at}
use Rattle.circuit_texts.proofs.Alike.{as_held, as_kept, memory_both, registers_same, captures_same}

-- What a leaf is, from its part

no_value : {B : Type 0} → Without_value ≡ Held → B
no_value e = absurd cc

given_held : {B : Type 0} → Given ≡ Held → B
given_held e = absurd cc

kept_held : {B : Type 0} → Kept ≡ Held → B
kept_held e = absurd cc

driven_held : {B : Type 0} → Driven ≡ Held → B
driven_held e = absurd cc

no_kept : {B : Type 0} → Without_value ≡ Kept → B
no_kept e = absurd cc

held_kept : {B : Type 0} → Held ≡ Kept → B
held_kept e = absurd cc

given_kept : {B : Type 0} → Given ≡ Kept → B
given_kept e = absurd cc

driven_kept : {B : Type 0} → Driven ≡ Kept → B
driven_kept e = absurd cc

module _ (y : Standing) where
  held_is : part_of y ≡ Held → is_register y.0.c.declaration.sort ≡ true
  held_is e = by (is_clock y.1) (is_register y.0.c.declaration.sort) (is_input_of_main y.0.path y.0.c y.1) (is_late_read y.0.c.declaration.sort y.1) refl refl refl refl where
    by : (clock register input late : Bool) → is_clock y.1 ≡ clock → is_register y.0.c.declaration.sort ≡ register → is_input_of_main y.0.path y.0.c y.1 ≡ input → is_late_read y.0.c.declaration.sort y.1 ≡ late
        → is_register y.0.c.declaration.sort ≡ true
    by clock true input late a b c d = b
    by true false input late a b c d = no_value (sym (part_is y true false input late a b c d) ∙ e)
    by false false true late a b c d = given_held (sym (part_is y false false true late a b c d) ∙ e)
    by false false false true a b c d = kept_held (sym (part_is y false false false true a b c d) ∙ e)
    by false false false false a b c d = driven_held (sym (part_is y false false false false a b c d) ∙ e)

  kept_is : part_of y ≡ Kept → is_late_read y.0.c.declaration.sort y.1 ≡ true
  kept_is e = by (is_clock y.1) (is_register y.0.c.declaration.sort) (is_input_of_main y.0.path y.0.c y.1) (is_late_read y.0.c.declaration.sort y.1) refl refl refl refl where
    by : (clock register input late : Bool) → is_clock y.1 ≡ clock → is_register y.0.c.declaration.sort ≡ register → is_input_of_main y.0.path y.0.c y.1 ≡ input → is_late_read y.0.c.declaration.sort y.1 ≡ late
        → is_late_read y.0.c.declaration.sort y.1 ≡ true
    by clock register input true a b c d = d
    by true register input false a b c d = no_kept (sym (part_is y true register input false a b c d) ∙ e)
    by false true input false a b c d = held_kept (sym (part_is y false true input false a b c d) ∙ e)
    by false false true false a b c d = given_kept (sym (part_is y false false true false a b c d) ∙ e)
    by false false false false a b c d = driven_kept (sym (part_is y false false false false a b c d) ∙ e)

  register_held : is_clock y.1 ≡ false → is_register y.0.c.declaration.sort ≡ true → part_of y ≡ Held
  register_held clock register = part_is y false true (is_input_of_main y.0.path y.0.c y.1) (is_late_read y.0.c.declaration.sort y.1) clock register refl refl

both_true : (a b : Bool) → (a && b) ≡ true → (a ≡ true) × (b ≡ true)
both_true a b e = grind (arith, common_steps)

not_zero : (n : ℕ) → not (n == 0) ≡ true → n ≢ 0
not_zero n e z = true≢false (sym e ∙ ap (λ m. not (m == 0)) z)

is_not_zero : (n : ℕ) → n ≢ 0 → not (n == 0) ≡ true
is_not_zero n h = by (n == 0) refl where
  by : (b : Bool) → (n == 0) ≡ b → not b ≡ true
  by true e = absurd (h (grind (arith, common_steps)))
  by false e = refl

not_true : (b : Bool) → not b ≡ true → b ≡ false
not_true true e = absurd (true≢false (sym e))
not_true false e = refl

late_is : (sort : Sort) (leaf : TypeLeaf) → is_late_read sort leaf ≡ true → (memory : Memory) × (sort ≡ A_memory memory) × (read_latency_of memory ≢ 0) × (leaf.flip ≡ false)
late_is (A_memory memory) leaf e =
    let b = both_true (not (read_latency_of memory == 0)) (not leaf.flip) e in
    (memory, refl, not_zero (read_latency_of memory) b.0, not_true leaf.flip b.1)
late_is An_input leaf e = absurd (true≢false (sym e))
late_is An_output leaf e = absurd (true≢false (sym e))
late_is A_wire leaf e = absurd (true≢false (sym e))
late_is (A_register clock) leaf e = absurd (true≢false (sym e))
late_is (A_reset_register clock reset init) leaf e = absurd (true≢false (sym e))
late_is (An_instance target) leaf e = absurd (true≢false (sym e))
late_is (A_node expr) leaf e = absurd (true≢false (sym e))

register_target : (sort : Sort) → is_register sort ≡ true → target_in sort ≡ None
register_target An_input e = refl
register_target An_output e = refl
register_target A_wire e = refl
register_target (A_register clock) e = refl
register_target (A_reset_register clock reset init) e = refl
register_target (A_memory memory) e = refl
register_target (An_instance target) e = absurd (true≢false (sym e))
register_target (A_node expr) e = refl

no_memory_input : (path : List ℕ) (c : Component) (leaf : TypeLeaf) (memory : Memory) → c.declaration.sort ≡ A_memory memory → is_input_of_main path c leaf ≡ false
no_memory_input [] c leaf memory sort = grind (arith, common_steps, sort)
no_memory_input (i ∷ path) c leaf memory sort = refl

late_kept : (y : Standing) (memory : Memory) → is_clock y.1 ≡ false → y.0.c.declaration.sort ≡ A_memory memory → read_latency_of memory ≢ 0 → y.1.flip ≡ false → part_of y ≡ Kept
late_kept y memory clock sort late flip =
    part_is y false false false true clock (ap is_register sort) (no_memory_input y.0.path y.0.c y.1 memory sort)
    (ap (λ s. is_late_read s y.1) sort ∙ ap₂ (λ a b. a && not b) (is_not_zero (read_latency_of memory) late) flip)

-- items of the same numbers
same_item : {A : Type 0} (f : A → ℕ) (xs ys : List A) (n : ℕ) (x : A) → map f xs ≡ map f ys → slice_get xs n ≡ Some x → (y : A) × (slice_get ys n ≡ Some y) × (f y ≡ f x)
same_item f xs ys n x e there =
    let r = from_map_at f ys n (f x) (ap (λ l. slice_get l n) (sym e) ∙ map_at f xs n x there) in
    (r.0, r.1, r.2)

module _ (texts : Texts) (design : Design) (main : TypedModule) (found : module_named design design.main ≡ Some main) (placed : List Placed) (order : InFlatOrder design [] main main.components placed)
    (lists : ListsLeaves design placed) (typed : IsTyped design) (net other : Net) (es fs : List FirType) (well : IsNet net) (formed : IsNet other)
    (is : IsNetWith texts design placed es net) (of : IsNetWith texts design placed fs other) (s s' : State) (t u : NetState)
    (first : MatchingState (all_leaves placed) (all_memories placed) es net s t) (second : MatchingState (all_leaves placed) (all_memories placed) fs other s' u) where
  abbrev Agrees : Type 0
  Agrees = Agree (length net.registers) (map size_of net.memories) (length (captures net)) t u

  entry : (x : ℕ) (leaf : Leaf) → slice_get net.leaves x ≡ Some leaf → (y : Standing) × (slice_get (all_leaves placed) x ≡ Some y)
  entry x leaf e = get_item (all_leaves placed) x (subst (λ n. x < n) is.counted (below_length net.leaves x leaf e))

  leaf_there : (x : ℕ) (y : Standing) → slice_get (all_leaves placed) x ≡ Some y → (leaf : Leaf) × (slice_get net.leaves x ≡ Some leaf) × (part_of_role leaf.role ≡ part_of y)
  leaf_there x y e =
      let l = get_item net.leaves x (subst (λ n. x < n) (sym is.counted) (below_length (all_leaves placed) x y e)) in
      (l.0, l.1, (is.leaves_are x y l.0 e l.1).part)

  -- the other net's register and captured read of a number
  register_role : (n : ℕ) (r : NetRegister) → slice_get net.registers n ≡ Some r → HasRole other r.leaf (role.Register n)
  register_role n r e =
      let o = same_item (λ (q : NetRegister). q.leaf) net.registers other.registers n r (registers_same texts design placed net other es fs well formed is of) e in
      subst (λ x. HasRole other x (role.Register n)) o.2 (formed.register_leaves n o.0 o.1)

  capture_role : (n : ℕ) (c : Capture) → slice_get (captures net) n ≡ Some c → HasRole other c.leaf (role.Captured n)
  capture_role n c e =
      let o = same_item (λ (d : Capture). d.leaf) (captures net) (captures other) n c (captures_same texts design placed net other es fs well formed is of) e in
      subst (λ x. HasRole other x (role.Captured n)) o.2 (formed.captured_leaves n o.0 o.1)

  -- From states that are the same
  module _ (same : SameState design s s') where
    registers_agree : (n : ℕ) → n < length net.registers → t.registers n ≡ u.registers n
    registers_agree n lt =
        let r = get_item net.registers n lt in
        let has = well.register_leaves n r.0 r.1 in
        let y = entry r.0.leaf has.leaf has.there in
        let register = held_is y.0 (sym (is.leaves_are r.0.leaf y.0 has.leaf y.1 has.there).part ∙ ap part_of_role has.is) in
        sym (first.registers r.0.leaf n y.0 y.1 has)
        ∙ (same.registers y.0.0.path y.0.0.m y.0.0.c y.0.1 (lists.stands r.0.leaf y.0 y.1).0 register
        ∙ second.registers r.0.leaf n y.0 y.1 (register_role n r.0 r.1))

    contents_agree : (m : ℕ) (size : ℕ × ℕ) (element k : ℕ) → slice_get (map size_of net.memories) m ≡ Some size → element < size.0 → k < size.1 → t.contents m element k ≡ u.contents m element k
    contents_agree m size element k e lt less =
        let nm = from_map_at size_of net.memories m size e in
        let below : m < length (all_memories placed) = subst (λ n. m < n) is.all_memories_there (below_length net.memories m nm.0 nm.1) in
        let om = get_item other.memories m (subst (λ n. m < n) (sym of.all_memories_there) below) in
        let b = memory_both texts design placed net other es fs well formed is of m nm.0 om.0 nm.1 om.1 in
        let many : k < length (leaves b.typ) = subst (λ n. k < n) (ap (λ (z : ℕ × ℕ). z.1) (sym nm.2) ∙ b.one.counted) less in
        let deep : element < depth_of b.memory = subst (λ n. element < n) (ap (λ (z : ℕ × ℕ). z.0) (sym nm.2) ∙ b.one.depth) lt in
        let leaf = get_item (leaves b.typ) k many in
        let stands = memory_at placed m (b.p, b.memory) b.there in
        let at = lists.components stands.0 b.p stands.1 in
        sym (first.contents m element k b.p b.memory b.typ leaf.0 b.there b.of_net leaf.1)
        ∙ (same.contents b.p.path b.p.m b.p.c b.memory b.typ leaf.0 element at.0 at.1 stands.2 b.one.is_element (in_list (leaves b.typ) k leaf.0 leaf.1) deep
        ∙ second.contents m element k b.p b.memory b.typ' leaf.0 b.there b.of_other (ap (λ ls. slice_get ls k) (sym b.same) ∙ leaf.1))

    reads_agree : (n : ℕ) → n < length (captures net) → t.captured n ≡ u.captured n
    reads_agree n lt =
        let c = get_item (captures net) n lt in
        let has = well.captured_leaves n c.0 c.1 in
        let y = entry c.0.leaf has.leaf has.there in
        let late = late_is y.0.0.c.declaration.sort y.0.1 (kept_is y.0 (sym (is.leaves_are c.0.leaf y.0 has.leaf y.1 has.there).part ∙ ap part_of_role has.is)) in
        let shown = shown_by texts design placed es net is well c.0.leaf n y.0 y.1 has in
        let field : ℕ = read_field shown.port.mode in
        sym (first.captured c.0.leaf n y.0 shown.port.name field shown.way y.1 has shown.path)
        ∙ (same.captured y.0.0.path y.0.0.m y.0.0.c y.0.1 late.0 shown.port.name field shown.way (lists.stands c.0.leaf y.0 y.1).0 late.1 late.2 late.3 shown.path
        ∙ second.captured c.0.leaf n y.0 shown.port.name field shown.way y.1 (capture_role n c.0 c.1) shown.path)

    pub same_agree : Agrees
    same_agree = record { of_registers = registers_agree; of_contents = contents_agree; of_reads = reads_agree }

  -- And from states that agree
  module _ (agree : Agree (length net.registers) (map size_of net.memories) (length (captures net)) t u) where
    same_registers : (path : List ℕ) (m : TypedModule) (c : Component) (leaf : TypeLeaf) → Stands design path m c leaf → is_register c.declaration.sort ≡ true
        → s.registers path c.declaration.name leaf.path ≡ s'.registers path c.declaration.name leaf.path
    same_registers path m c leaf stands register =
        let own = lists.own path m c leaf stands (register_target c.declaration.sort register) in
        let y : Standing = (placed_at path m c, leaf) in
        let l = leaf_there own.0 y own.1 in
        let role_is = as_held l.0.role (l.2 ∙ register_held y (typed.registers path m c leaf stands register) register) in
        let has : HasRole net own.0 (role.Register role_is.0) = record { leaf = l.0; there = l.1; is = role_is.1 } in
        let r = well.registers own.0 role_is.0 has in
        let other_has = subst (λ x. HasRole other x (role.Register role_is.0)) r.2 (register_role role_is.0 r.0 r.1) in
        first.registers own.0 role_is.0 y own.1 has
        ∙ (agree.of_registers role_is.0 (below_length net.registers role_is.0 r.0 r.1)
        ∙ sym (second.registers own.0 role_is.0 y own.1 other_has))

    same_contents : (path : List ℕ) (m : TypedModule) (c : Component) (memory : Memory) (typ : FirType) (leaf : TypeLeaf) (element : ℕ) → module_at design path ≡ Some m → component_named m c.declaration.name ≡ Some c
        → c.declaration.sort ≡ A_memory memory → IsElement c memory typ → Contains (leaves typ) leaf → element < depth_of memory
        → s.contents path c.declaration.name element leaf.path ≡ s'.contents path c.declaration.name element leaf.path
    same_contents path m c memory typ leaf element reached declared sort of_element inside below =
        let p : Placed = placed_at path m c in
        let own = own_there design path [] main m c order (ap (option_and_then (λ x. module_within design x path)) (sym found) ∙ reached) declared (ap target_in sort) in
        let there = filter_map_at (λ (q : Placed). memory_in q q.c.declaration.sort) placed own.0 p (p, memory) own.1 (ap (memory_in p) sort) in
        let lt : there.0 < length (all_memories placed) = below_length (all_memories placed) there.0 (p, memory) there.1 in
        let nm = get_item net.memories there.0 (subst (λ n. there.0 < n) (sym is.all_memories_there) lt) in
        let om = get_item other.memories there.0 (subst (λ n. there.0 < n) (sym of.all_memories_there) lt) in
        let e = get_item es there.0 (subst (λ n. there.0 < n) (sym is.all_elements_there) lt) in
        let f = get_item fs there.0 (subst (λ n. there.0 < n) (sym of.all_elements_there) lt) in
        let a = is.memories there.0 p memory e.0 nm.0 there.1 e.1 nm.1 in
        let b = of.memories there.0 p memory f.0 om.0 there.1 f.1 om.1 in
        let one : leaves e.0 ≡ leaves typ = elements_same c memory e.0 typ a.is_element of_element in
        let two : leaves f.0 ≡ leaves typ = elements_same c memory f.0 typ b.is_element of_element in
        let at = place_of (leaves typ) leaf inside in
        let many : at.0 < length nm.0.elements = subst (λ n. at.0 < n) (ap length (sym one) ∙ sym a.counted) (below_length (leaves typ) at.0 leaf at.1) in
        first.contents there.0 element at.0 p memory e.0 leaf there.1 e.1 (ap (λ ls. slice_get ls at.0) one ∙ at.1)
        ∙ (agree.of_contents there.0 (size_of nm.0) element at.0 (map_at size_of net.memories there.0 nm.0 nm.1) (subst (λ n. element < n) (sym a.depth) below) many
        ∙ sym (second.contents there.0 element at.0 p memory f.0 leaf there.1 f.1 (ap (λ ls. slice_get ls at.0) two ∙ at.1)))

    same_captured : (path : List ℕ) (m : TypedModule) (c : Component) (leaf : TypeLeaf) (memory : Memory) (port field : ℕ) (way : List PathStep) → Stands design path m c leaf → c.declaration.sort ≡ A_memory memory
        → read_latency_of memory ≢ 0 → leaf.flip ≡ false → leaf.path ≡ step.Field port ∷ step.Field field ∷ way → s.captured path c.declaration.name port way ≡ s'.captured path c.declaration.name port way
    same_captured path m c leaf memory port field way stands sort late flip steps =
        let own = lists.own path m c leaf stands (ap target_in sort) in
        let y : Standing = (placed_at path m c, leaf) in
        let l = leaf_there own.0 y own.1 in
        let role_is = as_kept l.0.role (l.2 ∙ late_kept y memory (typed.read_data path m c leaf memory stands sort flip) sort late flip) in
        let has : HasRole net own.0 (role.Captured role_is.0) = record { leaf = l.0; there = l.1; is = role_is.1 } in
        let k = well.captured own.0 role_is.0 has in
        let other_has = subst (λ x. HasRole other x (role.Captured role_is.0)) k.2 (capture_role role_is.0 k.0 k.1) in
        first.captured own.0 role_is.0 y port field way own.1 has steps
        ∙ (agree.of_reads role_is.0 (below_length (captures net) role_is.0 k.0 k.1)
        ∙ sym (second.captured own.0 role_is.0 y port field way own.1 other_has steps))

    pub agree_same : SameState design s s'
    agree_same = record { registers = same_registers; contents = same_contents; captured = same_captured }
