-- The assignments settle one after the other.
use Rattle.std.proofs.Common.{◌≡◌, ◌≢◌, ℕ, suc, ◌+◌, ◌*◌, ◌^◌, ◌<◌, ◌≤◌, nat_lt, Bool, true, false, List, [], refl, sym, ap, ◌∙◌, arith, subst, slice_get, slice_set, slice_index, get_or, length, map, if◌then◌else◌, Option, Some, None, IsSome, option_map, option_and_then, ◌⊎◌, inl, inr, ⊎_elim, pos, ℤ}
use Rattle.std.specs.Prelude.{Contains, unsigned_abs}
use Rattle.std.proofs.lemmas.List.{get_or-set_same, get_or-set_other, length-set, length-map}
use Rattle.std.proofs.lemmas.Bool.{cases_lt, ltb-true}
use Rattle.std.proofs.lemmas.Option.{get_or_from_slice_get, slice_get-map, slice_get_within}
use Rattle.bit_words.proofs.Congruence.{bits_below}
use Rattle.bit_words.specs.declared.value.Kind.TheVariants.{Unsigned}
use Rattle.bit_words.specs.declared.value.Value.{Value}
use Rattle.bit_words.specs.Values.{integer_of, bits_of}
use Rattle.prim_ops.specs.Values.{fitted, lone}
use Rattle.prim_ops.proofs.Fittings.{same_value}
use Rattle.ground_net.specs.declared.net.Net.{Net}
use Rattle.ground_net.specs.declared.net.Leaf.{Leaf}
use Rattle.ground_net.specs.declared.net.Role.{Role}
use Rattle.ground_net.specs.declared.net.Role.TheVariants as role
use Rattle.ground_net.specs.declared.net.NetMemory.{NetMemory}
use Rattle.ground_net.specs.declared.net.ElementLeaf.{ElementLeaf}
use Rattle.ground_net.specs.declared.ground.Ground.{Ground}
use Rattle.ground_net.specs.Grounds.{value}
use Rattle.ground_net.specs.Reads.{IsAssigned, Reads, IsOrder, driver_of}
use Rattle.ground_net.proofs.Layers.{value_agrees}
use Rattle.ground_net.specs.Shapes.{Shape, shape, shape_of_value}
use Rattle.ground_net.specs.Nets.{IsNet, table_of, leaf_shape, element_shape}
use Rattle.ground_net.specs.Cycles.{NetState, Inputs, Settled, instant_of, fitted_to, fitted_to_element, element_leaf, depth_of, held_at}
use Rattle.ground_net.proofs.Settling.{reads_mentions, le_split, get_there}
use Rattle.ground_net.proofs.Shaping.{fitted_shape, shapes_hold}
use Rattle.net_run.specs.declared.kept.Kept.{Kept}
use Rattle.net_run.specs.Seeing.{AreSeen, seen, value_at, held_by, held_leaf}
use Rattle.net_run.specs.Keeping.{IsKept, AreContents, AreInputValues, before_assignments, before_all, put_driven}

none_some : {A : Type 0} {x : A} → None ≡ Some x → ⊥
none_some e = cc

some_same : {A : Type 0} {x y : A} → Some x ≡ Some y → x ≡ y
some_same e = cc

-- The first k assignments have their drivers' values, and what is no assignment has what it had at the start.
pub record IsDone (net : Net) (contents : List (List Value)) (sequence : List ℕ) (start : List Value) (values : List Value) (k : ℕ) : Type 0 where
  pub long : length values ≡ length net.leaves
  pub outside : (x : ℕ) → (IsAssigned net.leaves x → ⊥) → value_at values x ≡ value_at start x
  pub done : (j : ℕ) (driver : Ground) → j < k → driver_of net (slice_index sequence j) ≡ Some driver → value_at values (slice_index sequence j) ≡ value driver (seen net values contents)
  pub shown : AreSeen net values contents

module _ (net : Net) (contents : List (List Value)) (sequence : List ℕ) (start values : List Value) (k : ℕ) (fine : IsNet net) (order : IsOrder net sequence) (below : k < length sequence)
    (d : IsDone net contents sequence start values k) where
  abbrev x : ℕ
  x = slice_index sequence k

  pub within : x < length values
  within =
      let a = order.only k below in
      let there = slice_get_within net.leaves x a.leaf a.there in
      omega (arith, there, d.long)

  pub driver_shaped : (driver : Ground) → driver_of net x ≡ Some driver → IsSome (shape driver (table_of net))
  driver_shaped driver e =
      let a = order.only k below in
      subst (λ o. IsSome o) (sym (fine.shapes x a.leaf driver a.there e)) refl

  not_later : (j y : ℕ) → j ≤ k → Reads net (slice_index sequence j) y → y ≢ x
  not_later j y most r e =
      let small : j < length sequence = omega (arith, most, below) in
      let before = order.after j y small r (subst (IsAssigned net.leaves) (sym e) (order.only k below)) in
      order.once before.0 k (omega (arith, before.1, most)) below (before.2 ∙ e)

  module _ (v : Value) (g : Ground) (driven : driver_of net x ≡ Some g) (is : v ≡ value g (seen net values contents)) where
    abbrev later : List Value
    later = slice_set values x v

    other_stays : (y : ℕ) → y ≢ x → value_at later y ≡ value_at values y
    other_stays y n = get_or-set_other values x y v (lone []) n

    here : value_at later x ≡ v
    here = get_or-set_same values x v (lone []) within

    same_value_of : (j : ℕ) → j ≤ k → (driver : Ground) → driver_of net (slice_index sequence j) ≡ Some driver → value driver (seen net values contents) ≡ value driver (seen net later contents)
    same_value_of j most driver e =
        let a = order.only j (omega (arith, most, below)) in
        value_agrees (seen net values contents) (seen net later contents) (λ m k address. refl) driver
        (λ y c. sym (other_stays y (not_later j y most (subst (λ ys. Contains ys y) (sym (reads_mentions net (slice_index sequence j) a.leaf driver a.there a.is e)) c))))

    new_one : (driver : Ground) → driver_of net x ≡ Some driver → value_at later x ≡ value driver (seen net later contents)
    new_one driver e =
        let same : g ≡ driver = some_same (sym driven ∙ e) in
        here ∙ is ∙ ap (λ g. value g (seen net values contents)) same ∙ same_value_of k (omega arith) driver e

    old_one : (j : ℕ) (driver : Ground) → j < k → driver_of net (slice_index sequence j) ≡ Some driver → value_at later (slice_index sequence j) ≡ value driver (seen net later contents)
    old_one j driver less e =
        other_stays (slice_index sequence j) (order.once j k less below) ∙ d.done j driver less e ∙ same_value_of j (omega (arith, less)) driver e

    shape_there : (y : ℕ) (t : Shape) → (table_of net).leaf y ≡ Some t → (y < x) ⊎ (x ≤ y) → shape_of_value (value_at later y) ≡ t
    shape_there y t e (inl less) = ap shape_of_value (other_stays y (λ s. omega (arith, s, less))) ∙ d.shown.leaf y t e
    shape_there y t e (inr most) = ⊎_elim
        (λ less. ap shape_of_value (other_stays y (λ s. omega (arith, s, less))) ∙ d.shown.leaf y t e)
        (λ s. shape_here y t s e)
        (le_split most)
      where
        shape_here : (y : ℕ) (t : Shape) → x ≡ y → (table_of net).leaf y ≡ Some t → shape_of_value (value_at later y) ≡ t
        shape_here y t s e =
            let a = order.only k below in
            let table = table_of net in
            let leaf_at : table.leaf x ≡ Some (leaf_shape a.leaf) = ap (option_map leaf_shape) a.there in
            let t_is : leaf_shape a.leaf ≡ t = some_same (sym leaf_at ∙ ap table.leaf s ∙ e) in
            ap (λ z. shape_of_value (value_at later z)) (sym s)
            ∙ (ap shape_of_value (here ∙ is) ∙ (shapes_hold table (seen net values contents) d.shown g (leaf_shape a.leaf) (fine.shapes x a.leaf g a.there driven) ∙ t_is))

    pub one_more : IsDone net contents sequence start later (suc k)
    one_more = record {
      long = length-set values x v ∙ d.long;
      outside = λ y n. other_stays y (λ e. n (subst (IsAssigned net.leaves) (sym e) (order.only k below))) ∙ d.outside y n;
      done = λ j driver less e. ⊎_elim
          (λ old. old_one j driver old e)
          (λ s. at_k j driver s e)
          (le_split (omega (arith, less)));
      shown = record { leaf = λ y t e. shape_there y t e (cases_lt y x); load = λ m k s address e. d.shown.load m k s address e };
    }
      where
        at_k : (j : ℕ) (driver : Ground) → j ≡ k → driver_of net (slice_index sequence j) ≡ Some driver → value_at later (slice_index sequence j) ≡ value driver (seen net later contents)
        at_k j driver s e = subst (λ i. driver_of net (slice_index sequence i) ≡ Some driver → value_at later (slice_index sequence i) ≡ value driver (seen net later contents)) (sym s) (new_one driver) e

  -- The assignment is made.
  pub assigned : (later : List Value) → later ≡ put_driven (option_map (λ driver. value driver (seen net values contents)) (driver_of net x)) x values → IsDone net contents sequence start later (k + 1)
  assigned later e =
      let g = fine.assigned x (order.only k below) in
      let put : later ≡ slice_set values x (value g.0 (seen net values contents)) = e ∙ ap (λ o. put_driven (option_map (λ driver. value driver (seen net values contents)) o) x values) g.1 in
      let next : suc k ≡ k + 1 = omega arith in
      subst (IsDone net contents sequence start later) next (subst (λ vs. IsDone net contents sequence start vs (suc k)) (sym put) (one_more (value g.0 (seen net values contents)) g.0 g.1 refl))

-- What is seen is what the state shows

zero_of_none : (n : ℤ) → fitted Unsigned 0 n ≡ lone []
zero_of_none n =
    let low = bits_below 0 n in
    let zero_bits = bits_below 0 (pos 0) in
    same_value (fitted Unsigned 0 n) (lone []) refl refl (small (bits_of 0 n) (bits_of 0 (pos 0)) low zero_bits)
  where
    small : (a b : ℕ) → a < 2 ^ 0 → b < 2 ^ 0 → a ≡ b
    small a b p q = omega (arith, p, q)

map_some : {A B : Type 0} (f : A → B) (o : Option A) (t : B) → option_map f o ≡ Some t → (x : A) × (o ≡ Some x) × (f x ≡ t)
map_some f (Some x) t e = (x, refl, some_same e)
map_some f None t e = absurd (none_some e)

module _ (net : Net) (s : NetState) (kept : Kept) (k : IsKept net s kept) where
  leaf_same : (m j a : ℕ) (memory : NetMemory) (held : List Value) (leaf : ElementLeaf) (b : Bool) → AreContents memory (s.contents m) held → slice_get memory.elements j ≡ Some leaf → nat_lt a memory.depth ≡ b
      → (if b then value_at held (a * length memory.elements + j) else fitted leaf.kind leaf.width (pos 0)) ≡ fitted leaf.kind leaf.width (if b then s.contents m a j else pos 0)
  leaf_same m j a memory held leaf true contents there e =
      get_or_from_slice_get held (a * length memory.elements + j) (fitted leaf.kind leaf.width (s.contents m a j)) (lone []) (contents.each a j leaf (ltb-true a memory.depth e) there)
  leaf_same m j a memory held leaf false contents there e = refl

  element_same : (m j a : ℕ) (memory : NetMemory) (held : List Value) (o : Option ElementLeaf) → AreContents memory (s.contents m) held → slice_get memory.elements j ≡ o
      → held_leaf o (nat_lt a memory.depth) held (a * length memory.elements + j) ≡ fitted_to_element o (if nat_lt a memory.depth then s.contents m a j else pos 0)
  element_same m j a memory held (Some leaf) contents there = leaf_same m j a memory held leaf (nat_lt a memory.depth) contents there refl
  element_same m j a memory held None contents there = sym (zero_of_none (if nat_lt a memory.depth then s.contents m a j else pos 0))

  memory_same : (m j a : ℕ) (o : Option NetMemory) → slice_get net.memories m ≡ o
      → held_by o (get_or kept.contents m []) j a ≡ fitted_to_element (option_and_then (λ memory. slice_get memory.elements j) o) (if nat_lt a (depth_of o) then s.contents m a j else pos 0)
  memory_same m j a (Some memory) e =
      let within = slice_get_within net.memories m memory e in
      let counted = k.all_contents in
      let held = get_there kept.contents m (omega (arith, within, counted)) in
      let same : get_or kept.contents m [] ≡ held.0 = get_or_from_slice_get kept.contents m held.0 [] held.1 in
      ap (λ hs. held_by (Some memory) hs j a) same ∙ element_same m j a memory held.0 (slice_get memory.elements j) (k.contents m memory held.0 e held.1) refl
  memory_same m j a None e = sym (zero_of_none (if nat_lt a 0 then s.contents m a j else pos 0))

  -- what is loaded is what the state holds
  pub load_same : (m j a : ℕ) → held_by (slice_get net.memories m) (get_or kept.contents m []) j a ≡ held_at net s m j a
  load_same m j a = memory_same m j a (slice_get net.memories m) refl

  load_shape : (m j : ℕ) (t : Shape) (a : ℕ) → (table_of net).element m j ≡ Some t → shape_of_value (held_by (slice_get net.memories m) (get_or kept.contents m []) j a) ≡ t
  load_shape m j t a e =
      let part = map_some element_shape (element_leaf net m j) t e in
      let n = if nat_lt a (depth_of (slice_get net.memories m)) then s.contents m a j else pos 0 in
      ap shape_of_value (load_same m j a ∙ ap (λ o. fitted_to_element o n) part.1) ∙ (fitted_shape part.0.kind part.0.width n part.0.narrow ∙ part.2)

  -- values of the kinds and widths of their leaves are seen
  pub are_seen : (values : List Value) → ((x : ℕ) (leaf : Leaf) → slice_get net.leaves x ≡ Some leaf → shape_of_value (value_at values x) ≡ leaf_shape leaf) → AreSeen net values kept.contents
  are_seen values h = record {
    leaf = λ x t e. leaf_seen x t (map_some leaf_shape (slice_get net.leaves x) t e);
    load = λ m j t address e. load_shape m j t (unsigned_abs (integer_of address)) e;
  }
    where
      leaf_seen : (x : ℕ) (t : Shape) → (leaf : Leaf) × (slice_get net.leaves x ≡ Some leaf) × (leaf_shape leaf ≡ t) → shape_of_value (value_at values x) ≡ t
      leaf_seen x t p = h x p.0 p.1 ∙ p.2

  module _ (fine : IsNet net) (given : Inputs) (inputs : List Value) (i : AreInputValues net given inputs) where
    input_is : (x n : ℕ) (leaf : Leaf) → slice_get net.leaves x ≡ Some leaf → leaf.role ≡ role.Input n → value_at inputs n ≡ fitted_to leaf (given n)
    input_is x n leaf there is = get_or_from_slice_get inputs n (fitted_to leaf (given n)) (lone []) (i x n leaf there is)

    register_is : (x n : ℕ) (leaf : Leaf) → slice_get net.leaves x ≡ Some leaf → leaf.role ≡ role.Register n → value_at kept.registers n ≡ fitted_to leaf (s.registers n)
    register_is x n leaf there is =
        let r = fine.registers x n (record { leaf = leaf; there = there; is = is }) in
        get_or_from_slice_get kept.registers n (fitted_to leaf (s.registers n)) (lone []) (k.registers n r.0 leaf r.1 (ap (slice_get net.leaves) r.2 ∙ there))

    captured_is : (x n : ℕ) (leaf : Leaf) → slice_get net.leaves x ≡ Some leaf → leaf.role ≡ role.Captured n → value_at kept.captured n ≡ fitted_to leaf (s.captured n)
    captured_is x n leaf there is =
        let c = fine.captured x n (record { leaf = leaf; there = there; is = is }) in
        get_or_from_slice_get kept.captured n (fitted_to leaf (s.captured n)) (lone []) (k.captured n c.0 leaf c.1 (ap (slice_get net.leaves) c.2 ∙ there))

    start_at : (x : ℕ) (leaf : Leaf) → slice_get net.leaves x ≡ Some leaf → value_at (before_all net kept inputs) x ≡ before_assignments kept inputs leaf leaf.role
    start_at x leaf there =
        let f = λ (leaf : Leaf). before_assignments kept inputs leaf leaf.role in
        get_or_from_slice_get (map f net.leaves) x (f leaf) (lone []) (slice_get-map f net.leaves x ∙ ap (option_map f) there)

    before_shape : (x : ℕ) (leaf : Leaf) (r : Role) → slice_get net.leaves x ≡ Some leaf → leaf.role ≡ r → shape_of_value (before_assignments kept inputs leaf r) ≡ leaf_shape leaf
    before_shape x leaf (role.Input n) there is = ap shape_of_value (input_is x n leaf there is) ∙ fitted_shape leaf.kind leaf.width (given n) leaf.narrow
    before_shape x leaf role.Clock there is = fitted_shape leaf.kind leaf.width (pos 0) leaf.narrow
    before_shape x leaf role.Assigned there is = fitted_shape leaf.kind leaf.width (pos 0) leaf.narrow
    before_shape x leaf (role.Register n) there is = ap shape_of_value (register_is x n leaf there is) ∙ fitted_shape leaf.kind leaf.width (s.registers n) leaf.narrow
    before_shape x leaf (role.Captured n) there is = ap shape_of_value (captured_is x n leaf there is) ∙ fitted_shape leaf.kind leaf.width (s.captured n) leaf.narrow

    pub begins : (sequence : List ℕ) → IsDone net kept.contents sequence (before_all net kept inputs) (before_all net kept inputs) 0
    begins sequence = record {
      long = length-map net.leaves (λ leaf. before_assignments kept inputs leaf leaf.role);
      outside = λ x n. refl;
      done = λ j driver less e. absurd (omega (arith, less));
      shown = are_seen (before_all net kept inputs) (λ x leaf there. ap shape_of_value (start_at x leaf there) ∙ before_shape x leaf leaf.role there refl);
    }

    pub settled : (sequence : List ℕ) → IsOrder net sequence → (values : List Value) (n : ℕ) → length sequence ≤ n → IsDone net kept.contents sequence (before_all net kept inputs) values n
        → Settled net s given (value_at values)
    settled sequence order values n all d = record {
      inputs = λ x n leaf there is. of_role x leaf (role.Input n) there is (λ e. cc) ∙ input_is x n leaf there is;
      clocks = λ x leaf there is. of_role x leaf role.Clock there is (λ e. cc);
      registers = λ x n leaf there is. of_role x leaf (role.Register n) there is (λ e. cc) ∙ register_is x n leaf there is;
      captured = λ x n leaf there is. of_role x leaf (role.Captured n) there is (λ e. cc) ∙ captured_is x n leaf there is;
      assigned = λ x leaf driver there is e.
          let at = order.all x (record { leaf = leaf; there = there; is = is }) in
          subst (λ y. driver_of net y ≡ Some driver → value_at values y ≡ value driver (seen net values kept.contents)) at.2 (λ f. d.done at.0 driver (omega (arith, at.1, all)) f) e
          ∙ value_agrees (seen net values kept.contents) (instant_of net s (value_at values)) (λ m j address. load_same m j (unsigned_abs (integer_of address))) driver (λ y c. refl);
    }
      where
        of_role : (x : ℕ) (leaf : Leaf) (r : Role) → slice_get net.leaves x ≡ Some leaf → leaf.role ≡ r → (r ≡ role.Assigned → ⊥) → value_at values x ≡ before_assignments kept inputs leaf r
        of_role x leaf r there is other =
            d.outside x (λ a. let there_too = a.there in let same : a.leaf ≡ leaf = cc in other (sym is ∙ ap (λ (l : Leaf). l.role) (sym same) ∙ a.is))
            ∙ (start_at x leaf there ∙ ap (before_assignments kept inputs leaf) is)
