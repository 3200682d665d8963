-- The registers of the flat circuit are those of the registers' leaves, in flat order.
use Rattle.std.proofs.Common.{◌≡◌, ℕ, zero, suc, ◌+◌, ◌<◌, ◌==◌, ◌&&◌, ◌||◌, Bool, true, false, List, [], ◌∷◌, map, filter, zip, length, Option, Some, None, option_map, refl, sym, ap, ◌∙◌, subst, arith, true≢false, if◌then◌else◌, slice_index}
use Rattle.std.specs.List.{slice_get, list_any}
use Rattle.bit_words.specs.declared.value.Kind.TheVariants.{Unsigned}
use Rattle.fir_tree.specs.declared.expr.Expr.{Expr}
use Rattle.fir_meaning.specs.WellTyped.{leaf_shape}
use Rattle.fir_meaning.specs.Components.{Sort, An_input, An_output, A_wire, A_register, A_reset_register, A_memory, An_instance, A_node, is_clock, flow_of}
use Rattle.fir_meaning.specs.States.{is_port, is_register, is_source}
use Rattle.ground_net.specs.declared.circuit.GroundLeaf.{GroundLeaf}
use Rattle.ground_net.specs.declared.circuit.GroundRole.{GroundRole}
use Rattle.ground_net.specs.declared.circuit.GroundRole.TheVariants.{Input, Clock, Register, Plain}
use Rattle.ground_net.specs.declared.net.NetRegister.{NetRegister}
use Rattle.ground_net.specs.declared.net.NetReset.{NetReset}
use Rattle.ground_net.specs.Shapes.{shaped, shape}
use Rattle.net_of_circuit.specs.FlatOrder.{Standing, flat_of}
use Rattle.net_of_circuit.specs.Numbers.{ModuleLeaf, module_leaves, role_of, table_of, register_numbers}
use Rattle.net_of_circuit.specs.Lowering.{HasReset, IsReset}
use Rattle.flatten_instances.specs.FlatOrder.{Spot}
use Rattle.flatten_instances.specs.Flat.{is_of_register, is_register_at, role_at}
use Rattle.flatten_instances.specs.Numbers.{reset_with}
use Rattle.memory_ports.specs.declared.reads.ReadData.{ReadData}
use Rattle.memory_ports.specs.declared.reads.ReadData.TheVariants as read_data
use Rattle.memory_ports.specs.Placing.{Part, is_held, part_of, parts_of, data_in}
use Rattle.memory_ports.specs.Sound.{flat_table, held_leaves}
use Rattle.net_laws.proofs.Lists.{below_length, map_at, from_map_at}
use Rattle.lowering_laws.proofs.Heights.{some_same, none_some}
use Rattle.lowering_laws.proofs.Parts.{item}
use Rattle.lowering_laws.proofs.Matching.{two_at, map_counted}
use Rattle.lowering_laws.proofs.Whole.{Setting, spots, match, lists, leaf_at}
use Rattle.lowering_laws.proofs.Drivers.{all, known_of, numbered_at, own_flat}
use Rattle.lowering_laws.proofs.Registers.{RegisterAt, register_at, reset_of, register_clock}
use Rattle.assembly_laws.proofs.ListPlaces.{same_lists, length_range, positions_from, positions_counted, position_at, position_there, same_positions}
use Rattle.assembly_laws.proofs.Shaped.{table_at, moved_shape}

abbrev leaf_numbers : List NetRegister → List ℕ
leaf_numbers rs = map (λ (r : NetRegister). r.leaf) rs

any_map : (k : ℕ) (rs : List NetRegister) → list_any (λ (r : NetRegister). r.leaf == k) rs ≡ list_any (λ n. n == k) (leaf_numbers rs)
any_map k [] = refl
any_map k (r ∷ rs) = ap (λ b. (r.leaf == k) || b) (any_map k rs)

-- Roles

is_register_role : GroundRole → Bool
is_register_role Register = true
is_register_role Input = false
is_register_role Clock = false
is_register_role Plain = false

held_by_role : (role : GroundRole) (shown : Option ReadData) → is_held (part_of role shown) ≡ is_register_role role
unfolding is_register_role
held_by_role Input shown = refl
held_by_role Clock shown = refl
held_by_role Register shown = refl
held_by_role Plain None = refl
held_by_role Plain (Some read_data.Captured) = refl
held_by_role Plain (Some (read_data.Load g)) = refl

role_kept : (path : List ℕ) (role : GroundRole) → is_register_role (role_at path role) ≡ is_register_role role
unfolding is_register_role
role_kept [] role = refl
role_kept (i ∷ path) Input = refl
role_kept (i ∷ path) Clock = refl
role_kept (i ∷ path) Register = refl
role_kept (i ∷ path) Plain = refl

register_role : (a b i : Bool) → (b ≡ true → a ≡ false) → is_register_role (if a then Clock else if b then Register else if i then Input else Plain) ≡ b
unfolding is_register_role
register_role true true i h = absurd (true≢false (h refl))
register_role true false i h = refl
register_role false true i h = refl
register_role false false true h = refl
register_role false false false h = refl

-- Parts

parts_counted : (ls : List GroundLeaf) (ss : List (Option ReadData)) → length ls ≡ length ss → length (parts_of ls ss) ≡ length ls
parts_counted [] ss e = refl
parts_counted (l ∷ ls) [] e = absurd (omega arith)
parts_counted (l ∷ ls) (s ∷ ss) e = ap suc (parts_counted ls ss (omega arith))

part_there : (ls : List GroundLeaf) (ss : List (Option ReadData)) (x : ℕ) (part : Part) → slice_get (parts_of ls ss) x ≡ Some part
    → (leaf : GroundLeaf) × (shown : Option ReadData) × (slice_get ls x ≡ Some leaf) × (part_of leaf.role shown ≡ part)
part_there ls ss x part e =
    let r = from_map_at (λ (both : GroundLeaf × Option ReadData). part_of both.0.role both.1) (zip ls ss) x part e in
    (r.0.0, r.0.1, zipped ls ss x r.0 r.1, r.2)
  where
    zipped : (ls : List GroundLeaf) (ss : List (Option ReadData)) (x : ℕ) (both : GroundLeaf × Option ReadData) → slice_get (zip ls ss) x ≡ Some both → slice_get ls x ≡ Some both.0
    zipped [] ss x both e = none_some e
    zipped (l ∷ ls) [] x both e = none_some e
    zipped (l ∷ ls) (s ∷ ss) zero both e = ap (λ (b : GroundLeaf × Option ReadData). Some b.0) (some_same e)
    zipped (l ∷ ls) (s ∷ ss) (suc x) both e = zipped ls ss x both e

module _ (z : Setting) where
  -- the leaf of a register is that of its spot
  register_spot : (n : ℕ) (register : NetRegister) (s : Spot) (x : ℕ) → slice_get z.flat.registers n ≡ Some register → slice_get (filter (is_register_at z.driven) (spots z)) n ≡ Some s → slice_get (spots z) x ≡ Some s → register.leaf ≡ x
  register_spot n register s x e f h =
      let L = lists z in
      let R = z.is_flat.is.registers in
      let of = R.each n s register f e in
      let t = two_at (match z) x s h in
      let it = t.2 in
      let at : slice_get (module_leaves t.0.0.m) of.register.leaf ≡ Some (t.0.0.c, t.0.1) = ap (slice_get (module_leaves t.0.0.m)) of.leaf ∙ it.number in
      let entry = numbered_at z it.leads of.numbers of.numbered of.register.leaf (t.0.0.c, t.0.1) at in
      let leaf_is : register.leaf ≡ slice_index of.numbers of.register.leaf = ap (λ (w : NetRegister). w.leaf) of.is in
      let stands = (L.stands x t.0 t.1).0 in
      let flat_same : flat_of entry.0 ≡ flat_of t.0 = entry.2 ∙ own_flat z t.0.0.path t.0.0.m t.0.0.c t.0.1 stands.declared it.own in
      leaf_is ∙ L.once (slice_index of.numbers of.register.leaf) x entry.0 t.0 entry.1 t.1 flat_same

  numbers_are : leaf_numbers z.flat.registers ≡ positions_from (is_register_at z.driven) 0 (spots z)
  numbers_are =
      let R = z.is_flat.is.registers in
      let counted : length (leaf_numbers z.flat.registers) ≡ length (positions_from (is_register_at z.driven) 0 (spots z)) =
      map_counted (λ (r : NetRegister). r.leaf) z.flat.registers ∙ (R.counted ∙ sym (positions_counted (is_register_at z.driven) 0 (spots z))) in
      same_lists (leaf_numbers z.flat.registers) (positions_from (is_register_at z.driven) 0 (spots z)) counted (λ n a b e f.
      let register = from_map_at (λ (r : NetRegister). r.leaf) z.flat.registers n a e in
      let s = item (filter (is_register_at z.driven) (spots z)) n (subst (λ k. n < k) R.counted (below_length z.flat.registers n register.0 register.1)) in
      let x = position_at (is_register_at z.driven) 0 (spots z) n b s.0 f s.1 in
      let zero_is : 0 + x.0 ≡ x.0 = omega arith in
      sym register.2 ∙ (register_spot n register.0 s.0 x.0 register.1 s.1 x.2 ∙ sym (x.1 ∙ zero_is)))

  -- whether a spot is a register's
  spot_register : (x : ℕ) (s : Spot) (e : slice_get (spots z) x ≡ Some s) → is_register_at z.driven s ≡ is_register (two_at (match z) x s e).0.0.c.declaration.sort
  spot_register x s e =
      let t = two_at (match z) x s e in
      let known = known_of z t.2.leads in
      let numbers : leaf_numbers t.2.d.registers ≡ register_numbers t.0.0.m = ap leaf_numbers known.driven_is.registers ∙ known.ground_is.registers in
      let zero_is : 0 + s.number ≡ s.number = omega arith in
      ap (λ o. is_of_register o s.number) known.driven_there
      ∙ (any_map s.number t.2.d.registers
      ∙ (ap (λ l. list_any (λ n. n == s.number) l) numbers
      ∙ (ap (λ i. list_any (λ n. n == i) (register_numbers t.0.0.m)) (sym zero_is)
      ∙ position_there (λ (l : ModuleLeaf). is_register l.0.declaration.sort) 0 s.number (module_leaves t.0.0.m) (t.0.0.c, t.0.1) t.2.number)))

  flat_register : (x : ℕ) (y : Standing) (leaf : GroundLeaf) (shown : Option ReadData) → slice_get (all z) x ≡ Some y → slice_get z.flat.leaves x ≡ Some leaf → is_held (part_of leaf.role shown) ≡ is_register y.0.c.declaration.sort
  flat_register x y leaf shown e f =
      let L = lists z in
      let at = leaf_at z x y e in
      let same : leaf ≡ at.leaf = some_same (sym f ∙ at.leaf_there) in
      let stands = (L.stands x y e).0 in
      held_by_role leaf.role shown
      ∙ (ap (λ (l : GroundLeaf). is_register_role l.role) same
      ∙ (ap is_register_role at.role
      ∙ (role_kept at.s.path (role_of (y.0.c, y.1))
      ∙ register_role (is_clock y.1) (is_register y.0.c.declaration.sort) (is_port y.0.c.declaration.sort && is_source (flow_of y.0.c.declaration.sort y.1.flip)) (λ h. register_clock z y.0.path y.0.m y.0.c y.1 stands h))))

  pub registers_are : map (λ (r : NetRegister). r.leaf) z.flat.registers ≡ held_leaves z.flat
  registers_are =
      let data_counted : length (data_in z.flat) ≡ length z.flat.leaves = map_counted _ _ ∙ length_range 0 (length z.flat.leaves) in
      let counted : length (spots z) ≡ length (parts_of z.flat.leaves (data_in z.flat)) = sym z.is_flat.is.leaves.counted ∙ sym (parts_counted z.flat.leaves (data_in z.flat) (sym data_counted)) in
      numbers_are ∙ same_positions (is_register_at z.driven) is_held 0 (spots z) (parts_of z.flat.leaves (data_in z.flat)) counted (λ x s part e f.
      let t = two_at (match z) x s e in
      let p = part_there z.flat.leaves (data_in z.flat) x part f in
      spot_register x s e ∙ (sym (flat_register x t.0 p.0 p.1 t.1 p.2) ∙ ap is_held p.3))

  -- the entry of a register
  register_entry : (n : ℕ) (register : NetRegister) → slice_get z.flat.registers n ≡ Some register → (y : Standing) × (slice_get (all z) register.leaf ≡ Some y)
  register_entry n register e =
      let R = z.is_flat.is.registers in
      let s = item (filter (is_register_at z.driven) (spots z)) n (subst (λ k. n < k) R.counted (below_length z.flat.registers n register e)) in
      let at : slice_get (positions_from (is_register_at z.driven) 0 (spots z)) n ≡ Some register.leaf = ap (λ l. slice_get l n) (sym numbers_are) ∙ map_at (λ (r : NetRegister). r.leaf) z.flat.registers n register e in
      let x = position_at (is_register_at z.driven) 0 (spots z) n register.leaf s.0 at s.1 in
      let zero_is : 0 + x.0 ≡ x.0 = omega arith in
      let t = two_at (match z) x.0 s.0 x.2 in
      (t.0, ap (slice_get (all z)) (x.1 ∙ zero_is) ∙ t.1)

  abbrev Fitting : NetRegister → NetReset → Type 0
  Fitting register r = ((width : ℕ) × (shape r.reset (flat_table z.flat) ≡ Some (shaped Unsigned width))) × (shape r.init (flat_table z.flat) ≡ (flat_table z.flat).leaf register.leaf)

  -- A reset is a UInt, and its `init` has the register's kind and width.
  pub resets_shaped : (n : ℕ) (register : NetRegister) (r : NetReset) → slice_get z.flat.registers n ≡ Some register → register.reset ≡ Some r → Fitting register r
  resets_shaped n register r e has = by y.0.0.c.declaration.sort (reset_of z register y.0 R) where
    y : (y : Standing) × (slice_get (all z) register.leaf ≡ Some y)
    y = register_entry n register e

    R : RegisterAt z register y.0
    R = register_at z n register e y.0 y.1

    is : register.reset ≡ option_map (reset_with R.numbers) R.own.reset
    is = ap (λ (w : NetRegister). w.reset) R.is

    own : (reset init : Expr) (q : NetReset) → R.own.reset ≡ Some q → IsReset y.0.0.m (table_of (known_of z R.leads).g.leaves) (y.0.0.c, y.0.1) reset init q → Fitting register r
    own reset init q there fits =
        let same : reset_with R.numbers q ≡ r = some_same (sym (is ∙ ap (option_map (reset_with R.numbers)) there) ∙ has) in
        subst (Fitting register) same (
          (fits.reset_shape.0, moved_shape z R.leads R.numbers R.are q.reset (shaped Unsigned fits.reset_shape.0) fits.reset_shape.1),
          moved_shape z R.leads R.numbers R.are q.init (leaf_shape y.0.1) fits.init_shape ∙ sym (table_at z register.leaf y.0 y.1),
        )

    by : (sort : Sort) → HasReset y.0.0.m (table_of (known_of z R.leads).g.leaves) (y.0.0.c, y.0.1) sort R.own.reset → Fitting register r
    by (A_register clock) h = none_some (sym (is ∙ ap (option_map (reset_with R.numbers)) h) ∙ has)
    by (A_reset_register clock reset init) h = own reset init h.0 h.1 h.2
    by An_input h = absurd h
    by An_output h = absurd h
    by A_wire h = absurd h
    by (A_memory memory) h = absurd h
    by (An_instance target) h = absurd h
    by (A_node expr) h = absurd h
