-- Loads: their shapes, their values, and what they mention.
use Rattle.std.proofs.Common.{◌≡◌, ℕ, ◌^◌, ◌-◌, ◌*◌, ◌≤◌, min, nat_lt, Bool, true, false, ◌&&◌, not, List, [], ◌∷◌, ◌++◌, refl, sym, ap, ap₂, ◌∙◌, subst, arith, Option, Some, None, option_map, option_and_then, slice_get, ℤ, pos, negsuc, if◌then◌else◌, unsigned_abs}
use Rattle.std.proofs.lemmas.Nat.{pow_pos}
use Rattle.std.proofs.lemmas.Option.{slice_get-map}
use Rattle.std.proofs.lemmas.Bool.Decides.{nat_tests}
use Rattle.bit_words.specs.declared.value.Kind.{Kind}
use Rattle.bit_words.specs.declared.value.Kind.TheVariants.{Unsigned, Signed}
use Rattle.bit_words.specs.declared.value.Value.{Value}
use Rattle.bit_words.specs.Values.{integer, integer_of, InRange}
use Rattle.bit_words.proofs.Congruence.{integer_in_range}
use Rattle.prim_ops.specs.Values.{fitted, is_one}
use Rattle.prim_ops.specs.Ports.{set_to_read, read_by_port}
use Rattle.prim_ops.proofs.Fittings.{fitted_same}
use Rattle.ground_net.specs.declared.ground.Ground.TheVariants as ground
use Rattle.ground_net.specs.declared.net.Net.{Net}
use Rattle.ground_net.specs.declared.net.NetMemory.{NetMemory}
use Rattle.ground_net.specs.declared.net.NetPort.{NetPort}
use Rattle.ground_net.specs.declared.net.NetRead.{NetRead}
use Rattle.ground_net.specs.declared.net.ElementLeaf.{ElementLeaf}
use Rattle.ground_net.specs.Grounds.{Instant, value, mentions, chosen, loaded, joined}
use Rattle.ground_net.specs.Cones.{or_no_leaf}
use Rattle.ground_net.proofs.Layers.{value-Const, value-Leaf, value-Mux, value-Load, mentions-Const, mentions-Leaf, mentions-Mux, mentions-Load}
use Rattle.ground_net.specs.Shapes.{Shape, shaped, shape_of_value, Table, all_of, shape_of_choice, shape_of_load, shape}
use Rattle.ground_net.specs.Cycles.{NetState, Valuation, instant_of, held_at, fitted_to_element, element_leaf, depth_of, is_set, shown, where_it_reads}
use Rattle.ground_net.specs.Nets.{IsWithin, element_shape, element_shapes}
use Rattle.ground_net.proofs.Shaping.{shape-Const, shape-Leaf, shape-Mux, shape-Load}
use Rattle.memory_ports.specs.Placing.{zero_bit, reading, load_of}

-- Shapes

bit : Shape
bit = shaped Unsigned 1

reading_shape : (table : Table) (en : ℕ) (mode : Option ℕ) → table.leaf en ≡ Some (shaped Unsigned 1) → ((x : ℕ) → mode ≡ Some x → table.leaf x ≡ Some (shaped Unsigned 1))
    → shape (reading en mode) table ≡ Some (shaped Unsigned 1)
reading_shape table en None e h = shape-Leaf en table ∙ e
reading_shape table en (Some wmode) e h =
    shape-Mux (ground.Leaf wmode ∷ ground.Const zero_bit ∷ ground.Leaf en ∷ []) table
    ∙ (ap (λ s. option_and_then shape_of_choice (all_of (s ∷ shape (ground.Const zero_bit) table ∷ shape (ground.Leaf en) table ∷ []))) (shape-Leaf wmode table ∙ h wmode refl)
    ∙ (ap (λ s. option_and_then shape_of_choice (all_of (Some (shaped Unsigned 1) ∷ s ∷ shape (ground.Leaf en) table ∷ []))) (shape-Const zero_bit table)
    ∙ ap (λ s. option_and_then shape_of_choice (all_of (Some (shaped Unsigned 1) ∷ Some (shape_of_value zero_bit) ∷ s ∷ []))) (shape-Leaf en table ∙ e)))

pub load_shape : (table : Table) (m k w : ℕ) (port : NetPort) (s : Shape) → table.leaf port.addr ≡ Some (shaped Unsigned w) → table.leaf port.en ≡ Some (shaped Unsigned 1)
    → ((x : ℕ) → port.mode ≡ Some x → table.leaf x ≡ Some (shaped Unsigned 1)) → table.element m k ≡ Some s → shape (load_of m k port) table ≡ Some s
load_shape table m k w port s a e h el =
    shape-Load m k (ground.Leaf port.addr ∷ reading port.en port.mode ∷ []) table
    ∙ (ap₂ (λ a b. option_and_then (shape_of_load (table.element m k)) (all_of (a ∷ b ∷ []))) (shape-Leaf port.addr table ∙ a) (reading_shape table port.en port.mode e h) ∙ el)

-- Values

both : (a b : Bool) → (if a then false else b) ≡ (b && not a)
both true true = refl
both true false = refl
both false true = refl
both false false = refl

one_of : (b : Bool) (v : Value) → is_one (if b then zero_bit else v) ≡ (if b then false else is_one v)
one_of true v = refl
one_of false v = refl

pub reading_value : (instant : Instant) (en : ℕ) (mode : Option ℕ) → is_one (value (reading en mode) instant) ≡ set_to_read (is_set instant en) (option_map (is_set instant) mode)
reading_value instant en None = ap is_one (value-Leaf en instant)
reading_value instant en (Some wmode) =
    ap is_one (value-Mux (ground.Leaf wmode ∷ ground.Const zero_bit ∷ ground.Leaf en ∷ []) instant
    ∙ (ap (λ v. chosen (v ∷ value (ground.Const zero_bit) instant ∷ value (ground.Leaf en) instant ∷ [])) (value-Leaf wmode instant)
    ∙ ap₂ (λ v w. chosen (instant.leaf wmode ∷ v ∷ w ∷ [])) (value-Const zero_bit instant) (value-Leaf en instant)))
    ∙ (one_of (is_set instant wmode) (instant.leaf en) ∙ both (is_set instant wmode) (is_set instant en))

-- what is loaded where a test holds, and 0 else
load_by : (element : ElementLeaf) (held : ℤ) (reads within : Bool)
    → (if reads then fitted element.kind element.width (if within then held else pos 0)
    else fitted (fitted element.kind element.width (if within then held else pos 0)).kind (fitted element.kind element.width (if within then held else pos 0)).width (pos 0))
    ≡ fitted element.kind element.width (if reads && within then held else pos 0)
load_by element held true within = refl
load_by element held false within = let narrow : element.width ≤ 128 = element.narrow in let e : min element.width 128 ≡ element.width = omega (arith, narrow) in ap (λ w. fitted element.kind w (pos 0)) e

module _ (net : Net) (s : NetState) (rho : Valuation) (m k : ℕ) (memory : NetMemory) (port : NetPort) (read : NetRead) (element : ElementLeaf)
    (there : slice_get net.memories m ≡ Some memory) (reads : port.read ≡ Some read) (has : slice_get memory.elements k ≡ Some element) where
  abbrev instant : Instant
  instant = instant_of net s rho

  abbrev address : ℕ
  address = unsigned_abs (integer_of (rho port.addr))

  abbrev held : ℤ
  held = s.contents m address k

  is_element : element_leaf net m k ≡ Some element
  is_element = ap (option_and_then (λ memory. slice_get memory.elements k)) there ∙ has

  held_is : held_at net s m k address ≡ fitted element.kind element.width (if nat_lt address memory.depth then s.contents m address k else pos 0)
  held_is = ap₂ (λ o d. fitted_to_element o (if nat_lt address (depth_of d) then s.contents m address k else pos 0)) is_element there

  abbrev asked : Bool
  asked = set_to_read (is_set instant port.en) (option_map (is_set instant) port.mode)

  shows_reads : (shown instant port).reads ≡ asked
  shows_reads = ap (λ o. where_it_reads o asked) reads

  pub loaded_value : value (load_of m k port) instant ≡ fitted element.kind element.width (read_by_port memory.depth (s.contents m) (shown instant port) k)
  loaded_value =
      value-Load m k (ground.Leaf port.addr ∷ reading port.en port.mode ∷ []) instant
      ∙ (ap (λ v. loaded (instant.load m k) (v ∷ value (reading port.en port.mode) instant ∷ [])) (value-Leaf port.addr instant)
      ∙ (ap₂ (λ b v. if b then v else fitted v.kind v.width (pos 0)) (reading_value instant port.en port.mode) held_is
      ∙ (load_by element held asked (nat_lt address memory.depth)
      ∙ ap (λ b. fitted element.kind element.width (if b && nat_lt address memory.depth then held else pos 0)) (sym shows_reads))))

  zero_is : (kind : Kind) (width : ℕ) → integer kind width 0 ≡ pos 0
  zero_is Unsigned width = refl
  zero_is Signed width = let h = pow_pos width in let e : nat_lt (2 * 0) (2 ^ width) ≡ true = grind (arith, nat_tests) in ap (λ b. if b then pos 0 else negsuc (2 ^ width - 1 - 0)) e

  zero_in : InRange element.kind element.width (pos 0)
  zero_in = subst (InRange element.kind element.width) (zero_is element.kind element.width) (integer_in_range element.kind element.width 0 (pow_pos element.width))

  pub loaded_integer : IsWithin net s → integer_of (value (load_of m k port) instant) ≡ read_by_port memory.depth (s.contents m) (shown instant port) k
  loaded_integer w =
      let narrow : element.width ≤ 128 = element.narrow in
      let shape_there : slice_get (element_shapes memory) k ≡ Some (element_shape element) = slice_get-map element_shape memory.elements k ∙ ap (option_map element_shape) has in
      ap integer_of loaded_value ∙ fitted_same element.kind element.width (read_by_port memory.depth (s.contents m) (shown instant port) k) narrow
      (by_test ((shown instant port).reads && nat_lt address memory.depth) (w.contents m address k memory (element_shape element) there shape_there))
    where
      by_test : (b : Bool) → InRange element.kind element.width held → InRange element.kind element.width (if b then held else pos 0)
      by_test true h = h
      by_test false h = zero_in

-- Mentions

reading_mentions : (en : ℕ) (mode : Option ℕ) → mentions (reading en mode) ≡ or_no_leaf mode ++ en ∷ []
reading_mentions en None = mentions-Leaf en
reading_mentions en (Some wmode) =
    mentions-Mux (ground.Leaf wmode ∷ ground.Const zero_bit ∷ ground.Leaf en ∷ [])
    ∙ (ap (λ l. joined (l ∷ mentions (ground.Const zero_bit) ∷ mentions (ground.Leaf en) ∷ [])) (mentions-Leaf wmode)
    ∙ ap₂ (λ l n. joined ((wmode ∷ []) ∷ l ∷ n ∷ [])) (mentions-Const zero_bit) (mentions-Leaf en))

append_nil : (xs : List ℕ) → xs ++ [] ≡ xs
append_nil [] = refl
append_nil (x ∷ xs) = ap (λ l. x ∷ l) (append_nil xs)

pub load_mentions : (m k : ℕ) (port : NetPort) → mentions (load_of m k port) ≡ port.addr ∷ (or_no_leaf port.mode ++ port.en ∷ [])
load_mentions m k port =
    mentions-Load m k (ground.Leaf port.addr ∷ reading port.en port.mode ∷ [])
    ∙ (ap₂ (λ a b. joined (a ∷ b ∷ [])) (mentions-Leaf port.addr) (reading_mentions port.en port.mode) ∙ ap (λ l. port.addr ∷ l) (append_nil (or_no_leaf port.mode ++ port.en ∷ [])))
