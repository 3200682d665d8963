-- The leaves and components of a module as the table and the view have them.
use Rattle.std.proofs.Common.{◌≡◌, ℕ, zero, suc, ◌+◌, Bool, List, [], ◌∷◌, ◌++◌, map, min, length, Option, Some, None, option_map, refl, sym, ap, ap₂, ◌∙◌, subst, arith, if◌then◌else◌, ◌⊎◌, inl, inr, ⊎_elim}
use Rattle.std.specs.Prelude.{Contains}
use Rattle.std.specs.List.{slice_get, flat_map, sum_by}
use Rattle.std.proofs.lemmas.Grind.{common_steps}
use Rattle.std.proofs.lemmas.List.{length-map, map-append}
use Rattle.std.proofs.lemmas.List.Concat.{flat_map-cons}
use Rattle.std.proofs.lemmas.List.Folds.{flat_map-map}
use Rattle.std.proofs.lemmas.List.Sums.{sum_by-cons}
use Rattle.fir_types.specs.Leaves.{leaves}
use Rattle.fir_tree.specs.declared.circuit.Module.{Module}
use Rattle.fir_tree.specs.LeafNames.{Texts}
use Rattle.fir_meaning.specs.Components.{Component, TypedModule, width_of_leaf}
use Rattle.fir_meaning.specs.States.{is_port}
use Rattle.fir_meaning.specs.WellTyped.{HasTypes, leaf_shape}
use Rattle.prim_ops.specs.Shapes.{shaped}
use Rattle.ground_net.specs.declared.circuit.GroundLeaf.{GroundLeaf}
use Rattle.net_of_circuit.specs.Numbers.{ModuleLeaf, leaves_of, module_leaves, is_set, table_of, ground_shape}
use Rattle.net_of_circuit.specs.Lowering.{IsGroundLeaf}
use Rattle.lower_aggregates.specs.declared.pieces.Piece.{Piece}
use Rattle.lower_aggregates.specs.Parts.{component_part, component_parts, parts_of}
use Rattle.lower_aggregates.specs.Held.{held_part}
use Rattle.lower_aggregates.specs.Tables.{Row, leaf_row, row_by, part_rows, piece_rows, flags_of_part, flags_of_piece, part_size, port_size}

some_same : {A : Type 0} {x y : A} → Some x ≡ Some y → x ≡ y
some_same {A} {x} e = ap (or_first x) e
  where
    or_first : A → Option A → A
    or_first d (Some z) = z
    or_first d None = d

none_some : {A : Type 0} {B : Type 0} {x : A} → None ≡ Some x → B
none_some e = absurd cc

-- what is said of a leaf of a module
abbrev pub module_row : Texts → ModuleLeaf → Row
module_row texts y = row_by texts (component_part 0 y.0) y.1

map_map : {A B C : Type 0} (f : B → C) (g : A → B) (xs : List A) → map f (map g xs) ≡ map (λ x. f (g x)) xs
map_map f g [] = refl
map_map f g (x ∷ xs) = ap (λ l. f (g x) ∷ l) (map_map f g xs)

rows_are : (texts : Texts) (b : ℕ) (cs : List Component) → flat_map (part_rows texts) (component_parts b cs) ≡ map (module_row texts) (flat_map leaves_of cs)
rows_are texts b [] = refl
rows_are texts b (c ∷ cs) =
    flat_map-cons (part_rows texts) (component_part b c) (component_parts (b + length (leaves c.typ)) cs)
    ∙ ap₂ (λ (u v : List Row). u ++ v) (sym (map_map (module_row texts) (λ leaf. (c, leaf)) (leaves c.typ))) (rows_are texts (b + length (leaves c.typ)) cs)
    ∙ sym (map-append (module_row texts) (leaves_of c) (flat_map leaves_of cs)) ∙ sym (ap (map (module_row texts)) (flat_map-cons leaves_of c cs))

flags_are : (b : ℕ) (cs : List Component) → flat_map flags_of_part (component_parts b cs) ≡ map is_set (flat_map leaves_of cs)
flags_are b [] = refl
flags_are b (c ∷ cs) =
    flat_map-cons flags_of_part (component_part b c) (component_parts (b + length (leaves c.typ)) cs)
    ∙ ap₂ (λ (u v : List Bool). u ++ v) (sym (map_map is_set (λ leaf. (c, leaf)) (leaves c.typ))) (flags_are (b + length (leaves c.typ)) cs)
    ∙ sym (map-append is_set (leaves_of c) (flat_map leaves_of cs)) ∙ sym (ap (map is_set) (flat_map-cons leaves_of c cs))

abbrev size_of : Component → ℕ
size_of c = if is_port c.declaration.sort then length (leaves c.typ) else 0

sizes_are : (b : ℕ) (cs : List Component) → sum_by part_size (component_parts b cs) ≡ sum_by size_of cs
sizes_are b [] = grind (arith, common_steps)
sizes_are b (c ∷ cs) =
    sum_by-cons part_size (component_part b c) (component_parts (b + length (leaves c.typ)) cs)
    ∙ ap (λ n. size_of c + n) (sizes_are (b + length (leaves c.typ)) cs) ∙ sym (sum_by-cons size_of c cs)

held_sizes : (pieces : List Piece) → sum_by port_size pieces ≡ sum_by part_size (map held_part pieces)
held_sizes [] = grind (arith, common_steps)
held_sizes (p ∷ ps) = sum_by-cons port_size p ps ∙ ap (λ n. port_size p + n) (held_sizes ps) ∙ sym (sum_by-cons part_size (held_part p) (map held_part ps))

-- How many leaves the ports have.
pub ports_counted : (m : TypedModule) (pieces : List Piece) (n : ℕ) → map held_part pieces ≡ parts_of m → n ≡ sum_by port_size pieces
    → n ≡ sum_by (λ c. if is_port c.declaration.sort then length (leaves c.typ) else 0) m.components
ports_counted m pieces n e h = h ∙ held_sizes pieces ∙ ap (sum_by part_size) e ∙ sizes_are 0 m.components

-- The flags of the leaves that statements may set.
pub flags_listed : (m : TypedModule) (pieces : List Piece) (flags : List Bool) → map held_part pieces ≡ parts_of m → flags ≡ flat_map flags_of_piece pieces → flags ≡ map is_set (module_leaves m)
flags_listed m pieces flags e h = h ∙ sym (flat_map-map flags_of_part held_part pieces) ∙ ap (flat_map flags_of_part) e ∙ flags_are 0 m.components

map_at : {A B : Type 0} (h : A → B) (xs : List A) (k : ℕ) (x : A) → slice_get xs k ≡ Some x → slice_get (map h xs) k ≡ Some (h x)
map_at h [] k x e = none_some e
map_at h (a ∷ xs) zero x e = ap Some (ap h (some_same e))
map_at h (a ∷ xs) (suc k) x e = map_at h xs k x e

pub flag_at : (m : TypedModule) (flags : List Bool) → flags ≡ map is_set (module_leaves m) → (x : ℕ) (y : ModuleLeaf) → slice_get (module_leaves m) x ≡ Some y → slice_get flags x ≡ Some (is_set y)
flag_at m flags e x y h = ap (λ l. slice_get l x) e ∙ map_at is_set (module_leaves m) x y h

-- The table of leaves.
pub table_listed : (texts : Texts) (m : TypedModule) (pieces : List Piece) (listed : List GroundLeaf) → map held_part pieces ≡ parts_of m → map leaf_row listed ≡ flat_map (piece_rows texts) pieces
    → map leaf_row listed ≡ map (module_row texts) (module_leaves m)
table_listed texts m pieces listed e h = h ∙ sym (flat_map-map (part_rows texts) held_part pieces) ∙ ap (flat_map (part_rows texts)) e ∙ rows_are texts 0 m.components

pub table_counted : (texts : Texts) (m : TypedModule) (listed : List GroundLeaf) → map leaf_row listed ≡ map (module_row texts) (module_leaves m) → length listed ≡ length (module_leaves m)
table_counted texts m listed e = sym (length-map listed leaf_row) ∙ ap length e ∙ length-map (module_leaves m) (module_row texts)

later : {A : Type 0} (z : A) (xs : List A) (x : A) → Contains xs x → Contains (z ∷ xs) x
later z xs x (k, below, is) = (suc k, omega arith, is)

in_list : {A : Type 0} (xs : List A) (k : ℕ) (x : A) → slice_get xs k ≡ Some x → Contains xs x
in_list [] k x e = none_some e
in_list (a ∷ xs) zero x e = (0, omega arith, some_same e)
in_list (a ∷ xs) (suc k) x e = later a xs x (in_list xs k x e)

from_append : {A : Type 0} (xs ys : List A) (k : ℕ) (x : A) → slice_get (xs ++ ys) k ≡ Some x → (Contains xs x) ⊎ ((j : ℕ) × (slice_get ys j ≡ Some x))
from_append [] ys k x e = inr (k, e)
from_append (z ∷ xs) ys zero x e = inl (0, omega arith, some_same e)
from_append (z ∷ xs) ys (suc k) x e = ⊎_elim (λ l. inl (later z xs x l)) (λ r. inr r) (from_append xs ys k x e)

from_map : {A B : Type 0} (f : A → B) (xs : List A) (y : B) → Contains (map f xs) y → (x : A) × Contains xs x × (f x ≡ y)
from_map f [] y (k, below, is) = absurd (omega (arith, below))
from_map f (x ∷ xs) y (zero, below, is) = (x, (0, omega arith, refl), is)
from_map f (x ∷ xs) y (suc k, below, is) = let r = from_map f xs y (k, omega arith, is) in (r.0, later x xs r.0 r.1, r.2)

-- a leaf of a module is one of its component
pub leaf_among : (cs : List Component) (x : ℕ) (y : ModuleLeaf) → slice_get (flat_map leaves_of cs) x ≡ Some y → Contains cs y.0 × Contains (leaves y.0.typ) y.1
leaf_among [] x y e = none_some e
leaf_among (c ∷ cs) x y e =
    ⊎_elim
    (λ here. let r = from_map (λ leaf. (c, leaf)) (leaves c.typ) y here in
    subst (λ (z : ModuleLeaf). Contains (c ∷ cs) z.0 × Contains (leaves z.0.typ) z.1) r.2 ((0, omega arith, refl), r.1))
    (λ there. let r = leaf_among cs there.0 y there.1 in (later c cs y.0 r.0, r.1))
    (from_append (leaves_of c) (flat_map leaves_of cs) x y (ap (λ l. slice_get l x) (sym (flat_map-cons leaves_of c cs)) ∙ e))

row_there : (texts : Texts) (m : TypedModule) (listed : List GroundLeaf) → map leaf_row listed ≡ map (module_row texts) (module_leaves m)
    → (x : ℕ) (y : ModuleLeaf) (leaf : GroundLeaf) → slice_get (module_leaves m) x ≡ Some y → slice_get listed x ≡ Some leaf → leaf_row leaf ≡ module_row texts y
row_there texts m listed e x y leaf h k =
    some_same (sym (map_at leaf_row listed x leaf k) ∙ ap (λ l. slice_get l x) e ∙ map_at (module_row texts) (module_leaves m) x y h)

narrow : (holder : Module) (m : TypedModule) → HasTypes holder m → (x : ℕ) (y : ModuleLeaf) → slice_get (module_leaves m) x ≡ Some y → min (width_of_leaf y.1) 128 ≡ width_of_leaf y.1
narrow holder m has x y e =
    let among = leaf_among m.components x y e in
    let w = has.narrow y.0 y.1 among.0 among.1 in
    grind (arith, common_steps, w)

-- The leaves of the table are those of the module.
pub table_leaf : (texts : Texts) (holder : Module) (m : TypedModule) → HasTypes holder m → (listed : List GroundLeaf) → map leaf_row listed ≡ map (module_row texts) (module_leaves m)
    → (x : ℕ) (y : ModuleLeaf) (leaf : GroundLeaf) → slice_get (module_leaves m) x ≡ Some y → slice_get listed x ≡ Some leaf → IsGroundLeaf texts y leaf
table_leaf texts holder m has listed e x y leaf h k =
    let r = row_there texts m listed e x y leaf h k in
    record {
      name = ap (λ (w : Row). w.name) r;
      kind = ap (λ (w : Row). w.kind) r;
      width = ap (λ (w : Row). w.width) r ∙ narrow holder m has x y h;
      place = ap (λ (w : Row). w.place) r;
      role = ap (λ (w : Row). w.role) r;
    }

item : {A B : Type 0} (xs : List A) (ys : List B) (k : ℕ) (x : A) → length ys ≡ length xs → slice_get xs k ≡ Some x → (y : B) × (slice_get ys k ≡ Some y)
item [] ys k x n e = none_some e
item (a ∷ xs) [] k x n e = absurd (omega (arith, n))
item (a ∷ xs) (b ∷ ys) zero x n e = (b, refl)
item (a ∷ xs) (b ∷ ys) (suc k) x n e = item xs ys k x (omega (arith, n)) e

-- And so are their kinds and widths.
pub table_shape : (texts : Texts) (holder : Module) (m : TypedModule) → HasTypes holder m → (listed : List GroundLeaf) → map leaf_row listed ≡ map (module_row texts) (module_leaves m)
    → (x : ℕ) (y : ModuleLeaf) → slice_get (module_leaves m) x ≡ Some y → (table_of listed).leaf x ≡ Some (leaf_shape y.1)
table_shape texts holder m has listed e x y h =
    let there = item (module_leaves m) listed x y (table_counted texts m listed e) h in
    let is = table_leaf texts holder m has listed e x y there.0 h there.1 in
    ap (option_map ground_shape) there.1 ∙ ap Some (ap₂ (λ k w. shaped k w) is.kind is.width)
