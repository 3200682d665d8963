-- Two nets of one circuit have the same lines of a state.
use Rattle.std.proofs.Common.{◌≡◌, ℕ, zero, suc, ◌<◌, Bool, true, false, List, [], ◌∷◌, ◌++◌, length, map, Option, Some, None, option_map, refl, sym, ap, ap₂, ◌∙◌, subst, arith, ◌⊎◌, inl, inr, slice_get, if◌then◌else◌}
use Rattle.std.specs.Prelude.{⊤, filter_map, codes}
use Rattle.std.specs.List.{flat_map, range_with_len, cons_option}
use mathlib.Core.Path.{fun_ext}
use Rattle.bit_words.specs.declared.value.Kind.{Kind}
use Rattle.fir_types.specs.declared.fir_type.FirType.{FirType}
use Rattle.fir_types.specs.declared.memory.Memory.{Memory}
use Rattle.fir_types.specs.Leaves.{leaves}
use Rattle.fir_tree.specs.LeafNames.{Texts}
use Rattle.fir_meaning.specs.Components.{Design}
use Rattle.ground_net.specs.declared.net.Leaf.{Leaf}
use Rattle.ground_net.specs.declared.net.Net.{Net}
use Rattle.ground_net.specs.declared.net.NetMemory.{NetMemory}
use Rattle.ground_net.specs.declared.net.NetRegister.{NetRegister}
use Rattle.ground_net.specs.declared.net.Role.{Role}
use Rattle.ground_net.specs.declared.net.Role.TheVariants as role
use Rattle.ground_net.specs.Cycles.{Capture, captures}
use Rattle.ground_net.specs.Nets.{IsNet}
use Rattle.net_of_circuit.specs.FlatOrder.{Placed, Standing, all_leaves, all_memories}
use Rattle.net_of_circuit.specs.NetOf.{Part, Held, Kept, part_of_role, IsMemoryOf, IsNetWith}
use Rattle.net_laws.proofs.Numbers.{some_same, none_some, below_length}
use Rattle.circuit_run.proofs.Lists.{get_item}
use Rattle.snapshot_text.specs.Cells.{Cell, leaf_cell, register_cell, element_name, element_cell, memory_cells, is_captured, captured_cell, state_cells}
use Rattle.circuit_texts.proofs.Elements.{elements_same}
use Rattle.circuit_texts.proofs.Counting.{size_of}

-- Rising lists of the same numbers

abbrev In : ℕ → List ℕ → Type 0
In z [] = ⊥
In z (x ∷ xs) = (z ≡ x) ⊎ In z xs

abbrev Rising : List ℕ → Type 0
Rising [] = ⊤
Rising (x ∷ xs) = ((z : ℕ) → In z xs → x < z) × Rising xs

same_first : (x y : ℕ) (xs ys : List ℕ) → Rising (x ∷ xs) → Rising (y ∷ ys) → In x (y ∷ ys) → In y (x ∷ xs) → x ≡ y
same_first x y xs ys a b (inl e) j = e
same_first x y xs ys a b (inr i) (inl e) = sym e
same_first x y xs ys a b (inr i) (inr j) = let less = b.0 x i in let more = a.0 y j in absurd (omega (arith, less, more))

in_rest : (x y z : ℕ) (xs ys : List ℕ) → x ≡ y → Rising (x ∷ xs) → In z xs → In z (y ∷ ys) → In z ys
in_rest x y z xs ys e a i (inl f) = let less = a.0 z i in absurd (omega (arith, less, e, f))
in_rest x y z xs ys e a i (inr j) = j

same_rising : (xs ys : List ℕ) → Rising xs → Rising ys → ((z : ℕ) → In z xs → In z ys) → ((z : ℕ) → In z ys → In z xs) → xs ≡ ys
same_rising [] [] a b f g = refl
same_rising [] (y ∷ ys) a b f g = absurd (g y (inl refl))
same_rising (x ∷ xs) [] a b f g = absurd (f x (inl refl))
same_rising (x ∷ xs) (y ∷ ys) a b f g =
    let e = same_first x y xs ys a b (f x (inl refl)) (g y (inl refl)) in
    ap₂ (λ z zs. z ∷ zs) e
    (same_rising xs ys a.1 b.1 (λ z i. in_rest x y z xs ys e a i (f z (inr i))) (λ z i. in_rest y x z ys xs (sym e) b i (g z (inr i))))

-- the numbers of items
module _ {A : Type 0} (f : A → ℕ) where
  abbrev GoUp : List A → Type 0
  GoUp xs = (n k : ℕ) (x y : A) → n < k → slice_get xs n ≡ Some x → slice_get xs k ≡ Some y → f x < f y

  abbrev HasAll : List A → List A → Type 0
  HasAll xs ys = (n : ℕ) (x : A) → slice_get xs n ≡ Some x → (k : ℕ) × (y : A) × (slice_get ys k ≡ Some y) × (f y ≡ f x)

  in_map : (xs : List A) (n : ℕ) (x : A) → slice_get xs n ≡ Some x → In (f x) (map f xs)
  in_map [] n x e = none_some e
  in_map (y ∷ xs) zero x e = inl (ap f (sym (some_same e)))
  in_map (y ∷ xs) (suc n) x e = inr (in_map xs n x e)

  of_map : (xs : List A) (z : ℕ) → In z (map f xs) → (n : ℕ) × (x : A) × (slice_get xs n ≡ Some x) × (f x ≡ z)
  of_map [] z i = absurd i
  of_map (x ∷ xs) z (inl e) = (0, x, refl, sym e)
  of_map (x ∷ xs) z (inr i) = let r = of_map xs z i in (suc r.0, r.1, r.2, r.3)

  map_rises : (xs : List A) → GoUp xs → Rising (map f xs)
  map_rises [] h = tt
  map_rises (x ∷ xs) h = (
    (λ z i. let r = of_map xs z i in let less = h 0 (suc r.0) x r.1 (omega arith) refl r.2 in let e = r.3 in omega (arith, less, e)),
    map_rises xs (λ n k a b lt e g. h (suc n) (suc k) a b (omega (arith, lt)) e g),
  )

  map_in : (xs ys : List A) → HasAll xs ys → (z : ℕ) → In z (map f xs) → In z (map f ys)
  map_in xs ys h z i =
      let r = of_map xs z i in
      let o = h r.0 r.1 r.2 in
      subst (λ n. In n (map f ys)) (o.3 ∙ r.3) (in_map ys o.0 o.1 o.2)

  same_numbers : (xs ys : List A) → GoUp xs → GoUp ys → HasAll xs ys → HasAll ys xs → map f xs ≡ map f ys
  same_numbers xs ys a b h k = same_rising (map f xs) (map f ys) (map_rises xs a) (map_rises ys b) (map_in xs ys h) (map_in ys xs k)

-- Lists, item by item

filter_map_by : {A B C : Type 0} (h : B → Option C) (f : A → B) (xs : List A) → filter_map (λ x. h (f x)) xs ≡ filter_map h (map f xs)
filter_map_by h f [] = refl
filter_map_by h f (x ∷ xs) = ap (cons_option (h (f x))) (filter_map_by h f xs)

filter_map_each : {A B : Type 0} (h : A → Option B) (xs ys : List A) → length xs ≡ length ys → ((k : ℕ) (x y : A) → slice_get xs k ≡ Some x → slice_get ys k ≡ Some y → h x ≡ h y) → filter_map h xs ≡ filter_map h ys
filter_map_each h [] [] l each = refl
filter_map_each h [] (y ∷ ys) l each = absurd (omega arith)
filter_map_each h (x ∷ xs) [] l each = absurd (omega arith)
filter_map_each h (x ∷ xs) (y ∷ ys) l each = ap₂ cons_option (each 0 x y refl refl) (filter_map_each h xs ys (omega arith) (λ k. each (suc k)))

map_each : {A B : Type 0} (f g : A → B) (xs ys : List A) → length xs ≡ length ys → ((k : ℕ) (x y : A) → slice_get xs k ≡ Some x → slice_get ys k ≡ Some y → f x ≡ g y) → map f xs ≡ map g ys
map_each f g [] [] l each = refl
map_each f g [] (y ∷ ys) l each = absurd (omega arith)
map_each f g (x ∷ xs) [] l each = absurd (omega arith)
map_each f g (x ∷ xs) (y ∷ ys) l each = ap₂ (λ z zs. z ∷ zs) (each 0 x y refl refl) (map_each f g xs ys (omega arith) (λ k. each (suc k)))

flat_map_each : {A B : Type 0} (f : A → List B) (xs ys : List A) → length xs ≡ length ys → ((k : ℕ) (x y : A) → slice_get xs k ≡ Some x → slice_get ys k ≡ Some y → f x ≡ f y) → flat_map f xs ≡ flat_map f ys
flat_map_each f [] [] l each = refl
flat_map_each f [] (y ∷ ys) l each = absurd (omega arith)
flat_map_each f (x ∷ xs) [] l each = absurd (omega arith)
flat_map_each f (x ∷ xs) (y ∷ ys) l each = ap₂ (λ z zs. z ++ zs) (each 0 x y refl refl) (flat_map_each f xs ys (omega arith) (λ k. each (suc k)))

-- Roles

pub as_held : (r : Role) → part_of_role r ≡ Held → (n : ℕ) × (r ≡ role.Register n)
as_held (role.Input n) e = absurd cc
as_held role.Clock e = absurd cc
as_held role.Assigned e = absurd cc
as_held (role.Register n) e = (n, refl)
as_held (role.Captured n) e = absurd cc

pub as_kept : (r : Role) → part_of_role r ≡ Kept → (n : ℕ) × (r ≡ role.Captured n)
as_kept (role.Input n) e = absurd cc
as_kept role.Clock e = absurd cc
as_kept role.Assigned e = absurd cc
as_kept (role.Register n) e = absurd cc
as_kept (role.Captured n) e = (n, refl)

abbrev is_kept : Part → Bool
is_kept Kept = true
is_kept _ = false

captured_by_part : (r : Role) → is_captured r ≡ is_kept (part_of_role r)
captured_by_part (role.Input n) = refl
captured_by_part role.Clock = refl
captured_by_part role.Assigned = refl
captured_by_part (role.Register n) = refl
captured_by_part (role.Captured n) = refl

-- Cells

abbrev cell_made : List ℕ → List ℕ → Kind × ℕ → Cell
cell_made word name shape = record { word = word; name = name; kind = shape.0; width = shape.1 }

same_cell : (word name other : List ℕ) (kind kind' : Kind) (width width' : ℕ) → name ≡ other → kind ≡ kind' → width ≡ width' → cell_made word name (kind, width) ≡ cell_made word other (kind', width')
same_cell word name other kind kind' width width' n k w = ap₂ (cell_made word) n (ap₂ (λ (a : Kind) (b : ℕ). (a, b)) k w)

module _ (texts : Texts) (design : Design) (placed : List Placed) (net other : Net) (es fs : List FirType) (well : IsNet net) (formed : IsNet other) (is : IsNetWith texts design placed es net) (of : IsNetWith texts design placed fs other) where
  entry : (x : ℕ) (leaf : Leaf) → slice_get net.leaves x ≡ Some leaf → (y : Standing) × (slice_get (all_leaves placed) x ≡ Some y)
  entry x leaf e = get_item (all_leaves placed) x (subst (λ n. x < n) is.counted (below_length net.leaves x leaf e))

  leaf_other : (x : ℕ) (leaf : Leaf) → slice_get net.leaves x ≡ Some leaf → (l : Leaf) × (slice_get other.leaves x ≡ Some l) × (part_of_role l.role ≡ part_of_role leaf.role)
  leaf_other x leaf e =
      let y = entry x leaf e in
      let l = get_item other.leaves x (subst (λ n. x < n) (is.counted ∙ sym of.counted) (below_length net.leaves x leaf e)) in
      (l.0, l.1, (of.leaves_are x y.0 l.0 y.1 l.1).part ∙ sym (is.leaves_are x y.0 leaf y.1 e).part)

  -- A register and a captured read of the one are those of the other.
  pub register_other : (n : ℕ) (r : NetRegister) → slice_get net.registers n ≡ Some r → (k : ℕ) × (s : NetRegister) × (slice_get other.registers k ≡ Some s) × (s.leaf ≡ r.leaf)
  register_other n r e =
      let has = well.register_leaves n r e in
      let o = leaf_other r.leaf has.leaf has.there in
      let h = as_held o.0.role (o.2 ∙ ap part_of_role has.is) in
      let k = formed.registers r.leaf h.0 (record { leaf = o.0; there = o.1; is = h.1 }) in
      (h.0, k.0, k.1, k.2)

  pub capture_other : (n : ℕ) (c : Capture) → slice_get (captures net) n ≡ Some c → (k : ℕ) × (d : Capture) × (slice_get (captures other) k ≡ Some d) × (d.leaf ≡ c.leaf)
  capture_other n c e =
      let has = well.captured_leaves n c e in
      let o = leaf_other c.leaf has.leaf has.there in
      let h = as_kept o.0.role (o.2 ∙ ap part_of_role has.is) in
      let k = formed.captured c.leaf h.0 (record { leaf = o.0; there = o.1; is = h.1 }) in
      (h.0, k.0, k.1, k.2)

  -- the line of a leaf
  cell_alike : (word : List ℕ) (x : ℕ) → option_map (leaf_cell word) (slice_get net.leaves x) ≡ option_map (leaf_cell word) (slice_get other.leaves x)
  cell_alike word x = by (slice_get net.leaves x) (slice_get other.leaves x) refl refl where
    by : (o q : Option Leaf) → slice_get net.leaves x ≡ o → slice_get other.leaves x ≡ q → option_map (leaf_cell word) o ≡ option_map (leaf_cell word) q
    by (Some leaf) (Some l) e f =
        let y = entry x leaf e in
        let a = is.leaves_are x y.0 leaf y.1 e in
        let b = of.leaves_are x y.0 l y.1 f in
        ap Some (same_cell word leaf.name l.name leaf.kind l.kind leaf.width l.width (a.name ∙ sym b.name) (a.kind ∙ sym b.kind) (a.width ∙ sym b.width))
    by (Some leaf) None e f = let o = leaf_other x leaf e in none_some (sym f ∙ o.1)
    by None (Some l) e f = let o = get_item net.leaves x (subst (λ n. x < n) (of.counted ∙ sym is.counted) (below_length other.leaves x l f)) in none_some (sym e ∙ o.1)
    by None None e f = refl

  captured_alike : (x : ℕ) (leaf l : Leaf) → slice_get net.leaves x ≡ Some leaf → slice_get other.leaves x ≡ Some l → captured_cell leaf ≡ captured_cell l
  captured_alike x leaf l e f =
      let y = entry x leaf e in
      let a = is.leaves_are x y.0 leaf y.1 e in
      let b = of.leaves_are x y.0 l y.1 f in
      ap₂ (λ (c : Bool) (cell : Cell). if c then Some cell else None) (captured_by_part leaf.role ∙ (ap is_kept (a.part ∙ sym b.part) ∙ sym (captured_by_part l.role)))
      (same_cell (codes "read") leaf.name l.name leaf.kind l.kind leaf.width l.width (a.name ∙ sym b.name) (a.kind ∙ sym b.kind) (a.width ∙ sym b.width))

  -- A memory of the one and the other's
  pub record BothMemories (m : ℕ) (nm om : NetMemory) : Type 0 where
    pub p : Placed
    pub memory : Memory
    pub there : slice_get (all_memories placed) m ≡ Some (p, memory)
    pub typ : FirType
    pub typ' : FirType
    pub of_net : slice_get es m ≡ Some typ
    pub of_other : slice_get fs m ≡ Some typ'
    pub one : IsMemoryOf texts placed p memory typ nm
    pub two : IsMemoryOf texts placed p memory typ' om
    pub same : leaves typ ≡ leaves typ'

  pub memory_both : (m : ℕ) (nm om : NetMemory) → slice_get net.memories m ≡ Some nm → slice_get other.memories m ≡ Some om → BothMemories m nm om
  memory_both m nm om e f =
      let lt : m < length (all_memories placed) = subst (λ n. m < n) is.all_memories_there (below_length net.memories m nm e) in
      let pm = get_item (all_memories placed) m lt in
      let t = get_item es m (subst (λ n. m < n) (sym is.all_elements_there) lt) in
      let u = get_item fs m (subst (λ n. m < n) (sym of.all_elements_there) lt) in
      let a = is.memories m pm.0.0 pm.0.1 t.0 nm pm.1 t.1 e in
      let b = of.memories m pm.0.0 pm.0.1 u.0 om pm.1 u.1 f in
      record {
        p = pm.0.0;
        memory = pm.0.1;
        there = pm.1;
        typ = t.0;
        typ' = u.0;
        of_net = t.1;
        of_other = u.1;
        one = a;
        two = b;
        same = elements_same pm.0.0.c pm.0.1 t.0 u.0 a.is_element b.is_element;
      }

  memories_long : length net.memories ≡ length other.memories
  memories_long = is.all_memories_there ∙ sym of.all_memories_there

  module _ (m : ℕ) (nm om : NetMemory) (e : slice_get net.memories m ≡ Some nm) (f : slice_get other.memories m ≡ Some om) where
    abbrev both : BothMemories m nm om
    both = memory_both m nm om e f

    elements_long : length nm.elements ≡ length om.elements
    elements_long = both.one.counted ∙ (ap length both.same ∙ sym both.two.counted)

    cells_of_element : (element : ℕ) → map (element_cell nm element) nm.elements ≡ map (element_cell om element) om.elements
    cells_of_element element =
        map_each (element_cell nm element) (element_cell om element) nm.elements om.elements elements_long
        (λ k a b g h.
        let leaf = get_item (leaves both.typ) k (subst (λ n. k < n) both.one.counted (below_length nm.elements k a g)) in
        let x = both.one.elements k leaf.0 a leaf.1 g in
        let y = both.two.elements k leaf.0 b (ap (λ ls. slice_get ls k) (sym both.same) ∙ leaf.1) h in
        same_cell (codes "mem") (element_name nm.name element a.path) (element_name om.name element b.path) a.kind b.kind a.width b.width (ap₂ (λ (name way : List ℕ). element_name name element way) (both.one.name ∙ sym both.two.name) (x.2 ∙ sym y.2)) (x.0 ∙ sym y.0) (x.1 ∙ sym y.1))

    memory_alike : memory_cells nm ≡ memory_cells om
    memory_alike = ap₂ (λ (h : ℕ → List Cell) (n : ℕ). flat_map h (range_with_len 0 n)) (fun_ext cells_of_element) (both.one.depth ∙ sym both.two.depth)

    size_alike : size_of nm ≡ size_of om
    size_alike = ap₂ (λ (d n : ℕ). (d, n)) (both.one.depth ∙ sym both.two.depth) elements_long

  memory_cells_same : flat_map memory_cells net.memories ≡ flat_map memory_cells other.memories
  memory_cells_same = flat_map_each memory_cells net.memories other.memories memories_long memory_alike

  -- The memories have the same sizes.
  pub sizes_same : map size_of net.memories ≡ map size_of other.memories
  sizes_same = map_each size_of size_of net.memories other.memories memories_long size_alike

  captured_cells_same : filter_map captured_cell net.leaves ≡ filter_map captured_cell other.leaves
  captured_cells_same = filter_map_each captured_cell net.leaves other.leaves (is.counted ∙ sym of.counted) captured_alike

  register_cells_same : map (λ (r : NetRegister). r.leaf) net.registers ≡ map (λ (r : NetRegister). r.leaf) other.registers → filter_map (register_cell net) net.registers ≡ filter_map (register_cell other) other.registers
  register_cells_same same =
      filter_map_by (λ x. option_map (leaf_cell (codes "reg")) (slice_get net.leaves x)) (λ (r : NetRegister). r.leaf) net.registers
      ∙ (ap₂ (λ (h : ℕ → Option Cell) (xs : List ℕ). filter_map h xs) (fun_ext (cell_alike (codes "reg"))) same
      ∙ sym (filter_map_by (λ x. option_map (leaf_cell (codes "reg")) (slice_get other.leaves x)) (λ (r : NetRegister). r.leaf) other.registers))

module _ (texts : Texts) (design : Design) (placed : List Placed) (net other : Net) (es fs : List FirType) (well : IsNet net) (formed : IsNet other) (is : IsNetWith texts design placed es net) (of : IsNetWith texts design placed fs other) where
  -- The registers and the captured reads stand at the same leaves.
  pub registers_same : map (λ (r : NetRegister). r.leaf) net.registers ≡ map (λ (r : NetRegister). r.leaf) other.registers
  registers_same = same_numbers (λ (r : NetRegister). r.leaf) net.registers other.registers well.registers_rise formed.registers_rise
      (register_other texts design placed net other es fs well formed is of) (register_other texts design placed other net fs es formed well of is)

  pub captures_same : map (λ (c : Capture). c.leaf) (captures net) ≡ map (λ (c : Capture). c.leaf) (captures other)
  captures_same = same_numbers (λ (c : Capture). c.leaf) (captures net) (captures other) well.captured_rise formed.captured_rise
      (capture_other texts design placed net other es fs well formed is of) (capture_other texts design placed other net fs es formed well of is)

  -- The lines of what is kept are the same.
  pub state_cells_same : state_cells net ≡ state_cells other
  state_cells_same =
      ap₂ (λ (x y : List Cell). x ++ y) (register_cells_same texts design placed net other es fs well formed is of registers_same)
      (ap₂ (λ (x y : List Cell). x ++ y) (memory_cells_same texts design placed net other es fs well formed is of) (captured_cells_same texts design placed net other es fs well formed is of))
