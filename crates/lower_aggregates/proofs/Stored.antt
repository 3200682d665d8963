-- The leaves of a memory's elements, as its first port shows them.
use Rattle.std.proofs.Common.{◌≡◌, ℕ, zero, suc, ◌==◌, Bool, true, false, List, [], ◌∷◌, ◌++◌, map, filter_map, drop, Some, None, refl, sym, ap, ap₂, ◌∙◌, subst, arith, append_assoc, if◌then◌else◌}
use Rattle.std.specs.Prelude.{Contains}
use Rattle.std.specs.List.{flat_map}
use Rattle.std.proofs.lemmas.Grind.{common_steps}
use Rattle.std.proofs.lemmas.List.{map-append}
use Rattle.std.proofs.lemmas.List.Concat.{flat_map-cons}
use Rattle.place_text.specs.declared.place.Place.{Place}
use Rattle.fir_types.specs.declared.name.Name.{Name}
use Rattle.fir_types.specs.declared.fir_type.FirType.{FirType, the_lemmas}
use Rattle.fir_types.specs.declared.fir_type.Field.{Field}
use Rattle.fir_types.specs.declared.leaf.TypeLeaf.{TypeLeaf}
use Rattle.fir_types.specs.declared.leaf.PathStep.TheVariants as step
use Rattle.fir_types.specs.declared.memory.Memory.{Memory}
use Rattle.fir_types.specs.declared.memory.MemLine.{MemLine}
use Rattle.fir_types.specs.declared.memory.MemLine.TheVariants as line
use Rattle.fir_types.specs.declared.memory.PortMode.{PortMode}
use Rattle.fir_types.specs.declared.memory.PortMode.TheVariants as mode
use Rattle.fir_types.specs.Leaves.{leaves, under, field_leaves}
use Rattle.fir_types.specs.Memories.{depth_of}
use Rattle.fir_types.specs.Bundles.{address_bits, addr_name, en_name, clk_name, data_name, mask_name, rdata_name, wmode_name, wdata_name, wmask_name, plain_field, flipped_field, uint_at, clock_at, mask_of, fields_of_mode, port_type, port_field}
use Rattle.fir_types.proofs.Layers.{leaves-bundle, leaves-field}
use Rattle.fir_tree.specs.LeafNames.{Texts}
use Rattle.fir_meaning.specs.Components.{ports_bundle, width_of_leaf}
use Rattle.lower_aggregates.specs.Elements.{own_row, row_before, rows_while, way_behind}
use Rattle.lower_aggregates.specs.Memories.{shown_field, first_mode_of, stored_by, stored}

-- none of the leaves is of the field, up to the first one that begins another port
abbrev Differs : ℕ → List TypeLeaf → Type 0
Differs field [] = Unit {0}
Differs field (l ∷ ls) = way_behind field l.path ≡ None

-- all leaves of this list aren't
abbrev AllDiffer : ℕ → List TypeLeaf → Type 0
AllDiffer field [] = Unit {0}
AllDiffer field (l ∷ ls) = (way_behind field l.path ≡ None) × AllDiffer field ls

differ_then : (field : ℕ) (xs ys : List TypeLeaf) → AllDiffer field xs → Differs field ys → Differs field (xs ++ ys)
differ_then field [] ys a d = d
differ_then field (x ∷ xs) ys a d = a.0

all_append : (field : ℕ) (xs ys : List TypeLeaf) → AllDiffer field xs → AllDiffer field ys → AllDiffer field (xs ++ ys)
all_append field [] ys a b = b
all_append field (x ∷ xs) ys a b = (a.0, all_append field xs ys a.1 b)

-- the leaves of another field
other_field : (field port other : ℕ) (flip turn : Bool) (ls : List TypeLeaf) → (other == field) ≡ false → AllDiffer field (map (under (step.Field port ∷ []) flip) (map (under (step.Field other ∷ []) turn) ls))
other_field field port other flip turn [] h = tt {0}
other_field field port other flip turn (l ∷ ls) h = (ap (λ t. if t then Some l.path else None) h, other_field field port other flip turn ls h)

-- the leaves of the field, one after the other
shown_rows : (texts : Texts) (field port : ℕ) (flip turn : Bool) (ls rest : List TypeLeaf) → (field == field) ≡ true → Differs field rest
    → rows_while texts field (map (under (step.Field port ∷ []) flip) (map (under (step.Field field ∷ []) turn) ls) ++ rest) ≡ map (own_row texts) ls
shown_rows texts field port flip turn [] [] s d = refl
shown_rows texts field port flip turn [] (l ∷ rest) s d = ap (λ o. row_before texts l o (rows_while texts field rest)) d
shown_rows texts field port flip turn (l ∷ ls) rest s d =
    ap (λ t. row_before texts (under (step.Field port ∷ []) flip (under (step.Field field ∷ []) turn l)) (if t then Some l.path else None) (rows_while texts field (map (under (step.Field port ∷ []) flip) (map (under (step.Field field ∷ []) turn) ls) ++ rest))) s
    ∙ ap (λ rows. own_row texts l ∷ rows) (shown_rows texts field port flip turn ls rest s d)

-- What stands behind the first three leaves of a port.
record Behind (field : ℕ) (element : FirType) (port : ℕ) (all : List TypeLeaf) : Type 0 where
  turn : Bool
  a : TypeLeaf
  b : TypeLeaf
  d : TypeLeaf
  rest : List TypeLeaf
  is : all ≡ a ∷ b ∷ d ∷ (map (under (step.Field port ∷ []) true) (map (under (step.Field field ∷ []) turn) (leaves element)) ++ rest)
  differs : Differs field rest

abbrev field_of : ℕ → Field → List TypeLeaf
field_of port f = map (under (step.Field port ∷ []) true) (map (under (step.Field f.name.id ∷ []) f.flip) (leaves f.typ))

-- fields of other names
abbrev AllOthers : ℕ → List Field → Type 0
AllOthers field [] = Unit {0}
AllOthers field (f ∷ fs) = ((f.name.id == field) ≡ false) × AllOthers field fs

-- a port's fields, one after the other
fields_of_port : (port : ℕ) (fs : List Field) → map (under (step.Field port ∷ []) true) (flat_map field_leaves fs) ≡ flat_map (field_of port) fs
fields_of_port port [] = refl
fields_of_port port (f ∷ fs) =
    ap (map (under (step.Field port ∷ []) true)) (flat_map-cons field_leaves f fs) ∙ map-append (under (step.Field port ∷ []) true) (field_leaves f) (flat_map field_leaves fs)
    ∙ ap₂ (λ (u v : List TypeLeaf). u ++ v) (ap (map (under (step.Field port ∷ []) true)) (leaves-field f)) (fields_of_port port fs) ∙ sym (flat_map-cons (field_of port) f fs)

fields_differ : (field port : ℕ) (fs : List Field) → AllOthers field fs → AllDiffer field (flat_map (field_of port) fs)
fields_differ field port [] h = tt {0}
fields_differ field port (f ∷ fs) h =
    subst (AllDiffer field) (sym (flat_map-cons (field_of port) f fs))
    (all_append field (field_of port f) (flat_map (field_of port) fs) (other_field field port f.name.id true f.flip (leaves f.typ) h.0) (fields_differ field port fs h.1))

abbrev port_of : FirType → ℕ → PortMode → Name → Field
port_of element depth m name = record { flip = true; name = name; typ = port_type element depth m name.place }

abbrev ground_leaf : FirType → TypeLeaf
ground_leaf t = record { path = []; flip = false; typ = t }

abbrev head_leaf : ℕ → ℕ → FirType → TypeLeaf
head_leaf port field t = under (step.Field port ∷ []) true (under (step.Field field ∷ []) false (ground_leaf t))

uint_leaf : (place : Place) (w : ℕ) → leaves (uint_at place w) ≡ ground_leaf (uint_at place w) ∷ []
uint_leaf place w = grind (arith, common_steps, the_lemmas)

clock_leaf : (place : Place) → leaves (clock_at place) ≡ ground_leaf (clock_at place) ∷ []
clock_leaf place = grind (arith, common_steps, the_lemmas)

port_leaves_are : (element : FirType) (depth : ℕ) (m : PortMode) (name : Name) → field_leaves (port_of element depth m name)
    ≡ head_leaf name.id addr_name (uint_at name.place (address_bits depth)) ∷ head_leaf name.id en_name (uint_at name.place 1) ∷ head_leaf name.id clk_name (clock_at name.place)
    ∷ flat_map (field_of name.id) (fields_of_mode name.place element m)
port_leaves_are element depth m name =
    let place = name.place in
    let addr = plain_field place addr_name (uint_at place (address_bits depth)) in
    let en = plain_field place en_name (uint_at place 1) in
    let clk = plain_field place clk_name (clock_at place) in
    let more = fields_of_mode place element m in
    let U : List TypeLeaf → List TypeLeaf = map (under (step.Field name.id ∷ []) true) in
    let rest : List TypeLeaf = flat_map (field_of name.id) more in
    leaves-field (port_of element depth m name) ∙ ap U (leaves-bundle (port_type element depth m place) (addr ∷ en ∷ clk ∷ more) refl) ∙ fields_of_port name.id (addr ∷ en ∷ clk ∷ more)
    ∙ ap (λ ls. U (map (under (step.Field addr_name ∷ []) false) ls) ++ (field_of name.id en ++ (field_of name.id clk ++ rest))) (uint_leaf place (address_bits depth))
    ∙ ap (λ ls. head_leaf name.id addr_name (uint_at place (address_bits depth)) ∷ (U (map (under (step.Field en_name ∷ []) false) ls) ++ (field_of name.id clk ++ rest))) (uint_leaf place 1)
    ∙ ap (λ ls. head_leaf name.id addr_name (uint_at place (address_bits depth)) ∷ head_leaf name.id en_name (uint_at place 1) ∷ (U (map (under (step.Field clk_name ∷ []) false) ls) ++ rest)) (clock_leaf place)

abbrev lines_leaves : FirType → ℕ → List MemLine → List TypeLeaf
lines_leaves element depth lines = flat_map field_leaves (filter_map (port_field element depth) lines)

next_differs : (field : ℕ) → (addr_name == field) ≡ false → (element : FirType) (depth : ℕ) (lines : List MemLine) → Differs field (lines_leaves element depth lines)
next_differs field h element depth [] = tt {0}
next_differs field h element depth (line.MemPort at m name ∷ lines) =
    subst (λ ls. Differs field (ls ++ lines_leaves element depth lines)) (sym (port_leaves_are element depth m name)) (ap (λ t. if t then Some [] else None) h)
next_differs field h element depth (line.Element at t ∷ lines) = next_differs field h element depth lines
next_differs field h element depth (line.Depth at n ∷ lines) = next_differs field h element depth lines
next_differs field h element depth (line.ReadLatency at n ∷ lines) = next_differs field h element depth lines
next_differs field h element depth (line.WriteLatency at n ∷ lines) = next_differs field h element depth lines
next_differs field h element depth (line.ReadUnder at u ∷ lines) = next_differs field h element depth lines

behind_of : (element : FirType) (depth : ℕ) (m : PortMode) (name : Name) (lines : List MemLine) → Behind (shown_field m) element name.id (field_leaves (port_of element depth m name) ++ lines_leaves element depth lines)
behind_of element depth mode.Reader name lines =
    let own = field_of name.id (flipped_field name.place data_name element) in
    record {
      turn = true;
      a = head_leaf name.id addr_name (uint_at name.place (address_bits depth));
      b = head_leaf name.id en_name (uint_at name.place 1);
      d = head_leaf name.id clk_name (clock_at name.place);
      rest = lines_leaves element depth lines;
      is = ap (λ ls. ls ++ lines_leaves element depth lines) (port_leaves_are element depth mode.Reader name)
          ∙ ap (λ ls. head_leaf name.id addr_name (uint_at name.place (address_bits depth)) ∷ head_leaf name.id en_name (uint_at name.place 1) ∷ head_leaf name.id clk_name (clock_at name.place) ∷ ls)
          (append_assoc own [] (lines_leaves element depth lines));
      differs = next_differs data_name refl element depth lines;
    }
behind_of element depth mode.Writer name lines =
    let own = field_of name.id (plain_field name.place data_name element) in
    let more = plain_field name.place mask_name (mask_of element) ∷ [] in
    record {
      turn = false;
      a = head_leaf name.id addr_name (uint_at name.place (address_bits depth));
      b = head_leaf name.id en_name (uint_at name.place 1);
      d = head_leaf name.id clk_name (clock_at name.place);
      rest = flat_map (field_of name.id) more ++ lines_leaves element depth lines;
      is = ap (λ ls. ls ++ lines_leaves element depth lines) (port_leaves_are element depth mode.Writer name)
          ∙ ap (λ ls. head_leaf name.id addr_name (uint_at name.place (address_bits depth)) ∷ head_leaf name.id en_name (uint_at name.place 1) ∷ head_leaf name.id clk_name (clock_at name.place) ∷ ls)
          (append_assoc own (flat_map (field_of name.id) more) (lines_leaves element depth lines));
      differs = differ_then data_name (flat_map (field_of name.id) more) (lines_leaves element depth lines) (fields_differ data_name name.id more (refl, tt {0})) (next_differs data_name refl element depth lines);
    }
behind_of element depth mode.ReadWriter name lines =
    let own = field_of name.id (flipped_field name.place rdata_name element) in
    let more = plain_field name.place wmode_name (uint_at name.place 1) ∷ plain_field name.place wdata_name element ∷ plain_field name.place wmask_name (mask_of element) ∷ [] in
    record {
      turn = true;
      a = head_leaf name.id addr_name (uint_at name.place (address_bits depth));
      b = head_leaf name.id en_name (uint_at name.place 1);
      d = head_leaf name.id clk_name (clock_at name.place);
      rest = flat_map (field_of name.id) more ++ lines_leaves element depth lines;
      is = ap (λ ls. ls ++ lines_leaves element depth lines) (port_leaves_are element depth mode.ReadWriter name)
          ∙ ap (λ ls. head_leaf name.id addr_name (uint_at name.place (address_bits depth)) ∷ head_leaf name.id en_name (uint_at name.place 1) ∷ head_leaf name.id clk_name (clock_at name.place) ∷ ls)
          (append_assoc own (flat_map (field_of name.id) more) (lines_leaves element depth lines));
      differs = differ_then rdata_name (flat_map (field_of name.id) more) (lines_leaves element depth lines) (fields_differ rdata_name name.id more (refl, (refl, (refl, tt {0})))) (next_differs rdata_name refl element depth lines);
    }

same_field : (m : PortMode) → (shown_field m == shown_field m) ≡ true
same_field mode.Reader = refl
same_field mode.Writer = refl
same_field mode.ReadWriter = refl

-- the rows of the first port's field
first_rows : (texts : Texts) (element : FirType) (depth : ℕ) (lines : List MemLine) (m : PortMode) → first_mode_of lines ≡ Some m
    → rows_while texts (shown_field m) (drop 3 (lines_leaves element depth lines)) ≡ map (own_row texts) (leaves element)
first_rows texts element depth [] m e = absurd cc
first_rows texts element depth (line.MemPort at k name ∷ lines) m e =
    let b = behind_of element depth k name lines in
    subst (λ x. rows_while texts (shown_field x) (drop 3 (lines_leaves element depth (line.MemPort at k name ∷ lines))) ≡ map (own_row texts) (leaves element)) (some_mode e)
    (ap (λ ls. rows_while texts (shown_field k) (drop 3 ls)) b.is
    ∙ (three_dropped texts (shown_field k) b.a b.b b.d _ ∙ shown_rows texts (shown_field k) name.id true b.turn (leaves element) b.rest (same_field k) b.differs))
  where
    some_mode : {x y : PortMode} → Some x ≡ Some y → x ≡ y
    some_mode {x} {y} q = cc

    three_dropped : (texts : Texts) (field : ℕ) (a b d : TypeLeaf) (ls : List TypeLeaf) → rows_while texts field (drop 3 (a ∷ b ∷ d ∷ ls)) ≡ rows_while texts field ls
    three_dropped texts field a b d ls = let z : drop 3 (a ∷ b ∷ d ∷ ls) ≡ ls = grind (arith, common_steps) in ap (rows_while texts field) z
first_rows texts element depth (line.Element at t ∷ lines) m e = first_rows texts element depth lines m e
first_rows texts element depth (line.Depth at n ∷ lines) m e = first_rows texts element depth lines m e
first_rows texts element depth (line.ReadLatency at n ∷ lines) m e = first_rows texts element depth lines m e
first_rows texts element depth (line.WriteLatency at n ∷ lines) m e = first_rows texts element depth lines m e
first_rows texts element depth (line.ReadUnder at u ∷ lines) m e = first_rows texts element depth lines m e

-- What the first port shows is the element's leaves.
pub stored_is : (texts : Texts) (memory : Memory) (element : FirType) (listed : List TypeLeaf) (m : PortMode) → listed ≡ leaves (ports_bundle memory element) → first_mode_of memory.lines ≡ Some m
    → stored texts memory listed ≡ map (own_row texts) (leaves element)
stored_is texts memory element listed m e f =
    ap (λ o. stored_by texts memory o listed) f
    ∙ ap (λ ls. rows_while texts (shown_field m) (drop 3 ls)) (e ∙ leaves-bundle (ports_bundle memory element) (filter_map (port_field element (depth_of memory)) memory.lines) refl)
    ∙ first_rows texts element (depth_of memory) memory.lines m f

-- the leaves of an element are those of the first port's field

later : {A : Type 0} (z : A) (xs : List A) (x : A) → Contains xs x → Contains (z ∷ xs) x
later z xs x (k, below, is) = (suc k, omega arith, is)

in_map : {A B : Type 0} (f : A → B) (xs : List A) (x : A) → Contains xs x → Contains (map f xs) (f x)
in_map f [] x (k, below, is) = absurd (omega (arith, below))
in_map f (a ∷ xs) x (zero, below, is) = (0, omega arith, ap f is)
in_map f (a ∷ xs) x (suc k, below, is) = later (f a) (map f xs) (f x) (in_map f xs x (k, omega arith, is))

in_front : {A : Type 0} (xs ys : List A) (x : A) → Contains xs x → Contains (xs ++ ys) x
in_front [] ys x (k, below, is) = absurd (omega (arith, below))
in_front (a ∷ xs) ys x (zero, below, is) = (0, omega arith, is)
in_front (a ∷ xs) ys x (suc k, below, is) = later a (xs ++ ys) x (in_front xs ys x (k, omega arith, is))

among_first : (element : FirType) (depth : ℕ) (lines : List MemLine) (m : PortMode) → first_mode_of lines ≡ Some m → (leaf : TypeLeaf) → Contains (leaves element) leaf
    → (l : TypeLeaf) × Contains (lines_leaves element depth lines) l × (width_of_leaf l ≡ width_of_leaf leaf)
among_first element depth [] m e leaf h = absurd cc
among_first element depth (line.MemPort at k name ∷ lines) m e leaf h =
    let b = behind_of element depth k name lines in
    let g : TypeLeaf → TypeLeaf = under (step.Field (shown_field k) ∷ []) b.turn in
    let f : TypeLeaf → TypeLeaf = under (step.Field name.id ∷ []) true in
    let own : List TypeLeaf = map f (map g (leaves element)) in
    let there : Contains (b.a ∷ b.b ∷ b.d ∷ (own ++ b.rest)) (f (g leaf)) =
    later b.a (b.b ∷ b.d ∷ (own ++ b.rest)) (f (g leaf)) (later b.b (b.d ∷ (own ++ b.rest)) (f (g leaf)) (later b.d (own ++ b.rest) (f (g leaf)) (in_front own b.rest (f (g leaf)) (in_map f (map g (leaves element)) (g leaf) (in_map g (leaves element) leaf h))))) in
    (f (g leaf), subst (λ ls. Contains ls (f (g leaf))) (sym b.is) there, refl)
among_first element depth (line.Element at t ∷ lines) m e leaf h = among_first element depth lines m e leaf h
among_first element depth (line.Depth at n ∷ lines) m e leaf h = among_first element depth lines m e leaf h
among_first element depth (line.ReadLatency at n ∷ lines) m e leaf h = among_first element depth lines m e leaf h
among_first element depth (line.WriteLatency at n ∷ lines) m e leaf h = among_first element depth lines m e leaf h
among_first element depth (line.ReadUnder at u ∷ lines) m e leaf h = among_first element depth lines m e leaf h

pub stored_among : (memory : Memory) (element : FirType) (listed : List TypeLeaf) (m : PortMode) → listed ≡ leaves (ports_bundle memory element) → first_mode_of memory.lines ≡ Some m → (leaf : TypeLeaf)
    → Contains (leaves element) leaf → (l : TypeLeaf) × Contains listed l × (width_of_leaf l ≡ width_of_leaf leaf)
stored_among memory element listed m e f leaf h =
    let r = among_first element (depth_of memory) memory.lines m f leaf h in
    (r.0, subst (λ ls. Contains ls r.0) (sym (e ∙ leaves-bundle (ports_bundle memory element) (filter_map (port_field element (depth_of memory)) memory.lines) refl)) r.1, r.2)
