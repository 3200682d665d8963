-- Types in which no bundle has two fields of one name: their leaves have different ways, and so have instances and memories.
use Rattle.std.proofs.Common.{◌≡◌, ◌≢◌, ℕ, zero, suc, ◌<◌, Bool, true, false, ◌||◌, List, [], ◌∷◌, ◌++◌, map, Some, refl, sym, ap, ap₂, ◌∙◌, subst, arith, slice_get, ⊎_elim, append-nil}
use Rattle.std.specs.Prelude.{Contains, ⊤, nat_eq}
use Rattle.std.specs.List.{flat_map, list_any, filter_map}
use Rattle.std.proofs.lemmas.Grind.{common_steps}
use Rattle.std.proofs.lemmas.Bool.{eqb-false, ne_eqb, or_parts}
use Rattle.std.proofs.lemmas.List.{map-append, append_cancel_left}
use Rattle.std.proofs.lemmas.List.Elements.{Contains-append_cases, filter_map-append}
use Rattle.std.proofs.lemmas.List.Folds.{list_any-append}
use Rattle.place_text.specs.declared.place.Place.{Place}
use Rattle.fir_types.specs.declared.fir_type.FirType.{FirType, ind-FirType, the_lemmas}
use Rattle.fir_types.specs.declared.fir_type.Shape.{Shape}
use Rattle.fir_types.specs.declared.fir_type.Shape.TheOpen.{Shape-F}
use Rattle.fir_types.specs.declared.fir_type.Shape.TheFolds.{map-Shape}
use Rattle.fir_types.specs.declared.fir_type.Shape.TheViews.{roll-Shape, roll-Field, roll-FirType}
use Rattle.fir_types.specs.declared.fir_type.Shape.TheVariants as shape
use Rattle.fir_types.specs.declared.fir_type.Shape.TheVariants.{rolls-Unsigned, rolls-Signed, rolls-Clock, rolls-Reset, rolls-AsyncReset, rolls-Bundle, rolls-Vector}
use Rattle.fir_types.specs.declared.fir_type.Field.{Field}
use Rattle.fir_types.specs.declared.leaf.TypeLeaf.{TypeLeaf}
use Rattle.fir_types.specs.declared.leaf.PathStep.{PathStep}
use Rattle.fir_types.specs.declared.leaf.PathStep.TheVariants as step
use Rattle.fir_types.specs.declared.memory.Memory.{Memory}
use Rattle.fir_types.specs.declared.memory.MemLine.{MemLine}
use Rattle.fir_types.specs.declared.memory.MemLine.TheVariants as line
use Rattle.fir_types.specs.declared.memory.PortMode.{PortMode}
use Rattle.fir_types.specs.declared.memory.PortMode.TheVariants as mode
use Rattle.fir_types.specs.declared.name.Name.{Name}
use Rattle.fir_types.specs.declared.port.Port.{Port}
use Rattle.fir_types.specs.Leaves.{leaves, field_leaves, elements, under}
use Rattle.fir_types.specs.Memories.{element_of, element_in, depth_of, first_or}
use Rattle.fir_types.specs.Bundles.{instance_of, instance_field, memory_of, port_field, port_type, mask_of, mask_of_field, uint_at, clock_at}
use Rattle.fir_types.proofs.Layers.{leaves-bundle, leaves-vector, leaves-field}
use Rattle.type_check.specs.declared.fault.TypeFault.{TypeFault}
use Rattle.type_check.specs.declared.fault.TypeFault.TheVariants.{FieldTwice, MemoryField}
use Rattle.type_check.specs.Parts.{when}
use Rattle.type_check.specs.Texts.{twice_in, seconds_behind, has_name, stored_faults}
use Rattle.type_check.specs.Memories.{memory_faults, line_faults, again_behind, is_said, is_port}
use Rattle.fir_names.proofs.Graphs.{some_same}
use Rattle.circuit_laws.specs.Names.{Every, Avoids}
use Rattle.circuit_laws.proofs.Alone.{every-append}
use Rattle.circuit_laws.proofs.Scoping.{Distinct}
use Rattle.fitted_laws.proofs.Steps.{left_empty, right_empty, twice_of_bundle, twice-vector}
use Rattle.fir_names.proofs.Members.{Contains-first, Contains-later, Contains-none, Contains-one, Contains-map, Contains-from_map, Contains-from_flat_map}

when_false : (b : Bool) (fault : TypeFault) → b ≡ false → when b fault ≡ []
when_false true fault e = cc
when_false false fault e = refl

pub false_when : (b : Bool) (fault : TypeFault) → when b fault ≡ [] → b ≡ false
false_when true fault e = cc
false_when false fault e = refl

-- Instances

unnamed_more : (before : List Name) (n : Name) (ns : List Name) → Every Name (λ m. has_name before m ≡ false) ns → Avoids n.id ns → Every Name (λ m. has_name (before ++ n ∷ []) m ≡ false) ns
unnamed_more before n [] h a = tt
unnamed_more before n (m ∷ ns) h a = (
  list_any-append (λ (other : Name). nat_eq m.id other.id) before (n ∷ []) ∙ ap₂ (λ x y. x || (y || false)) h.0 (ne_eqb m.id n.id a.0),
  unnamed_more before n ns h.1 a.1,
)

none_second : (before ns : List Name) → Distinct ns → Every Name (λ n. has_name before n ≡ false) ns → seconds_behind before ns ≡ []
none_second before [] d h = refl
none_second before (n ∷ ns) d h = ap₂ (λ x y. x ++ y) (when_false (has_name before n) (FieldTwice n.place) h.0) (none_second (before ++ n ∷ []) ns d.1 (unnamed_more before n ns h.1 d.0))

none_before : (ns : List Name) → Every Name (λ n. has_name [] n ≡ false) ns
none_before [] = tt
none_before (n ∷ ns) = (refl, none_before ns)

port_names : (ports : List Port) → map (λ (f : Field). f.name) (map instance_field ports) ≡ map (λ (p : Port). p.name) ports
port_names [] = refl
port_names (p ∷ ps) = ap (λ l. p.name ∷ l) (port_names ps)

port_types : (ports : List Port) → Every Port (λ p. twice_in p.typ ≡ []) ports → flat_map (λ (f : Field). twice_in f.typ) (map instance_field ports) ≡ []
port_types [] h = refl
port_types (p ∷ ps) h = ap₂ (λ x y. x ++ y) h.0 (port_types ps h.1)

pub instance_once : (ports : List Port) → Distinct (map (λ (p : Port). p.name) ports) → Every Port (λ p. twice_in p.typ ≡ []) ports → twice_in (instance_of ports) ≡ []
instance_once ports d h =
    twice_of_bundle (instance_of ports) (map instance_field ports) refl
    ∙ ap₂ (λ x y. x ++ y) (ap (seconds_behind []) (port_names ports) ∙ none_second [] (map (λ (p : Port). p.name) ports) d (none_before (map (λ (p : Port). p.name) ports))) (port_types ports h)

-- Masks

pub mask-bundle : (t : FirType) (fs : List Field) → t.shape ≡ shape.Bundle fs → (mask_of t).shape ≡ shape.Bundle (map mask_of_field fs)
mask-bundle t fs e = grind (arith, common_steps, the_lemmas)

pub mask-vector : (t e : FirType) (n : ℕ) → t.shape ≡ shape.Vector e n → (mask_of t).shape ≡ shape.Vector (mask_of e) n
mask-vector t e n h = grind (arith, common_steps, the_lemmas)

pub mask-field : (f : Field) → mask_of_field f ≡ record { flip = f.flip; name = f.name; typ = mask_of f.typ }
mask-field f = grind (arith, common_steps, the_lemmas)

abbrev MaskTwice : FirType → Type 0
MaskTwice t = twice_in (mask_of t) ≡ twice_in t

abbrev FieldMaskTwice : Field → Type 0
FieldMaskTwice f = MaskTwice f.typ

abbrev ShapeMaskTwice : Shape → Type 0
ShapeMaskTwice s = (place : Place) → MaskTwice (record { place = place; shape = s })

mask_names : (ps : List ((f : Field) × FieldMaskTwice f)) → map (λ (f : Field). f.name) (map mask_of_field (map (λ e. e.0) ps)) ≡ map (λ (f : Field). f.name) (map (λ e. e.0) ps)
mask_names [] = refl
mask_names (p ∷ ps) = ap₂ (λ x y. x ∷ y) (ap (λ (f : Field). f.name) (mask-field p.0)) (mask_names ps)

mask_types : (ps : List ((f : Field) × FieldMaskTwice f)) → flat_map (λ (f : Field). twice_in f.typ) (map mask_of_field (map (λ e. e.0) ps)) ≡ flat_map (λ (f : Field). twice_in f.typ) (map (λ e. e.0) ps)
mask_types [] = refl
mask_types (p ∷ ps) = ap₂ (λ x y. x ++ y) (ap (λ (f : Field). twice_in f.typ) (mask-field p.0) ∙ p.1) (mask_types ps)

shape_mask_twice : (y : Shape-F ((s : Shape) × ShapeMaskTwice s) ((f : Field) × FieldMaskTwice f) ((t : FirType) × MaskTwice t))
    → ShapeMaskTwice (roll-Shape (map-Shape _ _ _ Shape Field FirType (λ e. e.0) (λ e. e.0) (λ e. e.0) y))
shape_mask_twice (Shape-F.Unsigned w) = subst ShapeMaskTwice (sym (rolls-Unsigned w)) (λ place. grind (arith, common_steps, the_lemmas))
shape_mask_twice (Shape-F.Signed w) = subst ShapeMaskTwice (sym (rolls-Signed w)) (λ place. grind (arith, common_steps, the_lemmas))
shape_mask_twice Shape-F.Clock = subst ShapeMaskTwice (sym rolls-Clock) (λ place. grind (arith, common_steps, the_lemmas))
shape_mask_twice Shape-F.Reset = subst ShapeMaskTwice (sym rolls-Reset) (λ place. grind (arith, common_steps, the_lemmas))
shape_mask_twice Shape-F.AsyncReset = subst ShapeMaskTwice (sym rolls-AsyncReset) (λ place. grind (arith, common_steps, the_lemmas))
shape_mask_twice (Shape-F.Bundle ps) = subst ShapeMaskTwice (sym (rolls-Bundle (map (λ e. e.0) ps))) (λ place.
    let fs : List Field = map (λ e. e.0) ps in
    let t : FirType = record { place = place; shape = shape.Bundle (map (λ e. e.0) ps) } in
    twice_of_bundle (mask_of t) (map mask_of_field fs) (mask-bundle t fs refl) ∙ ap₂ (λ x y. seconds_behind [] x ++ y) (mask_names ps) (mask_types ps) ∙ sym (twice_of_bundle t fs refl))
shape_mask_twice (Shape-F.Vector p n) = subst ShapeMaskTwice (sym (rolls-Vector p.0 n)) (λ place.
    let t : FirType = record { place = place; shape = shape.Vector p.0 n } in
    twice-vector (mask_of t) (mask_of p.0) n (mask-vector t p.0 n refl) ∙ p.1 ∙ sym (twice-vector t p.0 n refl))

mask_twice : (t : FirType) → twice_in (mask_of t) ≡ twice_in t
mask_twice = ind-FirType ShapeMaskTwice FieldMaskTwice MaskTwice
    (λ x y is. subst (λ z. ShapeMaskTwice (roll-Shape z)) is (shape_mask_twice y))
    (λ x y is. subst (λ z. FieldMaskTwice (roll-Field z)) is y.typ.1)
    (λ x y is. subst (λ z. MaskTwice (roll-FirType z)) is (y.shape.1 y.place))

-- Memories

uint_twice : (place : Place) (n : ℕ) → twice_in (uint_at place n) ≡ []
uint_twice place n = grind (arith, common_steps, the_lemmas)

clock_twice : (place : Place) → twice_in (clock_at place) ≡ []
clock_twice place = grind (arith, common_steps, the_lemmas)

mode_once : (place : Place) (element : FirType) (depth : ℕ) (m : PortMode) → twice_in element ≡ [] → twice_in (port_type element depth m place) ≡ []
mode_once place element depth mode.Reader h =
    twice_of_bundle (port_type element depth mode.Reader place) _ refl
    ∙ ap₂ (λ x y. x ++ y) (uint_twice place _) (ap₂ (λ x y. x ++ y) (uint_twice place 1) (ap₂ (λ x y. x ++ y) (clock_twice place) (ap (λ x. x ++ []) h)))
mode_once place element depth mode.Writer h =
    twice_of_bundle (port_type element depth mode.Writer place) _ refl
    ∙ ap₂ (λ x y. x ++ y) (uint_twice place _) (ap₂ (λ x y. x ++ y) (uint_twice place 1) (ap₂ (λ x y. x ++ y) (clock_twice place) (ap₂ (λ x y. x ++ y) h (ap (λ x. x ++ []) (mask_twice element ∙ h)))))
mode_once place element depth mode.ReadWriter h =
    twice_of_bundle (port_type element depth mode.ReadWriter place) _ refl
    ∙ ap₂ (λ x y. x ++ y) (uint_twice place _) (ap₂ (λ x y. x ++ y) (uint_twice place 1) (ap₂ (λ x y. x ++ y) (clock_twice place) (ap₂ (λ x y. x ++ y) h
    (ap₂ (λ x y. x ++ y) (uint_twice place 1) (ap₂ (λ x y. x ++ y) h (ap (λ x. x ++ []) (mask_twice element ∙ h)))))))

abbrev port_fields : FirType → ℕ → List MemLine → List Field
port_fields element depth lines = filter_map (port_field element depth) lines

said_named : (element : FirType) (depth id : ℕ) (lines : List MemLine) → list_any (is_port id) lines ≡ list_any (λ (other : Name). nat_eq id other.id) (map (λ (f : Field). f.name) (port_fields element depth lines))
said_named element depth id [] = refl
said_named element depth id (line.MemPort at m name ∷ lines) = ap (λ b. nat_eq id name.id || b) (said_named element depth id lines)
said_named element depth id (line.Element at typ ∷ lines) = said_named element depth id lines
said_named element depth id (line.Depth at n ∷ lines) = said_named element depth id lines
said_named element depth id (line.ReadLatency at n ∷ lines) = said_named element depth id lines
said_named element depth id (line.WriteLatency at n ∷ lines) = said_named element depth id lines
said_named element depth id (line.ReadUnder at u ∷ lines) = said_named element depth id lines

fields-append : (element : FirType) (depth : ℕ) (before : List MemLine) (l : MemLine)
    → map (λ (f : Field). f.name) (port_fields element depth (before ++ l ∷ [])) ≡ map (λ (f : Field). f.name) (port_fields element depth before) ++ map (λ (f : Field). f.name) (port_fields element depth (l ∷ []))
fields-append element depth before l =
    ap (map (λ (f : Field). f.name)) (filter_map-append (port_field element depth) before (l ∷ []))
    ∙ map-append (λ (f : Field). f.name) (port_fields element depth before) (port_fields element depth (l ∷ []))

ports_second : (element : FirType) (depth : ℕ) (before lines : List MemLine) → again_behind before lines ≡ []
    → seconds_behind (map (λ (f : Field). f.name) (port_fields element depth before)) (map (λ (f : Field). f.name) (port_fields element depth lines)) ≡ []
ports_second element depth before [] e = refl
ports_second element depth before (line.MemPort at m name ∷ lines) e =
    let names : List Name = map (λ (f : Field). f.name) (port_fields element depth before) in
    let one : list_any (is_port name.id) before ≡ false = false_when _ (MemoryField name.place) (left_empty _ _ e) in
    let rest = ports_second element depth (before ++ line.MemPort at m name ∷ []) lines (right_empty (when (is_said before (line.MemPort at m name)) (MemoryField name.place)) _ e) in
    ap₂ (λ x y. x ++ y) (when_false (has_name names name) (FieldTwice name.place) (sym (said_named element depth name.id before) ∙ one))
    (ap (λ b. seconds_behind b (map (λ (f : Field). f.name) (port_fields element depth lines))) (sym (fields-append element depth before (line.MemPort at m name))) ∙ rest)
ports_second element depth before (line.Element at typ ∷ lines) e =
    ap (λ b. seconds_behind b (map (λ (f : Field). f.name) (port_fields element depth lines))) (sym (fields-append element depth before (line.Element at typ) ∙ append-nil _))
    ∙ ports_second element depth (before ++ line.Element at typ ∷ []) lines (right_empty (when (is_said before (line.Element at typ)) (MemoryField at)) _ e)
ports_second element depth before (line.Depth at n ∷ lines) e =
    ap (λ b. seconds_behind b (map (λ (f : Field). f.name) (port_fields element depth lines))) (sym (fields-append element depth before (line.Depth at n) ∙ append-nil _))
    ∙ ports_second element depth (before ++ line.Depth at n ∷ []) lines (right_empty (when (is_said before (line.Depth at n)) (MemoryField at)) _ e)
ports_second element depth before (line.ReadLatency at n ∷ lines) e =
    ap (λ b. seconds_behind b (map (λ (f : Field). f.name) (port_fields element depth lines))) (sym (fields-append element depth before (line.ReadLatency at n) ∙ append-nil _))
    ∙ ports_second element depth (before ++ line.ReadLatency at n ∷ []) lines (right_empty (when (is_said before (line.ReadLatency at n)) (MemoryField at)) _ e)
ports_second element depth before (line.WriteLatency at n ∷ lines) e =
    ap (λ b. seconds_behind b (map (λ (f : Field). f.name) (port_fields element depth lines))) (sym (fields-append element depth before (line.WriteLatency at n) ∙ append-nil _))
    ∙ ports_second element depth (before ++ line.WriteLatency at n ∷ []) lines (right_empty (when (is_said before (line.WriteLatency at n)) (MemoryField at)) _ e)
ports_second element depth before (line.ReadUnder at u ∷ lines) e =
    ap (λ b. seconds_behind b (map (λ (f : Field). f.name) (port_fields element depth lines))) (sym (fields-append element depth before (line.ReadUnder at u) ∙ append-nil _))
    ∙ ports_second element depth (before ++ line.ReadUnder at u ∷ []) lines (right_empty (when (is_said before (line.ReadUnder at u)) (MemoryField at)) _ e)

ports_types : (element : FirType) (depth : ℕ) (lines : List MemLine) → twice_in element ≡ [] → flat_map (λ (f : Field). twice_in f.typ) (port_fields element depth lines) ≡ []
ports_types element depth [] h = refl
ports_types element depth (line.MemPort at m name ∷ lines) h = ap₂ (λ x y. x ++ y) (mode_once name.place element depth m h) (ports_types element depth lines h)
ports_types element depth (line.Element at typ ∷ lines) h = ports_types element depth lines h
ports_types element depth (line.Depth at n ∷ lines) h = ports_types element depth lines h
ports_types element depth (line.ReadLatency at n ∷ lines) h = ports_types element depth lines h
ports_types element depth (line.WriteLatency at n ∷ lines) h = ports_types element depth lines h
ports_types element depth (line.ReadUnder at u ∷ lines) h = ports_types element depth lines h

empty_once : twice_in (record { place = record { line = 1; column = 1 }; shape = shape.Bundle [] }) ≡ []
empty_once = grind (arith, common_steps, the_lemmas)

element_first : (other : FirType) (lines : List MemLine) → twice_in other ≡ [] → flat_map line_faults lines ≡ [] → twice_in (first_or other (filter_map element_in lines)) ≡ []
element_first other [] o e = o
element_first other (line.Element at typ ∷ lines) o e = left_empty (twice_in typ) _ (left_empty (stored_faults typ) _ e)
element_first other (line.MemPort at m name ∷ lines) o e = element_first other lines o e
element_first other (line.Depth at n ∷ lines) o e = element_first other lines o (right_empty (line_faults (line.Depth at n)) _ e)
element_first other (line.ReadLatency at n ∷ lines) o e = element_first other lines o (right_empty (line_faults (line.ReadLatency at n)) _ e)
element_first other (line.WriteLatency at n ∷ lines) o e = element_first other lines o (right_empty (line_faults (line.WriteLatency at n)) _ e)
element_first other (line.ReadUnder at u ∷ lines) o e = element_first other lines o e

pub element_once : (memory : Memory) → memory_faults memory ≡ [] → twice_in (element_of memory) ≡ []
element_once memory e = element_first _ memory.lines empty_once (left_empty (flat_map line_faults memory.lines) _ e)

pub memory_once : (memory : Memory) → memory_faults memory ≡ [] → twice_in (memory_of memory) ≡ []
memory_once memory e =
    let element : FirType = element_of memory in
    let rest = right_empty (flat_map line_faults memory.lines) _ e in
    twice_of_bundle (memory_of memory) (port_fields element (depth_of memory) memory.lines) refl
    ∙ ap₂ (λ x y. x ++ y) (ports_second element (depth_of memory) [] memory.lines (left_empty (again_behind [] memory.lines) _ rest))
    (ports_types element (depth_of memory) memory.lines (element_once memory e))

-- Different ways

abbrev pub Differ : List TypeLeaf → Type 0
Differ [] = ⊤
Differ (l ∷ ls) = Every TypeLeaf (λ m. l.path ≢ m.path) ls × Differ ls

every_under : (path : List PathStep) (flip : Bool) (l : TypeLeaf) (ls : List TypeLeaf) → Every TypeLeaf (λ m. l.path ≢ m.path) ls
    → Every TypeLeaf (λ m. path ++ l.path ≢ m.path) (map (under path flip) ls)
every_under path flip l [] h = tt
every_under path flip l (m ∷ ls) h = (λ e. h.0 (append_cancel_left path l.path m.path e), every_under path flip l ls h.1)

differ_under : (path : List PathStep) (flip : Bool) (ls : List TypeLeaf) → Differ ls → Differ (map (under path flip) ls)
differ_under path flip [] h = tt
differ_under path flip (l ∷ ls) h = (every_under path flip l ls h.0, differ_under path flip ls h.1)

differ_both : (xs ys : List TypeLeaf) → Differ xs → Differ ys → ((l m : TypeLeaf) → Contains xs l → Contains ys m → l.path ≢ m.path) → Differ (xs ++ ys)
differ_both [] ys h k c = k
differ_both (x ∷ xs) ys h k c = (every-append TypeLeaf (λ m. x.path ≢ m.path) xs ys h.0 (each ys (λ m i. c x m (Contains-first xs) i)), differ_both xs ys h.1 k (λ l m i j. c l m (Contains-later x xs i) j))
  where
    each : (zs : List TypeLeaf) → ((m : TypeLeaf) → Contains zs m → x.path ≢ m.path) → Every TypeLeaf (λ m. x.path ≢ m.path) zs
    each [] h = tt
    each (z ∷ zs) h = (h z (Contains-first zs), each zs (λ m i. h m (Contains-later z zs i)))

same_head : {x y : PathStep} {xs ys : List PathStep} → x ∷ xs ≡ y ∷ ys → x ≡ y
same_head e = cc

same_element : (j k : ℕ) → step.Element j ≡ step.Element k → j ≡ k
same_element j k e = cc

same_field_name : (j k : ℕ) → step.Field j ≡ step.Field k → j ≡ k
same_field_name j k e = cc

-- a leaf of the first elements begins with the number of one of them
element_number : (ls : List TypeLeaf) (n : ℕ) (l : TypeLeaf) → Contains (elements ls n) l → (k : ℕ) × (way : List PathStep) × (k < n) × (l.path ≡ step.Element k ∷ way)
element_number ls zero l i = absurd (Contains-none i)
element_number ls (suc n) l i = ⊎_elim
    (λ a. let r = element_number ls n l a in (r.0, r.1, omega (arith, r.2), r.3))
    (λ b. let f = Contains-from_map (under (step.Element n ∷ []) false) ls l b in (n, f.0.path, omega arith, ap (λ (m : TypeLeaf). m.path) (sym f.2)))
    (Contains-append_cases (elements ls n) (map (under (step.Element n ∷ []) false) ls) _ i)

differ_elements : (ls : List TypeLeaf) (n : ℕ) → Differ ls → Differ (elements ls n)
differ_elements ls zero h = tt
differ_elements ls (suc n) h = differ_both (elements ls n) (map (under (step.Element n ∷ []) false) ls) (differ_elements ls n h) (differ_under (step.Element n ∷ []) false ls h) (λ l m i j e.
    let a = element_number ls n l i in
    let b = Contains-from_map (under (step.Element n ∷ []) false) ls m j in
    let same : step.Element a.0 ∷ a.1 ≡ step.Element n ∷ b.0.path = sym a.3 ∙ e ∙ ap (λ (x : TypeLeaf). x.path) (sym b.2) in
    let k : a.0 ≡ n = same_element a.0 n (same_head same) in
    omega (arith, a.2, k))

abbrev TypeDiffers : FirType → Type 0
TypeDiffers t = twice_in t ≡ [] → Differ (leaves t)

abbrev FieldDiffers : Field → Type 0
FieldDiffers f = TypeDiffers f.typ

abbrev ShapeDiffers : Shape → Type 0
ShapeDiffers s = (place : Place) → TypeDiffers (record { place = place; shape = s })

-- a leaf of fields begins with the name of one of them
field_name : (fs : List Field) (l : TypeLeaf) → Contains (flat_map field_leaves fs) l → (f : Field) × (way : List PathStep) × Contains fs f × (l.path ≡ step.Field f.name.id ∷ way)
field_name fs l i =
    let f = Contains-from_flat_map field_leaves fs l i in
    let g = Contains-from_map (under (step.Field f.0.name.id ∷ []) f.0.flip) (leaves f.0.typ) l (subst (λ list. Contains list l) (leaves-field f.0) f.2) in
    (f.0, g.0.path, f.1, ap (λ (m : TypeLeaf). m.path) (sym g.2))

-- no name behind these is among them
later_named : (before names : List Name) → seconds_behind before names ≡ [] → (n : Name) → Contains names n → has_name before n ≡ false
later_named before [] e n i = absurd (Contains-none i)
later_named before (m ∷ names) e n i = ⊎_elim
    (λ l. subst (λ z. has_name before z ≡ false) (sym (Contains-one l)) (false_when (has_name before m) (FieldTwice m.place) (left_empty _ _ e)))
    (λ r. (or_parts _ _ (sym (list_any-append (λ (other : Name). nat_eq n.id other.id) before (m ∷ [])) ∙ later_named (before ++ m ∷ []) names (right_empty (when (has_name before m) (FieldTwice m.place)) _ e) n r)).0)
    (Contains-append_cases (m ∷ []) names _ i)

name_differs : (before : List Name) (m n : Name) → has_name (before ++ m ∷ []) n ≡ false → n.id ≢ m.id
name_differs before m n e same =
    let f = (or_parts _ _ (sym (list_any-append (λ (other : Name). nat_eq n.id other.id) before (m ∷ [])) ∙ e)).1 in
    let g : nat_eq n.id m.id ≡ false = (or_parts (nat_eq n.id m.id) false f).0 in
    eqb-false n.id m.id g same

differ_fields : (ps : List ((f : Field) × FieldDiffers f)) (before : List Name) → seconds_behind before (map (λ (f : Field). f.name) (map (λ e. e.0) ps)) ≡ []
    → flat_map (λ (f : Field). twice_in f.typ) (map (λ e. e.0) ps) ≡ [] → Differ (flat_map field_leaves (map (λ e. e.0) ps))
differ_fields [] before e t = tt
differ_fields (p ∷ ps) before e t =
    let fs : List Field = map (λ e. e.0) ps in
    let f : Field = p.0 in
    let rest = right_empty (when (has_name before f.name) (FieldTwice f.name.place)) _ e in
    differ_both (field_leaves f) (flat_map field_leaves fs)
    (subst Differ (sym (leaves-field f)) (differ_under (step.Field f.name.id ∷ []) f.flip (leaves f.typ) (p.1 (left_empty (twice_in f.typ) _ t))))
    (differ_fields ps (before ++ f.name ∷ []) rest (right_empty (twice_in f.typ) _ t))
    (λ l m i j same.
    let a = Contains-from_map (under (step.Field f.name.id ∷ []) f.flip) (leaves f.typ) l (subst (λ list. Contains list l) (leaves-field f) i) in
    let b = field_name fs m j in
    let head : step.Field f.name.id ∷ a.0.path ≡ step.Field b.0.name.id ∷ b.1 = ap (λ (x : TypeLeaf). x.path) a.2 ∙ same ∙ b.3 in
    name_differs before f.name b.0.name (later_named (before ++ f.name ∷ []) (map (λ (g : Field). g.name) fs) rest b.0.name (Contains-map (λ (g : Field). g.name) fs b.0 b.2))
    (sym (same_field_name f.name.id b.0.name.id (same_head head))))

one_differs : (t : FirType) → leaves t ≡ record { path = []; flip = false; typ = t } ∷ [] → Differ (leaves t)
one_differs t e = subst Differ (sym e) (tt, tt)

shape_differs : (y : Shape-F ((s : Shape) × ShapeDiffers s) ((f : Field) × FieldDiffers f) ((t : FirType) × TypeDiffers t))
    → ShapeDiffers (roll-Shape (map-Shape _ _ _ Shape Field FirType (λ e. e.0) (λ e. e.0) (λ e. e.0) y))
shape_differs (Shape-F.Unsigned w) = subst ShapeDiffers (sym (rolls-Unsigned w)) (λ place h. one_differs (record { place = place; shape = shape.Unsigned w }) (grind (arith, common_steps, the_lemmas)))
shape_differs (Shape-F.Signed w) = subst ShapeDiffers (sym (rolls-Signed w)) (λ place h. one_differs (record { place = place; shape = shape.Signed w }) (grind (arith, common_steps, the_lemmas)))
shape_differs Shape-F.Clock = subst ShapeDiffers (sym rolls-Clock) (λ place h. one_differs (record { place = place; shape = shape.Clock }) (grind (arith, common_steps, the_lemmas)))
shape_differs Shape-F.Reset = subst ShapeDiffers (sym rolls-Reset) (λ place h. one_differs (record { place = place; shape = shape.Reset }) (grind (arith, common_steps, the_lemmas)))
shape_differs Shape-F.AsyncReset = subst ShapeDiffers (sym rolls-AsyncReset) (λ place h. one_differs (record { place = place; shape = shape.AsyncReset }) (grind (arith, common_steps, the_lemmas)))
shape_differs (Shape-F.Bundle ps) = subst ShapeDiffers (sym (rolls-Bundle (map (λ e. e.0) ps))) (λ place h.
    let fs : List Field = map (λ e. e.0) ps in
    let t : FirType = record { place = place; shape = shape.Bundle (map (λ e. e.0) ps) } in
    let both : seconds_behind [] (map (λ (f : Field). f.name) fs) ++ flat_map (λ (f : Field). twice_in f.typ) fs ≡ [] = sym (twice_of_bundle t fs refl) ∙ h in
    subst Differ (sym (leaves-bundle t fs refl)) (differ_fields ps [] (left_empty (seconds_behind [] (map (λ (f : Field). f.name) fs)) _ both) (right_empty (seconds_behind [] (map (λ (f : Field). f.name) fs)) _ both)))
shape_differs (Shape-F.Vector p n) = subst ShapeDiffers (sym (rolls-Vector p.0 n)) (λ place h.
    let t : FirType = record { place = place; shape = shape.Vector p.0 n } in
    subst Differ (sym (leaves-vector t p.0 n refl)) (differ_elements (leaves p.0) n (p.1 (sym (twice-vector t p.0 n refl) ∙ h))))

pub leaves_differ : (t : FirType) → twice_in t ≡ [] → Differ (leaves t)
leaves_differ = ind-FirType ShapeDiffers FieldDiffers TypeDiffers
    (λ x y is. subst (λ z. ShapeDiffers (roll-Shape z)) is (shape_differs y))
    (λ x y is. subst (λ z. FieldDiffers (roll-Field z)) is y.typ.1)
    (λ x y is. subst (λ z. TypeDiffers (roll-FirType z)) is (y.shape.1 y.place))

-- by places
every_get : (P : TypeLeaf → Type 0) (ls : List TypeLeaf) → Every TypeLeaf P ls → (k : ℕ) (l : TypeLeaf) → slice_get ls k ≡ Some l → P l
every_get P [] h k l e = cc
every_get P (m ∷ ls) h zero l e = subst P (some_same e) h.0
every_get P (m ∷ ls) h (suc k) l e = every_get P ls h.1 k l e

pub differ_places : (ls : List TypeLeaf) → Differ ls → (j k : ℕ) (a b : TypeLeaf) → slice_get ls j ≡ Some a → slice_get ls k ≡ Some b → a.path ≡ b.path → j ≡ k
differ_places [] d j k a b e f s = cc
differ_places (l ∷ ls) d zero zero a b e f s = refl
differ_places (l ∷ ls) d zero (suc k) a b e f s = absurd (every_get (λ m. l.path ≢ m.path) ls d.0 k b f (ap (λ (x : TypeLeaf). x.path) (some_same e) ∙ s))
differ_places (l ∷ ls) d (suc j) zero a b e f s = absurd (every_get (λ m. l.path ≢ m.path) ls d.0 j a e (ap (λ (x : TypeLeaf). x.path) (some_same f) ∙ sym s))
differ_places (l ∷ ls) d (suc j) (suc k) a b e f s = ap suc (differ_places ls d.1 j k a b e f s)
