-- What registers and memories hold: no Clock and nothing flipped; and the names of a memory's ports.
use Rattle.std.proofs.Common.{◌≡◌, ◌≢◌, ℕ, zero, suc, ◌==◌, Bool, true, false, not, ◌||◌, cond, List, [], ◌∷◌, ◌++◌, map, Some, refl, sym, ap, ap₂, ◌∙◌, subst, arith, ⊎_elim}
use Rattle.std.proofs.lemmas.List.Elements.{Contains-append_cases}
use Rattle.std.specs.Prelude.{Contains, nat_eq, find}
use Rattle.std.specs.List.{flat_map, list_any, filter_map, AllByRecursion}
use Rattle.std.proofs.lemmas.Grind.{common_steps}
use Rattle.std.proofs.lemmas.Bool.{eq-eqb, eqb-false, ne_eqb, or_parts}
use Rattle.std.proofs.lemmas.List.{map-append}
use Rattle.std.proofs.lemmas.List.Folds.{list_any-append}
use Rattle.place_text.specs.declared.place.Place.{Place}
use Rattle.fir_types.specs.declared.fir_type.FirType.{FirType, the_lemmas}
use Rattle.fir_types.specs.declared.fir_type.Shape.TheVariants as shape
use Rattle.fir_types.specs.declared.fir_type.Field.{Field}
use Rattle.fir_types.specs.declared.leaf.TypeLeaf.{TypeLeaf}
use Rattle.fir_types.specs.declared.leaf.PathStep.{PathStep}
use Rattle.fir_types.specs.declared.leaf.PathStep.TheVariants as step
use Rattle.fir_types.specs.declared.memory.Memory.{Memory}
use Rattle.fir_types.specs.declared.memory.MemLine.{MemLine}
use Rattle.fir_types.specs.declared.memory.MemLine.TheVariants as line
use Rattle.fir_types.specs.declared.memory.PortMode.{PortMode}
use Rattle.fir_types.specs.declared.memory.PortMode.TheVariants as mode
use Rattle.fir_types.specs.declared.fir_type.Shape.{Shape}
use Rattle.fir_types.specs.declared.fir_type.Shape.TheOpen.{Shape-F}
use Rattle.fir_types.specs.declared.fir_type.Shape.TheViews.{out-Shape}
use Rattle.fir_types.specs.Leaves.{leaves, field_leaves, elements, under, way_of, is_clock_shape, is_clock, has_clock, is_signal_shape, is_signal, has_signal}
use Rattle.fir_types.specs.Memories.{element_of, element_in, depth_of, first_or}
use Rattle.fir_types.specs.Bundles.{memory_of, port_field, port_type, fields_of_mode, mask_of, plain_field, flipped_field, uint_at, clock_at, address_bits, addr_name, en_name, clk_name, data_name, mask_name, rdata_name, wmode_name, wdata_name, wmask_name}
use Rattle.fir_types.specs.Passivity.{has_flip}
use Rattle.fir_types.specs.Equivalence.{Equivalent, IsUnsigned, IsSigned, SameFields, unsigned, signed, clocks, asyncs, vectors, bundles, no_fields, same_field, a_uint, a_reset, a_sint}
use Rattle.fir_types.proofs.Layers.{leaves-bundle, leaves-vector, leaves-field, flip-bundle}
use Rattle.fir_types.proofs.Masks.{masked}
use Rattle.type_check.specs.declared.fault.TypeFault.TheVariants.{MemoryField, OperandKind, NotPassive}
use Rattle.type_check.specs.Parts.{when}
use Rattle.type_check.specs.Texts.{stored_faults, twice_in, is_passive}
use Rattle.type_check.specs.Memories.{memory_faults, line_faults, again_behind, is_said, is_port}
use Rattle.fir_meaning.specs.MemoryPorts.{MemoryPort, memory_ports, port_named, port_in}
use Rattle.circuit_laws.specs.Names.{Every}
use Rattle.circuit_laws.proofs.Alone.{every-append}
use Rattle.fitted_laws.proofs.Steps.{left_empty, right_empty}
use Rattle.fitted_laws.proofs.Once.{false_when}
use Rattle.fitted_laws.proofs.Expressions.{unless_true}
use Rattle.fir_names.proofs.Members.{Contains-none, Contains-one}

pub every_in : (P : TypeLeaf → Type 0) (ls : List TypeLeaf) → Every TypeLeaf P ls → (l : TypeLeaf) → Contains ls l → P l
every_in P [] h l i = absurd (Contains-none i)
every_in P (x ∷ ls) h l i = ⊎_elim (λ a. subst P (sym (Contains-one a)) h.0) (λ b. every_in P ls h.1 l b) (Contains-append_cases (x ∷ []) ls _ i)

-- Equivalent types have their Clocks at the same leaves

abbrev SameClocks : List TypeLeaf → List TypeLeaf → Type 0
SameClocks ls ms = map is_clock ls ≡ map is_clock ms

clocks_under : (path : List PathStep) (flip : Bool) (ls : List TypeLeaf) → map is_clock (map (under path flip) ls) ≡ map is_clock ls
clocks_under path flip [] = refl
clocks_under path flip (l ∷ ls) = ap (λ cs. is_clock l ∷ cs) (clocks_under path flip ls)

clocks_append : (xs bs cs ds : List TypeLeaf) → SameClocks xs bs → SameClocks cs ds → SameClocks (xs ++ cs) (bs ++ ds)
clocks_append xs bs cs ds e f = map-append is_clock xs cs ∙ ap₂ (λ x y. x ++ y) e f ∙ sym (map-append is_clock bs ds)

clocks_elements : (ls ms : List TypeLeaf) (n : ℕ) → SameClocks ls ms → SameClocks (elements ls n) (elements ms n)
clocks_elements ls ms zero e = refl
clocks_elements ls ms (suc n) e =
    clocks_append (elements ls n) (elements ms n) (map (under (step.Element n ∷ []) false) ls) (map (under (step.Element n ∷ []) false) ms)
    (clocks_elements ls ms n e) (clocks_under (step.Element n ∷ []) false ls ∙ e ∙ sym (clocks_under (step.Element n ∷ []) false ms))

unsigned_no : {t : FirType} → IsUnsigned t → map is_clock (leaves t) ≡ false ∷ []
unsigned_no {t} (a_uint w e) = grind (arith, common_steps, the_lemmas)
unsigned_no {t} (a_reset e) = grind (arith, common_steps, the_lemmas)

signed_no : {t : FirType} → IsSigned t → map is_clock (leaves t) ≡ false ∷ []
signed_no {t} (a_sint w e) = grind (arith, common_steps, the_lemmas)

clock_yes : (t : FirType) → t.shape ≡ shape.Clock → map is_clock (leaves t) ≡ true ∷ []
clock_yes t e = grind (arith, common_steps, the_lemmas)

async_no : (t : FirType) → t.shape ≡ shape.AsyncReset → map is_clock (leaves t) ≡ false ∷ []
async_no t e = grind (arith, common_steps, the_lemmas)

clocks_field : (f : Field) → map is_clock (field_leaves f) ≡ map is_clock (leaves f.typ)
clocks_field f = ap (map is_clock) (leaves-field f) ∙ clocks_under (step.Field f.name.id ∷ []) f.flip (leaves f.typ)

mutual
  same_clocks : {l r : FirType} → Equivalent l r → SameClocks (leaves l) (leaves r)
  same_clocks (unsigned u v) = unsigned_no u ∙ sym (unsigned_no v)
  same_clocks (signed u v) = signed_no u ∙ sym (signed_no v)
  same_clocks {l} {r} (clocks u v) = clock_yes l u ∙ sym (clock_yes r v)
  same_clocks {l} {r} (asyncs u v) = async_no l u ∙ sym (async_no r v)
  same_clocks {l} {r} (vectors e o n u v q) =
      ap (map is_clock) (leaves-vector l e n u) ∙ clocks_elements (leaves e) (leaves o) n (same_clocks q) ∙ sym (ap (map is_clock) (leaves-vector r o n v))
  same_clocks {l} {r} (bundles fs gs u v q) = ap (map is_clock) (leaves-bundle l fs u) ∙ same_bundle_clocks q ∙ sym (ap (map is_clock) (leaves-bundle r gs v))

  same_bundle_clocks : {fs gs : List Field} → SameFields fs gs → SameClocks (flat_map field_leaves fs) (flat_map field_leaves gs)
  same_bundle_clocks no_fields = refl
  same_bundle_clocks (same_field {field = f} {other = g} {rest = fs} {others = gs} a b q rest) =
      clocks_append (field_leaves f) (field_leaves g) (flat_map field_leaves fs) (flat_map field_leaves gs) (clocks_field f ∙ same_clocks q ∙ sym (clocks_field g)) (same_bundle_clocks rest)

abbrev NoClock : TypeLeaf → Type 0
NoClock l = is_clock l ≡ false

none_any : (ls : List TypeLeaf) → list_any is_clock ls ≡ false → Every TypeLeaf NoClock ls
none_any [] e = tt
none_any (l ∷ ls) e = let both = or_parts (is_clock l) (list_any is_clock ls) e in (both.0, none_any ls both.1)

no_clocks : (ls ms : List TypeLeaf) → SameClocks ls ms → Every TypeLeaf NoClock ls → Every TypeLeaf NoClock ms
no_clocks [] [] e h = tt
no_clocks [] (m ∷ ms) e h = cc
no_clocks (l ∷ ls) [] e h = cc
no_clocks (l ∷ ls) (m ∷ ms) e h =
    let own : is_clock l ≡ is_clock m = cc in
    let rest : map is_clock ls ≡ map is_clock ms = cc in
    (sym own ∙ h.0, no_clocks ls ms rest h.1)

-- without a signal there is no Clock
no_clock_layer : (x : Shape-F Shape Field FirType) → is_signal_shape x ≡ false → is_clock_shape x ≡ false
no_clock_layer Shape-F.Clock e = cc
no_clock_layer Shape-F.AsyncReset e = refl
no_clock_layer (Shape-F.Unsigned w) e = refl
no_clock_layer (Shape-F.Signed w) e = refl
no_clock_layer Shape-F.Reset e = refl
no_clock_layer (Shape-F.Bundle fields) e = refl
no_clock_layer (Shape-F.Vector element n) e = refl

no_signals : (ls : List TypeLeaf) → list_any is_signal ls ≡ false → list_any is_clock ls ≡ false
no_signals [] e = refl
no_signals (l ∷ ls) e =
    let both = or_parts (is_signal l) (list_any is_signal ls) e in
    ap₂ (λ a b. a || b) (no_clock_layer (out-Shape l.typ.shape) both.0) (no_signals ls both.1)

pub unclocked : {t r : FirType} → Equivalent t r → has_clock t ≡ false → (l : TypeLeaf) → Contains (leaves r) l → is_clock l ≡ false
unclocked {t} {r} q e l i = every_in NoClock (leaves r) (no_clocks (leaves t) (leaves r) (same_clocks q) (none_any (leaves t) e)) l i

-- What a memory shows is no Clock

-- what isn't flipped is no Clock; and what is flipped is none
abbrev Quiet : TypeLeaf → Type 0
Quiet l = l.flip ≡ false → is_clock l ≡ false

abbrev Loud : TypeLeaf → Type 0
Loud l = l.flip ≡ true → is_clock l ≡ false

abbrev Plain : TypeLeaf → Type 0
Plain l = l.flip ≡ false

not_both : (b : Bool) → b ≡ false → b ≢ true
not_both b e f = cc

unflipped : (b : Bool) → not b ≡ false → b ≡ true
unflipped true e = refl
unflipped false e = cc

plain_loud : (path : List PathStep) (ls : List TypeLeaf) → Every TypeLeaf Plain ls → Every TypeLeaf Loud (map (under path false) ls)
plain_loud path [] h = tt
plain_loud path (l ∷ ls) h = (λ f. absurd (not_both l.flip h.0 f), plain_loud path ls h.1)

silent_loud : (path : List PathStep) (flip : Bool) (ls : List TypeLeaf) → Every TypeLeaf NoClock ls → Every TypeLeaf Loud (map (under path flip) ls)
silent_loud path flip [] h = tt
silent_loud path flip (l ∷ ls) h = (λ f. h.0, silent_loud path flip ls h.1)

loud_quiet : (path : List PathStep) (ls : List TypeLeaf) → Every TypeLeaf Loud ls → Every TypeLeaf Quiet (map (under path true) ls)
loud_quiet path [] h = tt
loud_quiet path (l ∷ ls) h = (λ f. h.0 (unflipped l.flip f), loud_quiet path ls h.1)

one_plain : (t : FirType) → leaves t ≡ record { path = []; flip = false; typ = t } ∷ [] → Every TypeLeaf Plain (leaves t)
one_plain t e = subst (Every TypeLeaf Plain) (sym e) (refl, tt)

uint_plain : (place : Place) (n : ℕ) → Every TypeLeaf Plain (leaves (uint_at place n))
uint_plain place n = one_plain (uint_at place n) (grind (arith, common_steps, the_lemmas))

clock_plain : (place : Place) → Every TypeLeaf Plain (leaves (clock_at place))
clock_plain place = one_plain (clock_at place) (grind (arith, common_steps, the_lemmas))

plain_field_loud : (f : Field) → f.flip ≡ false → Every TypeLeaf Plain (leaves f.typ) → Every TypeLeaf Loud (field_leaves f)
plain_field_loud f e h =
    subst (Every TypeLeaf Loud) (sym (leaves-field f)) (subst (λ b. Every TypeLeaf Loud (map (under (step.Field f.name.id ∷ []) b) (leaves f.typ))) (sym e) (plain_loud (step.Field f.name.id ∷ []) (leaves f.typ) h))

silent_field_loud : (f : Field) → Every TypeLeaf NoClock (leaves f.typ) → Every TypeLeaf Loud (field_leaves f)
silent_field_loud f h = subst (Every TypeLeaf Loud) (sym (leaves-field f)) (silent_loud (step.Field f.name.id ∷ []) f.flip (leaves f.typ) h)

bit_silent : (l : TypeLeaf) → l.typ.shape ≡ shape.Unsigned (Some 1) → is_clock l ≡ false
bit_silent l e = grind (arith, common_steps, the_lemmas)

bits_silent : (ls : List TypeLeaf) → AllByRecursion (λ (l : TypeLeaf). l.typ.shape ≡ shape.Unsigned (Some 1)) ls → Every TypeLeaf NoClock ls
bits_silent [] h = tt
bits_silent (l ∷ ls) h = (bit_silent l h.0, bits_silent ls h.1)

mask_silent : (t : FirType) → Every TypeLeaf NoClock (leaves (mask_of t))
mask_silent t = bits_silent (leaves (mask_of t)) (masked t).bits

fields_loud : (f : Field) (fs : List Field) → Every TypeLeaf Loud (field_leaves f) → Every TypeLeaf Loud (flat_map field_leaves fs) → Every TypeLeaf Loud (flat_map field_leaves (f ∷ fs))
fields_loud f fs h k = every-append TypeLeaf Loud (field_leaves f) (flat_map field_leaves fs) h k

mode_loud : (place : Place) (element : FirType) (m : PortMode) → Every TypeLeaf NoClock (leaves element) → Every TypeLeaf Loud (flat_map field_leaves (fields_of_mode place element m))
mode_loud place element mode.Reader h = fields_loud (flipped_field place data_name element) [] (silent_field_loud (flipped_field place data_name element) h) tt
mode_loud place element mode.Writer h =
    fields_loud (plain_field place data_name element) (plain_field place mask_name (mask_of element) ∷ []) (silent_field_loud (plain_field place data_name element) h)
    (fields_loud (plain_field place mask_name (mask_of element)) [] (silent_field_loud (plain_field place mask_name (mask_of element)) (mask_silent element)) tt)
mode_loud place element mode.ReadWriter h =
    fields_loud (flipped_field place rdata_name element) (plain_field place wmode_name (uint_at place 1) ∷ plain_field place wdata_name element ∷ plain_field place wmask_name (mask_of element) ∷ [])
    (silent_field_loud (flipped_field place rdata_name element) h)
    (fields_loud (plain_field place wmode_name (uint_at place 1)) (plain_field place wdata_name element ∷ plain_field place wmask_name (mask_of element) ∷ [])
    (plain_field_loud (plain_field place wmode_name (uint_at place 1)) refl (uint_plain place 1))
    (fields_loud (plain_field place wdata_name element) (plain_field place wmask_name (mask_of element) ∷ []) (silent_field_loud (plain_field place wdata_name element) h)
    (fields_loud (plain_field place wmask_name (mask_of element)) [] (silent_field_loud (plain_field place wmask_name (mask_of element)) (mask_silent element)) tt)))

port_loud : (element : FirType) (depth : ℕ) (m : PortMode) (place : Place) → Every TypeLeaf NoClock (leaves element) → Every TypeLeaf Loud (leaves (port_type element depth m place))
port_loud element depth m place h =
    let a : Field = plain_field place addr_name (uint_at place (address_bits depth)) in
    let b : Field = plain_field place en_name (uint_at place 1) in
    let c : Field = plain_field place clk_name (clock_at place) in
    let fs : List Field = fields_of_mode place element m in
    subst (Every TypeLeaf Loud) (sym (leaves-bundle (port_type element depth m place) (a ∷ b ∷ c ∷ fs) refl))
    (fields_loud a (b ∷ c ∷ fs) (plain_field_loud a refl (uint_plain place (address_bits depth)))
    (fields_loud b (c ∷ fs) (plain_field_loud b refl (uint_plain place 1))
    (fields_loud c fs (plain_field_loud c refl (clock_plain place)) (mode_loud place element m h))))

ports_quiet : (element : FirType) (depth : ℕ) (lines : List MemLine) → Every TypeLeaf NoClock (leaves element) → Every TypeLeaf Quiet (flat_map field_leaves (filter_map (port_field element depth) lines))
ports_quiet element depth [] h = tt
ports_quiet element depth (line.MemPort at m name ∷ lines) h =
    let f : Field = record { flip = true; name = name; typ = port_type element depth m name.place } in
    every-append TypeLeaf Quiet (field_leaves f) (flat_map field_leaves (filter_map (port_field element depth) lines))
    (subst (Every TypeLeaf Quiet) (sym (leaves-field f)) (loud_quiet (step.Field name.id ∷ []) (leaves (port_type element depth m name.place)) (port_loud element depth m name.place h)))
    (ports_quiet element depth lines h)
ports_quiet element depth (line.Element at typ ∷ lines) h = ports_quiet element depth lines h
ports_quiet element depth (line.Depth at n ∷ lines) h = ports_quiet element depth lines h
ports_quiet element depth (line.ReadLatency at n ∷ lines) h = ports_quiet element depth lines h
ports_quiet element depth (line.WriteLatency at n ∷ lines) h = ports_quiet element depth lines h
ports_quiet element depth (line.ReadUnder at u ∷ lines) h = ports_quiet element depth lines h

empty_silent : has_clock (record { place = record { line = 1; column = 1 }; shape = shape.Bundle [] }) ≡ false
empty_silent = grind (arith, common_steps, the_lemmas)

pub stored_silent : (typ : FirType) → stored_faults typ ≡ [] → has_clock typ ≡ false
stored_silent typ e =
    no_signals (leaves typ) (false_when (has_signal typ) (OperandKind typ.place) (left_empty (when (has_signal typ) (OperandKind typ.place)) _ (right_empty (twice_in typ) _ e)))

negated : (b : Bool) → not b ≡ true → b ≡ false
negated true e = cc
negated false e = refl

pub stored_holds : (typ : FirType) → stored_faults typ ≡ [] → (has_clock typ ≡ false) × (has_flip typ ≡ false)
stored_holds typ e = (
  stored_silent typ e,
  negated (has_flip typ) (unless_true (is_passive typ) (NotPassive typ.place) (right_empty (when (has_signal typ) (OperandKind typ.place)) _ (right_empty (twice_in typ) _ e))),
)

element_silent : (other : FirType) (lines : List MemLine) → has_clock other ≡ false → flat_map line_faults lines ≡ [] → has_clock (first_or other (filter_map element_in lines)) ≡ false
element_silent other [] o e = o
element_silent other (line.Element at typ ∷ lines) o e = stored_silent typ (left_empty (stored_faults typ) _ e)
element_silent other (line.MemPort at m name ∷ lines) o e = element_silent other lines o e
element_silent other (line.Depth at n ∷ lines) o e = element_silent other lines o (right_empty (line_faults (line.Depth at n)) _ e)
element_silent other (line.ReadLatency at n ∷ lines) o e = element_silent other lines o (right_empty (line_faults (line.ReadLatency at n)) _ e)
element_silent other (line.WriteLatency at n ∷ lines) o e = element_silent other lines o (right_empty (line_faults (line.WriteLatency at n)) _ e)
element_silent other (line.ReadUnder at u ∷ lines) o e = element_silent other lines o e

empty_passive : has_flip (record { place = record { line = 1; column = 1 }; shape = shape.Bundle [] }) ≡ false
empty_passive = flip-bundle (record { place = record { line = 1; column = 1 }; shape = shape.Bundle [] }) [] refl

first_passive : (other : FirType) (lines : List MemLine) → has_flip other ≡ false → flat_map line_faults lines ≡ [] → has_flip (first_or other (filter_map element_in lines)) ≡ false
first_passive other [] o e = o
first_passive other (line.Element at typ ∷ lines) o e = (stored_holds typ (left_empty (stored_faults typ) _ e)).1
first_passive other (line.MemPort at m name ∷ lines) o e = first_passive other lines o e
first_passive other (line.Depth at n ∷ lines) o e = first_passive other lines o (right_empty (line_faults (line.Depth at n)) _ e)
first_passive other (line.ReadLatency at n ∷ lines) o e = first_passive other lines o (right_empty (line_faults (line.ReadLatency at n)) _ e)
first_passive other (line.WriteLatency at n ∷ lines) o e = first_passive other lines o (right_empty (line_faults (line.WriteLatency at n)) _ e)
first_passive other (line.ReadUnder at u ∷ lines) o e = first_passive other lines o e

pub element_passive : (memory : Memory) → memory_faults memory ≡ [] → has_flip (element_of memory) ≡ false
element_passive memory e = first_passive _ memory.lines empty_passive (left_empty (flat_map line_faults memory.lines) _ e)

quiet_ways : (ls ms : List TypeLeaf) → map way_of ls ≡ map way_of ms → SameClocks ls ms → Every TypeLeaf Quiet ls → Every TypeLeaf Quiet ms
quiet_ways [] [] e c h = tt
quiet_ways [] (m ∷ ms) e c h = cc
quiet_ways (l ∷ ls) [] e c h = cc
quiet_ways (l ∷ ls) (m ∷ ms) e c h =
    let way : way_of l ≡ way_of m = cc in
    let flips : l.flip ≡ m.flip = ap (λ (w : List PathStep × Bool). w.1) way in
    let own : is_clock l ≡ is_clock m = cc in
    let ways : map way_of ls ≡ map way_of ms = cc in
    let rest : map is_clock ls ≡ map is_clock ms = cc in
    (λ f. sym own ∙ h.0 (flips ∙ f), quiet_ways ls ms ways rest h.1)

pub read_silent : (memory : Memory) (typ : FirType) → memory_faults memory ≡ [] → Equivalent (memory_of memory) typ → map way_of (leaves (memory_of memory)) ≡ map way_of (leaves typ)
    → (l : TypeLeaf) → Contains (leaves typ) l → l.flip ≡ false → is_clock l ≡ false
read_silent memory typ e q ways l i f =
    let silent : has_clock (element_of memory) ≡ false = element_silent _ memory.lines empty_silent (left_empty (flat_map line_faults memory.lines) _ e) in
    let fields : List Field = filter_map (port_field (element_of memory) (depth_of memory)) memory.lines in
    let quiet : Every TypeLeaf Quiet (leaves (memory_of memory)) = subst (Every TypeLeaf Quiet) (sym (leaves-bundle (memory_of memory) fields refl))
    (ports_quiet (element_of memory) (depth_of memory) memory.lines (none_any (leaves (element_of memory)) silent)) in
    every_in Quiet (leaves typ) (quiet_ways (leaves (memory_of memory)) (leaves typ) ways (same_clocks q) quiet) l i f

-- The names of a memory's ports

abbrev Unsaid : List MemLine → List MemLine → Type 0
Unsaid before lines = (p : MemoryPort) → Contains (filter_map port_in lines) p → list_any (is_port p.name) before ≡ false

earlier : (before : List MemLine) (l : MemLine) (lines : List MemLine) → Unsaid (before ++ l ∷ []) lines → Unsaid before lines
earlier before l lines h p i = (or_parts _ _ (sym (list_any-append (is_port p.name) before (l ∷ [])) ∙ h p i)).0

unsaid : (before lines : List MemLine) → again_behind before lines ≡ [] → Unsaid before lines
unsaid before [] e p i = absurd (Contains-none i)
unsaid before (line.MemPort at m name ∷ lines) e p i = ⊎_elim
    (λ a. ap (λ (q : MemoryPort). list_any (is_port q.name) before) (Contains-one a) ∙ false_when _ (MemoryField name.place) (left_empty _ _ e))
    (λ b. earlier before (line.MemPort at m name) lines (unsaid (before ++ line.MemPort at m name ∷ []) lines (right_empty (when (is_said before (line.MemPort at m name)) (MemoryField name.place)) _ e)) p b)
    (Contains-append_cases (record { name = name.id; place = name.place; mode = m } ∷ []) (filter_map port_in lines) _ i)
unsaid before (line.Element at typ ∷ lines) e p i = earlier before _ lines (unsaid (before ++ line.Element at typ ∷ []) lines (right_empty (when (is_said before (line.Element at typ)) (MemoryField at)) _ e)) p i
unsaid before (line.Depth at n ∷ lines) e p i = earlier before _ lines (unsaid (before ++ line.Depth at n ∷ []) lines (right_empty (when (is_said before (line.Depth at n)) (MemoryField at)) _ e)) p i
unsaid before (line.ReadLatency at n ∷ lines) e p i = earlier before _ lines (unsaid (before ++ line.ReadLatency at n ∷ []) lines (right_empty (when (is_said before (line.ReadLatency at n)) (MemoryField at)) _ e)) p i
unsaid before (line.WriteLatency at n ∷ lines) e p i = earlier before _ lines (unsaid (before ++ line.WriteLatency at n ∷ []) lines (right_empty (when (is_said before (line.WriteLatency at n)) (MemoryField at)) _ e)) p i
unsaid before (line.ReadUnder at u ∷ lines) e p i = earlier before _ lines (unsaid (before ++ line.ReadUnder at u ∷ []) lines (right_empty (when (is_said before (line.ReadUnder at u)) (MemoryField at)) _ e)) p i

abbrev finds : List MemoryPort → MemoryPort → Type 0
finds ps p = find (λ (q : MemoryPort). q.name == p.name) ps ≡ Some p

finds_first : (q : MemoryPort) (ps : List MemoryPort) → finds (q ∷ ps) q
finds_first q ps = ap (λ b. cond b (Some q) (find (λ (x : MemoryPort). x.name == q.name) ps)) (eq-eqb q.name q.name refl)

finds_later : (q p : MemoryPort) (ps : List MemoryPort) → q.name ≢ p.name → finds ps p → finds (q ∷ ps) p
finds_later q p ps n h = ap (λ b. cond b (Some q) (find (λ (x : MemoryPort). x.name == p.name) ps)) (ne_eqb q.name p.name n) ∙ h

ports_found : (before lines : List MemLine) → again_behind before lines ≡ [] → (p : MemoryPort) → Contains (filter_map port_in lines) p → finds (filter_map port_in lines) p
ports_found before [] e p i = absurd (Contains-none i)
ports_found before (line.MemPort at m name ∷ lines) e p i =
    let own : MemoryPort = record { name = name.id; place = name.place; mode = m } in
    let rest : again_behind (before ++ line.MemPort at m name ∷ []) lines ≡ [] = right_empty (when (is_said before (line.MemPort at m name)) (MemoryField name.place)) _ e in
    ⊎_elim (λ a. subst (finds (own ∷ filter_map port_in lines)) (sym (Contains-one a)) (finds_first own (filter_map port_in lines)))
    (λ b.
    let not_said : list_any (is_port p.name) (line.MemPort at m name ∷ []) ≡ false =
    (or_parts (list_any (is_port p.name) before) _ (sym (list_any-append (is_port p.name) before (line.MemPort at m name ∷ [])) ∙ unsaid (before ++ line.MemPort at m name ∷ []) lines rest p b)).1 in
    let differs : nat_eq p.name name.id ≡ false = (or_parts (nat_eq p.name name.id) false not_said).0 in
    finds_later own p (filter_map port_in lines) (λ same. eqb-false p.name name.id differs (sym same)) (ports_found (before ++ line.MemPort at m name ∷ []) lines rest p b))
    (Contains-append_cases (own ∷ []) (filter_map port_in lines) _ i)
ports_found before (line.Element at typ ∷ lines) e p i = ports_found (before ++ line.Element at typ ∷ []) lines (right_empty (when (is_said before (line.Element at typ)) (MemoryField at)) _ e) p i
ports_found before (line.Depth at n ∷ lines) e p i = ports_found (before ++ line.Depth at n ∷ []) lines (right_empty (when (is_said before (line.Depth at n)) (MemoryField at)) _ e) p i
ports_found before (line.ReadLatency at n ∷ lines) e p i = ports_found (before ++ line.ReadLatency at n ∷ []) lines (right_empty (when (is_said before (line.ReadLatency at n)) (MemoryField at)) _ e) p i
ports_found before (line.WriteLatency at n ∷ lines) e p i = ports_found (before ++ line.WriteLatency at n ∷ []) lines (right_empty (when (is_said before (line.WriteLatency at n)) (MemoryField at)) _ e) p i
ports_found before (line.ReadUnder at u ∷ lines) e p i = ports_found (before ++ line.ReadUnder at u ∷ []) lines (right_empty (when (is_said before (line.ReadUnder at u)) (MemoryField at)) _ e) p i

pub port_itself : (memory : Memory) → memory_faults memory ≡ [] → (p : MemoryPort) → Contains (memory_ports memory) p → port_named memory p.name ≡ Some p
port_itself memory e = ports_found [] memory.lines (left_empty (again_behind [] memory.lines) _ (right_empty (flat_map line_faults memory.lines) _ e))
