-- The numbers of the ports of a memory, and of the memory.
use Rattle.std.proofs.Common.{◌≡◌, ℕ, ◌+◌, ◌<◌, true, List, [], ◌∷◌, ◌++◌, length, take, get_or, filter_map, option_to_list, refl, sym, subst}
use Rattle.std.specs.Prelude.{Option, Some, None, IfSome}
use Rattle.std.proofs.lemmas.List.{append-nil}
use Rattle.place_text.specs.declared.place.Place.{Place}
use Rattle.fir_types.specs.declared.fir_type.FirType.{FirType}
use Rattle.fir_types.specs.declared.fir_type.Field.{Field}
use Rattle.fir_types.specs.declared.name.Name.{Name}
use Rattle.fir_types.specs.declared.memory.Memory.{Memory}
use Rattle.fir_types.specs.declared.memory.MemLine.{MemLine}
use Rattle.fir_types.specs.declared.memory.MemLine.TheVariants as line
use Rattle.fir_types.specs.declared.memory.PortMode.{PortMode}
use Rattle.fir_types.specs.declared.memory.PortMode.TheVariants as mode
use Rattle.fir_types.specs.Bundles.{mask_of, memory_of, port_type, port_field, fields_of_mode}
use Rattle.fir_types.specs.Equivalence.{a_uint}
use Rattle.fir_types.specs.Memories.{element_of, depth_of}
use Rattle.fir_types.proofs.Lines.{lines_more}
use Rattle.type_index.specs.declared.keys.FieldPart.{FieldPart}
use Rattle.type_index.specs.declared.memory_classes.Elements.{Elements}
use Rattle.type_index.specs.Memories.{AreElements, port_fields, part_of, data_parts}
use Rattle.type_index.specs.Numbers.{Table, HasNumber, HaveNumber, as_unsigned, as_clock, as_bundle}
use Rattle.type_index.specs.Parts.{AreParts, no_parts, one_part}

data_have : (table : Table) (element : FirType) (m : PortMode) (place : Place) (elements : Elements) → AreElements table element elements
    → AreParts table (fields_of_mode place element m) (data_parts m elements)
data_have table element mode.Reader place elements a = one_part refl refl a.element' no_parts
data_have table element mode.Writer place elements a = one_part refl refl a.element' (one_part refl refl a.mask' no_parts)
data_have table element mode.ReadWriter place elements a =
    one_part refl refl a.element' (one_part refl refl (as_unsigned (a_uint (Some 1) refl)) (one_part refl refl a.element' (one_part refl refl a.mask' no_parts)))

pub port_has : (table : Table) (element : FirType) (depth : ℕ) (m : PortMode) (place : Place) (elements : Elements) (parts : List FieldPart)
    → parts ≡ part_of 0 0 ∷ part_of 1 0 ∷ part_of 2 2 ∷ data_parts m elements → AreElements table element elements → AreParts table (port_fields element depth m place) parts
port_has table element depth m place elements parts is a =
    subst (AreParts table (port_fields element depth m place)) (sym is)
    (one_part refl refl (as_unsigned (a_uint _ refl)) (one_part refl refl (as_unsigned (a_uint _ refl)) (one_part refl refl (as_clock refl)
    (data_have table element m place elements a))))

parts_push : {table : Table} {fs : List Field} {ps : List FieldPart} (f : Field) (p : FieldPart) → AreParts table fs ps → f.name.id ≡ p.name → f.flip ≡ p.flip
    → HasNumber table f.typ p.class → AreParts table (fs ++ f ∷ []) (ps ++ p ∷ [])
parts_push f p no_parts a b h = one_part a b h no_parts
parts_push f p (one_part x y k rest) a b h = one_part x y k (parts_push f p rest a b h)

-- one more line

pub port_added : (table : Table) (element : FirType) (depth : ℕ) (l : MemLine) (at : Place) (m : PortMode) (name : Name) (fields : List Field) (ports after parts : List FieldPart)
    (class : ℕ) → l ≡ line.MemPort at m name → AreParts table (port_fields element depth m name.place) parts
    → ((fields : List Field) → AreParts table fields parts → HaveNumber table fields class)
    → after ≡ ports ++ record { name = name.id; flip = true; class = class } ∷ [] → AreParts table fields ports
    → AreParts table (fields ++ option_to_list (port_field element depth l)) after
port_added table element depth l at m name fields ports after parts class is own have e all =
    subst (λ x. AreParts table (fields ++ option_to_list (port_field element depth x)) after) (sym is)
    (subst (AreParts table (fields ++ record { flip = true; name = name; typ = port_type element depth m name.place } ∷ [])) (sym e)
    (parts_push (record { flip = true; name = name; typ = port_type element depth m name.place }) (record { name = name.id; flip = true; class = class }) all refl refl
    (as_bundle (port_fields element depth m name.place) class refl (have (port_fields element depth m name.place) own))))

pub no_port : (table : Table) (element : FirType) (depth : ℕ) (l : MemLine) (fields : List Field) (ports : List FieldPart)
    → ((at : Place) (m : PortMode) (name : Name) → l ≡ line.MemPort at m name → ⊥) → AreParts table fields ports
    → AreParts table (fields ++ option_to_list (port_field element depth l)) ports
no_port table element depth (line.MemPort at m name) fields ports none all = absurd (none at m name refl)
no_port table element depth (line.Element at typ) fields ports none all = subst (λ l. AreParts table l ports) (sym (append-nil fields)) all
no_port table element depth (line.Depth at n) fields ports none all = subst (λ l. AreParts table l ports) (sym (append-nil fields)) all
no_port table element depth (line.ReadLatency at n) fields ports none all = subst (λ l. AreParts table l ports) (sym (append-nil fields)) all
no_port table element depth (line.WriteLatency at n) fields ports none all = subst (λ l. AreParts table l ports) (sym (append-nil fields)) all
no_port table element depth (line.ReadUnder at u) fields ports none all = subst (λ l. AreParts table l ports) (sym (append-nil fields)) all

pub ports_more : (table : Table) (element : FirType) (depth : ℕ) (lines : List MemLine) (i : ℕ) (l : MemLine) (after : List FieldPart) → i < length lines → l ≡ get_or lines i l
    → AreParts table (filter_map (port_field element depth) (take i lines) ++ option_to_list (port_field element depth l)) after
    → AreParts table (filter_map (port_field element depth) (take (i + 1) lines)) after
ports_more table element depth lines i l after lt is h =
    subst (λ fields. AreParts table fields after) (sym (lines_more (port_field element depth) lines i l lt is)) h

-- the memory
pub memory_has : (table : Table) (memory : Memory) (lines : List MemLine) (element : FirType) (elements : Elements) (ports : List FieldPart) (number : Option ℕ)
    → lines ≡ memory.lines → element ≡ element_of memory → HasNumber table element elements.element → HasNumber table (mask_of element) elements.mask
    → ((element : FirType) (depth : ℕ) → AreElements table element elements → AreParts table (filter_map (port_field element depth) lines) ports)
    → IfSome number (λ n. (fields : List Field) → AreParts table fields ports → HaveNumber table fields n) → IfSome number (HasNumber table (memory_of memory))
memory_has table memory lines element elements ports (Some n) at is a b own have =
    let fields = filter_map (port_field (element_of memory) (depth_of memory)) memory.lines in
    as_bundle fields n refl (have fields
    (subst (λ e. AreParts table (filter_map (port_field e (depth_of memory)) memory.lines) ports) is
    (subst (λ l. AreParts table (filter_map (port_field element (depth_of memory)) l) ports) at (own element (depth_of memory) (record { element' = a; mask' = b })))))
memory_has table memory lines element elements ports None at is a b own have = tt
