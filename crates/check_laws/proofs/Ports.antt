-- The leaves of instances and memories have different paths.
use Rattle.std.proofs.Common.{◌≡◌, ◌≢◌, ℕ, Bool, false, ◌||◌, List, [], ◌∷◌, map, refl, sym, ap, ap₂, ◌∙◌, arith}
use Rattle.std.specs.Prelude.{nat_eq}
use Rattle.std.specs.List.{filter_map, list_any, AllByRecursion}
use Rattle.std.proofs.lemmas.Grind.{common_steps}
use Rattle.std.proofs.lemmas.Bool.{ne_eqb}
use Rattle.std.proofs.lemmas.List.Elements.{recursion_from_All}
use Rattle.place_text.specs.declared.place.Place.{Place}
use Rattle.fir_types.specs.declared.fir_type.FirType.{FirType, the_lemmas}
use Rattle.fir_types.specs.declared.fir_type.Field.{Field}
use Rattle.fir_types.specs.declared.leaf.TypeLeaf.{TypeLeaf}
use Rattle.fir_types.specs.declared.leaf.PathStep.{PathStep}
use Rattle.fir_types.specs.declared.port.Port.{Port}
use Rattle.fir_types.specs.declared.memory.Memory.{Memory}
use Rattle.fir_types.specs.declared.memory.MemLine.{MemLine}
use Rattle.fir_types.specs.declared.memory.MemLine.TheVariants as line
use Rattle.fir_types.specs.declared.memory.PortMode.{PortMode}
use Rattle.fir_types.specs.declared.memory.PortMode.TheVariants as mode
use Rattle.fir_types.specs.Leaves.{leaves, way_of}
use Rattle.fir_types.specs.Memories.{AreDifferent, element_of, depth_of, port_name_in}
use Rattle.fir_types.specs.Bundles.{instance_of, instance_field, memory_of, port_field, port_type, mask_of, uint_at, clock_at}
use Rattle.fir_types.proofs.Masks.{masked}
use Rattle.check_laws.specs.DoubledFields.{is_doubled, HasNoDoubledField}
use Rattle.check_laws.proofs.Apart.{Apart, ids, apart_leaves, apart_bundle}

-- names that differ

none_is : (n : ℕ) (ns : List ℕ) → AllByRecursion (λ m. m ≢ n) ns → list_any (nat_eq n) ns ≡ false
none_is n [] h = refl
none_is n (m ∷ ns) h = ap₂ (λ x y. x || y) (ne_eqb n m (λ e. h.0 (sym e))) (none_is n ns h.1)

not_doubled : (ns : List ℕ) → AreDifferent ns → is_doubled ns ≡ false
not_doubled [] d = refl
not_doubled (n ∷ ns) d = ap₂ (λ x y. x || y) (none_is n ns (recursion_from_All (λ m. m ≢ n) ns d.0)) (not_doubled ns d.1)

-- instances

instance_ids : (ports : List Port) → ids (map instance_field ports) ≡ map (λ (p : Port). p.name.id) ports
instance_ids [] = refl
instance_ids (p ∷ ps) = ap (λ ns. p.name.id ∷ ns) (instance_ids ps)

instance_types : (ports : List Port) → AllByRecursion (λ (p : Port). HasNoDoubledField p.typ) ports → AllByRecursion (λ (f : Field). Apart (leaves f.typ)) (map instance_field ports)
instance_types [] h = tt
instance_types (p ∷ ps) h = (apart_leaves p.typ h.0, instance_types ps h.1)

pub apart_instances : (ports : List Port) → AreDifferent (map (λ (p : Port). p.name.id) ports) → AllByRecursion (λ (p : Port). HasNoDoubledField p.typ) ports → Apart (leaves (instance_of ports))
apart_instances ports d h =
    apart_bundle (instance_of ports) (map instance_field ports) refl (ap is_doubled (instance_ids ports) ∙ not_doubled (map (λ (p : Port). p.name.id) ports) d) (instance_types ports h)

-- masks, whose leaves have the paths of the data's

abbrev Way : Type 0
Way = List PathStep × Bool

behind : (w v : Way) (ws vs : List Way) → w ∷ ws ≡ v ∷ vs → (w ≡ v) × (ws ≡ vs)
behind w v ws vs e = (cc, cc)

apart_alike : (l m : TypeLeaf) (ls ms : List TypeLeaf) → m.path ≡ l.path → map way_of ms ≡ map way_of ls → AllByRecursion (λ x. l.path ≢ x.path) ls → AllByRecursion (λ x. m.path ≢ x.path) ms
apart_alike l m [] [] p e h = tt
apart_alike l m [] (y ∷ ms) p e h = cc
apart_alike l m (x ∷ ls) [] p e h = tt
apart_alike l m (x ∷ ls) (y ∷ ms) p e h =
    let b = behind (way_of y) (way_of x) (map way_of ms) (map way_of ls) e in
    (λ same. h.0 (sym p ∙ same ∙ ap (λ (w : Way). w.0) b.0), apart_alike l m ls ms p b.1 h.1)

apart_as : (ls ms : List TypeLeaf) → map way_of ms ≡ map way_of ls → Apart ls → Apart ms
apart_as [] [] e h = tt
apart_as [] (y ∷ ms) e h = cc
apart_as (x ∷ ls) [] e h = tt
apart_as (x ∷ ls) (y ∷ ms) e h =
    let b = behind (way_of y) (way_of x) (map way_of ms) (map way_of ls) e in
    (apart_alike x y ls ms (ap (λ (w : Way). w.0) b.0) b.1 h.0, apart_as ls ms b.1 h.1)

apart_masks : (t : FirType) → Apart (leaves t) → Apart (leaves (mask_of t))
apart_masks t h = apart_as (leaves t) (leaves (mask_of t)) (masked t).same h

-- memories

apart_uints : (place : Place) (n : ℕ) → Apart (leaves (uint_at place n))
apart_uints place n = apart_leaves (uint_at place n) (grind (arith, common_steps, the_lemmas))

apart_clocks : (place : Place) → Apart (leaves (clock_at place))
apart_clocks place = apart_leaves (clock_at place) (grind (arith, common_steps, the_lemmas))

apart_port : (place : Place) (element : FirType) (depth : ℕ) (m : PortMode) → Apart (leaves element) → Apart (leaves (port_type element depth m place))
apart_port place element depth mode.Reader h =
    apart_bundle (port_type element depth mode.Reader place) _ refl refl (apart_uints place _, (apart_uints place 1, (apart_clocks place, (h, tt))))
apart_port place element depth mode.Writer h =
    apart_bundle (port_type element depth mode.Writer place) _ refl refl (apart_uints place _, (apart_uints place 1, (apart_clocks place, (h, (apart_masks element h, tt)))))
apart_port place element depth mode.ReadWriter h =
    apart_bundle (port_type element depth mode.ReadWriter place) _ refl refl
    (apart_uints place _, (apart_uints place 1, (apart_clocks place, (h, (apart_uints place 1, (h, (apart_masks element h, tt)))))))

abbrev port_fields : FirType → ℕ → List MemLine → List Field
port_fields element depth lines = filter_map (port_field element depth) lines

port_ids : (element : FirType) (depth : ℕ) (lines : List MemLine) → ids (port_fields element depth lines) ≡ filter_map port_name_in lines
port_ids element depth [] = refl
port_ids element depth (line.MemPort at m name ∷ lines) = ap (λ ns. name.id ∷ ns) (port_ids element depth lines)
port_ids element depth (line.Element at typ ∷ lines) = port_ids element depth lines
port_ids element depth (line.Depth at n ∷ lines) = port_ids element depth lines
port_ids element depth (line.ReadLatency at n ∷ lines) = port_ids element depth lines
port_ids element depth (line.WriteLatency at n ∷ lines) = port_ids element depth lines
port_ids element depth (line.ReadUnder at u ∷ lines) = port_ids element depth lines

port_types : (element : FirType) (depth : ℕ) (lines : List MemLine) → Apart (leaves element) → AllByRecursion (λ (f : Field). Apart (leaves f.typ)) (port_fields element depth lines)
port_types element depth [] h = tt
port_types element depth (line.MemPort at m name ∷ lines) h = (apart_port name.place element depth m h, port_types element depth lines h)
port_types element depth (line.Element at typ ∷ lines) h = port_types element depth lines h
port_types element depth (line.Depth at n ∷ lines) h = port_types element depth lines h
port_types element depth (line.ReadLatency at n ∷ lines) h = port_types element depth lines h
port_types element depth (line.WriteLatency at n ∷ lines) h = port_types element depth lines h
port_types element depth (line.ReadUnder at u ∷ lines) h = port_types element depth lines h

pub apart_memories : (memory : Memory) → AreDifferent (filter_map port_name_in memory.lines) → HasNoDoubledField (element_of memory) → Apart (leaves (memory_of memory))
apart_memories memory d h =
    let element : FirType = element_of memory in
    let depth : ℕ = depth_of memory in
    apart_bundle (memory_of memory) (port_fields element depth memory.lines) refl
    (ap is_doubled (port_ids element depth memory.lines) ∙ not_doubled (filter_map port_name_in memory.lines) d)
    (port_types element depth memory.lines (apart_leaves element h))
