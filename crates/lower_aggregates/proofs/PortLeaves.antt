-- Where the leaves of a memory's ports stand.
use Rattle.std.proofs.Common.{◌≡◌, ℕ, Bool, true, List, [], ◌∷◌, ◌++◌, map, filter_map, refl, sym, ap, ap₂, ◌∙◌, arith, append-nil}
use Rattle.std.specs.List.{flat_map}
use Rattle.std.proofs.lemmas.Grind.{common_steps}
use Rattle.std.proofs.lemmas.List.{map-append}
use Rattle.std.proofs.lemmas.List.Concat.{flat_map-cons}
use Rattle.place_text.specs.declared.place.Place.{Place}
use Rattle.fir_types.specs.declared.fir_type.FirType.{FirType, the_lemmas}
use Rattle.fir_types.specs.declared.fir_type.Field.{Field}
use Rattle.fir_types.specs.declared.leaf.TypeLeaf.{TypeLeaf}
use Rattle.fir_types.specs.declared.leaf.PathStep.{PathStep}
use Rattle.fir_types.specs.declared.leaf.PathStep.TheVariants as step
use Rattle.fir_types.specs.declared.memory.Memory.{Memory}
use Rattle.fir_types.specs.declared.memory.MemLine.{MemLine}
use Rattle.fir_types.specs.declared.memory.MemLine.TheVariants as line
use Rattle.fir_types.specs.declared.memory.PortMode.{PortMode}
use Rattle.fir_types.specs.declared.memory.PortMode.TheVariants as mode
use Rattle.fir_types.specs.Leaves.{leaves, under, field_leaves, way_of}
use Rattle.fir_types.specs.Memories.{depth_of}
use Rattle.fir_types.specs.Bundles.{address_bits, addr_name, en_name, clk_name, data_name, mask_name, rdata_name, wmode_name, wdata_name, wmask_name, plain_field, flipped_field, uint_at, clock_at, mask_of, fields_of_mode, port_type, port_field}
use Rattle.fir_types.proofs.Layers.{leaves-bundle, leaves-field}
use Rattle.fir_types.proofs.Masks.{masked}
use Rattle.fir_meaning.specs.Components.{ports_bundle}
use Rattle.fir_meaning.specs.MemoryPorts.{MemoryPort, port_in, memory_ports}

-- the ways of leaves
abbrev pub ways : List TypeLeaf → List (List PathStep)
ways ls = map (λ l. l.path) ls

abbrev pub behind : PathStep → List (List PathStep) → List (List PathStep)
behind s ws = map (λ w. s ∷ w) ws

-- The ways of a port's fields, in order, where an element has these.
abbrev pub mode_ways : List (List PathStep) → PortMode → List (List PathStep)
mode_ways e mode.Reader = behind (step.Field data_name) e
mode_ways e mode.Writer = behind (step.Field data_name) e ++ behind (step.Field mask_name) e
mode_ways e mode.ReadWriter = behind (step.Field rdata_name) e ++ ((step.Field wmode_name ∷ []) ∷ (behind (step.Field wdata_name) e ++ behind (step.Field wmask_name) e))

abbrev pub port_ways : List (List PathStep) → PortMode → List (List PathStep)
port_ways e m = (step.Field addr_name ∷ []) ∷ (step.Field en_name ∷ []) ∷ (step.Field clk_name ∷ []) ∷ mode_ways e m

abbrev pub all_ways : List (List PathStep) → List MemoryPort → List (List PathStep)
all_ways e [] = []
all_ways e (port ∷ ports) = behind (step.Field port.name) (port_ways e port.mode) ++ all_ways e ports

ways-append : (xs ys : List TypeLeaf) → ways (xs ++ ys) ≡ ways xs ++ ways ys
ways-append xs ys = map-append (λ (l : TypeLeaf). l.path) xs ys

ways_under : (s : PathStep) (flip : Bool) (ls : List TypeLeaf) → ways (map (under (s ∷ []) flip) ls) ≡ behind s (ways ls)
ways_under s flip [] = refl
ways_under s flip (l ∷ ls) = ap (λ w. (s ∷ l.path) ∷ w) (ways_under s flip ls)

field_ways : (f : Field) → ways (field_leaves f) ≡ behind (step.Field f.name.id) (ways (leaves f.typ))
field_ways f = ap ways (leaves-field f) ∙ ways_under (step.Field f.name.id) f.flip (leaves f.typ)

abbrev fields_ways : List Field → List (List PathStep)
fields_ways fs = flat_map (λ f. behind (step.Field f.name.id) (ways (leaves f.typ))) fs

bundle_ways : (fs : List Field) → ways (flat_map field_leaves fs) ≡ fields_ways fs
bundle_ways [] = refl
bundle_ways (f ∷ fs) =
    ap ways (flat_map-cons field_leaves f fs) ∙ ways-append (field_leaves f) (flat_map field_leaves fs) ∙ ap₂ (λ a b. a ++ b) (field_ways f) (bundle_ways fs)
    ∙ sym (flat_map-cons (λ (g : Field). behind (step.Field g.name.id) (ways (leaves g.typ))) f fs)

uint_ways : (place : Place) (w : ℕ) → ways (leaves (uint_at place w)) ≡ [] ∷ []
uint_ways place w = grind (arith, common_steps, the_lemmas)

clock_ways : (place : Place) → ways (leaves (clock_at place)) ≡ [] ∷ []
clock_ways place = grind (arith, common_steps, the_lemmas)

ways_first : (ls : List TypeLeaf) → ways ls ≡ map (λ (w : List PathStep × Bool). w.0) (map way_of ls)
ways_first [] = refl
ways_first (l ∷ ls) = ap (λ w. l.path ∷ w) (ways_first ls)

mask_ways : (t : FirType) → ways (leaves (mask_of t)) ≡ ways (leaves t)
mask_ways t = ways_first (leaves (mask_of t)) ∙ ap (map (λ (w : List PathStep × Bool). w.0)) (masked t).same ∙ sym (ways_first (leaves t))

fields-cons : (f : Field) (fs : List Field) → fields_ways (f ∷ fs) ≡ behind (step.Field f.name.id) (ways (leaves f.typ)) ++ fields_ways fs
fields-cons f fs = flat_map-cons (λ (g : Field). behind (step.Field g.name.id) (ways (leaves g.typ))) f fs

one_field : (f : Field) (fs : List Field) (ws : List (List PathStep)) (rest : List (List PathStep)) → ways (leaves f.typ) ≡ ws → fields_ways fs ≡ rest → fields_ways (f ∷ fs) ≡ behind (step.Field f.name.id) ws ++ rest
one_field f fs ws rest e h = fields-cons f fs ∙ ap₂ (λ a b. behind (step.Field f.name.id) a ++ b) e h

of_mode : (place : Place) (element : FirType) (m : PortMode) → fields_ways (fields_of_mode place element m) ≡ mode_ways (ways (leaves element)) m
of_mode place element mode.Reader = one_field (flipped_field place data_name element) [] _ [] refl refl ∙ append-nil (behind (step.Field data_name) (ways (leaves element)))
of_mode place element mode.Writer =
    let mask = plain_field place mask_name (mask_of element) in
    one_field (plain_field place data_name element) (mask ∷ []) _ _ refl
    (one_field mask [] _ [] (mask_ways element) refl ∙ append-nil (behind (step.Field mask_name) (ways (leaves element))))
of_mode place element mode.ReadWriter =
    let wmask = plain_field place wmask_name (mask_of element) in
    let wdata = plain_field place wdata_name element in
    let wmode = plain_field place wmode_name (uint_at place 1) in
    one_field (flipped_field place rdata_name element) (wmode ∷ wdata ∷ wmask ∷ []) _ _ refl
    (one_field wmode (wdata ∷ wmask ∷ []) _ _ (uint_ways place 1)
    (one_field wdata (wmask ∷ []) _ _ refl
    (one_field wmask [] _ [] (mask_ways element) refl ∙ append-nil (behind (step.Field wmask_name) (ways (leaves element))))))

port_type_ways : (element : FirType) (depth : ℕ) (m : PortMode) (place : Place) → ways (leaves (port_type element depth m place)) ≡ port_ways (ways (leaves element)) m
port_type_ways element depth m place =
    let addr = plain_field place addr_name (uint_at place (address_bits depth)) in
    let en = plain_field place en_name (uint_at place 1) in
    let clk = plain_field place clk_name (clock_at place) in
    let more = fields_of_mode place element m in
    ap ways (leaves-bundle (port_type element depth m place) (addr ∷ en ∷ clk ∷ more) refl) ∙ bundle_ways (addr ∷ en ∷ clk ∷ more)
    ∙ one_field addr (en ∷ clk ∷ more) _ _ (uint_ways place (address_bits depth)) (one_field en (clk ∷ more) _ _ (uint_ways place 1) (one_field clk more _ _ (clock_ways place) (of_mode place element m)))

lines_ways : (element : FirType) (depth : ℕ) (lines : List MemLine) → fields_ways (filter_map (port_field element depth) lines) ≡ all_ways (ways (leaves element)) (filter_map port_in lines)
lines_ways element depth [] = refl
lines_ways element depth (line.MemPort at m name ∷ lines) =
    one_field (record { flip = true; name = name; typ = port_type element depth m name.place }) (filter_map (port_field element depth) lines) _ _ (port_type_ways element depth m name.place) (lines_ways element depth lines)
lines_ways element depth (line.Element at t ∷ lines) = lines_ways element depth lines
lines_ways element depth (line.Depth at n ∷ lines) = lines_ways element depth lines
lines_ways element depth (line.ReadLatency at n ∷ lines) = lines_ways element depth lines
lines_ways element depth (line.WriteLatency at n ∷ lines) = lines_ways element depth lines
lines_ways element depth (line.ReadUnder at u ∷ lines) = lines_ways element depth lines

-- The ways of the leaves of a memory's ports.
pub memory_ways : (memory : Memory) (element : FirType) → ways (leaves (ports_bundle memory element)) ≡ all_ways (ways (leaves element)) (memory_ports memory)
memory_ways memory element =
    ap ways (leaves-bundle (ports_bundle memory element) (filter_map (port_field element (depth_of memory)) memory.lines) refl) ∙ bundle_ways (filter_map (port_field element (depth_of memory)) memory.lines) ∙ lines_ways element (depth_of memory) memory.lines
