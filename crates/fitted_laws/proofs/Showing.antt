-- The elements of a memory hold nothing flipped: each port shows their leaves, flipped as its field with the data is.
use Rattle.std.proofs.Common.{◌≡◌, ◌≢◌, ℕ, ◌<◌, Bool, true, false, not, if◌then◌else◌, List, [], ◌∷◌, map, refl, sym, ap, ◌∙◌, subst, arith, ⊎_elim}
use Rattle.std.specs.Prelude.{Contains}
use Rattle.std.proofs.lemmas.List.Elements.{Contains-append_left, Contains-append_right, Contains-append_cases}
use Rattle.std.specs.List.{flat_map, filter_map, AllByRecursion}
use Rattle.place_text.specs.declared.place.Place.{Place}
use Rattle.fir_types.specs.declared.fir_type.FirType.{FirType}
use Rattle.fir_types.specs.declared.fir_type.Field.{Field}
use Rattle.fir_types.specs.declared.leaf.TypeLeaf.{TypeLeaf}
use Rattle.fir_types.specs.declared.leaf.PathStep.{PathStep}
use Rattle.fir_types.specs.declared.leaf.PathStep.TheVariants as step
use Rattle.fir_types.specs.declared.memory.Memory.{Memory}
use Rattle.fir_types.specs.declared.memory.MemLine.{MemLine}
use Rattle.fir_types.specs.declared.memory.MemLine.TheVariants as line
use Rattle.fir_types.specs.declared.memory.PortMode.{PortMode}
use Rattle.fir_types.specs.declared.memory.PortMode.TheVariants as mode
use Rattle.fir_types.specs.Leaves.{leaves, field_leaves, under}
use Rattle.fir_types.specs.Memories.{element_of, depth_of}
use Rattle.fir_types.specs.Bundles.{port_field, port_type, fields_of_mode, mask_of, plain_field, uint_at, clock_at, address_bits, addr_name, en_name, clk_name, data_name, mask_name, rdata_name, wmode_name, wdata_name, wmask_name}
use Rattle.fir_types.proofs.Layers.{leaves-bundle, leaves-field}
use Rattle.fir_types.proofs.Masks.{straight}
use Rattle.type_check.specs.Memories.{memory_faults}
use Rattle.fir_meaning.specs.Components.{ports_bundle}
use Rattle.fir_meaning.specs.MemoryPorts.{MemoryPort, memory_ports, port_named, port_in}
use Rattle.fir_names.proofs.Graphs.{some_same}
use Rattle.circuit_laws.specs.Names.{Every}
use Rattle.circuit_laws.proofs.Alone.{every-append}
use Rattle.fitted_laws.proofs.Held.{every_in, port_itself, element_passive}
use Rattle.fir_names.proofs.Members.{Contains-first, Contains-later, Contains-none, Contains-one, Contains-map, Contains-flat_map}

abbrev Straight : TypeLeaf → Type 0
Straight l = l.flip ≡ false

-- the field of a port with the data that it shows, or that it writes
abbrev data_of : PortMode → ℕ
data_of mode.Reader = data_name
data_of mode.Writer = data_name
data_of mode.ReadWriter = rdata_name

abbrev data_flip : PortMode → Bool
data_flip mode.Reader = true
data_flip mode.Writer = false
data_flip mode.ReadWriter = true

abbrev data_field : Place → FirType → PortMode → Field
data_field place element m = record { flip = data_flip m; name = record { id = data_of m; place = place }; typ = element }

first_step : {a b : ℕ} {p q : List PathStep} → step.Field a ∷ p ≡ step.Field b ∷ q → a ≡ b
first_step e = cc

later_steps : {a b : ℕ} {p q : List PathStep} → step.Field a ∷ p ≡ step.Field b ∷ q → p ≡ q
later_steps e = cc

-- Within a port

-- the data's leaves are flipped as the field is
abbrev Inner : PortMode → TypeLeaf → Type 0
Inner m l = (rest : List PathStep) → l.path ≡ step.Field (data_of m) ∷ rest → l.flip ≡ data_flip m

under_other : (m : PortMode) (name : ℕ) (flip : Bool) (ls : List TypeLeaf) → name ≢ data_of m → Every TypeLeaf (Inner m) (map (under (step.Field name ∷ []) flip) ls)
under_other m name flip [] n = tt
under_other m name flip (l ∷ ls) n = (λ rest e. let s : step.Field name ∷ l.path ≡ step.Field (data_of m) ∷ rest = e in absurd (n (first_step s)), under_other m name flip ls n)

other_inner : (m : PortMode) (f : Field) → f.name.id ≢ data_of m → Every TypeLeaf (Inner m) (field_leaves f)
other_inner m f n = subst (Every TypeLeaf (Inner m)) (sym (leaves-field f)) (under_other m f.name.id f.flip (leaves f.typ) n)

turned_flip : (b x : Bool) → x ≡ false → (if b then not x else x) ≡ b
turned_flip true x e = ap not e
turned_flip false x e = e

under_data : (m : PortMode) (ls : List TypeLeaf) → Every TypeLeaf Straight ls → Every TypeLeaf (Inner m) (map (under (step.Field (data_of m) ∷ []) (data_flip m)) ls)
under_data m [] h = tt
under_data m (l ∷ ls) h = (λ rest e. turned_flip (data_flip m) l.flip h.0, under_data m ls h.1)

data_inner : (m : PortMode) (place : Place) (element : FirType) → Every TypeLeaf Straight (leaves element) → Every TypeLeaf (Inner m) (field_leaves (data_field place element m))
data_inner m place element h = subst (Every TypeLeaf (Inner m)) (sym (leaves-field (data_field place element m))) (under_data m (leaves element) h)

fields_inner : (m : PortMode) (f : Field) (fs : List Field) → Every TypeLeaf (Inner m) (field_leaves f) → Every TypeLeaf (Inner m) (flat_map field_leaves fs) → Every TypeLeaf (Inner m) (flat_map field_leaves (f ∷ fs))
fields_inner m f fs h k = every-append TypeLeaf (Inner m) (field_leaves f) (flat_map field_leaves fs) h k

apart : (m : PortMode) (name : ℕ) → name < 3 → name ≢ data_of m
apart mode.Reader name below e = let h : name ≡ 3 = e in absurd (omega (arith, below, h))
apart mode.Writer name below e = let h : name ≡ 3 = e in absurd (omega (arith, below, h))
apart mode.ReadWriter name below e = let h : name ≡ 5 = e in absurd (omega (arith, below, h))

mode_inner : (place : Place) (element : FirType) (m : PortMode) → Every TypeLeaf Straight (leaves element) → Every TypeLeaf (Inner m) (flat_map field_leaves (fields_of_mode place element m))
mode_inner place element mode.Reader h = fields_inner mode.Reader (data_field place element mode.Reader) [] (data_inner mode.Reader place element h) tt
mode_inner place element mode.Writer h =
    let mask : Field = plain_field place mask_name (mask_of element) in
    fields_inner mode.Writer (data_field place element mode.Writer) (mask ∷ []) (data_inner mode.Writer place element h)
    (fields_inner mode.Writer mask [] (other_inner mode.Writer mask (λ e. let h : 4 ≡ 3 = e in absurd (omega (arith, h)))) tt)
mode_inner place element mode.ReadWriter h =
    let wmode : Field = plain_field place wmode_name (uint_at place 1) in
    let wdata : Field = plain_field place wdata_name element in
    let wmask : Field = plain_field place wmask_name (mask_of element) in
    fields_inner mode.ReadWriter (data_field place element mode.ReadWriter) (wmode ∷ wdata ∷ wmask ∷ []) (data_inner mode.ReadWriter place element h)
    (fields_inner mode.ReadWriter wmode (wdata ∷ wmask ∷ []) (other_inner mode.ReadWriter wmode (λ e. let h : 6 ≡ 5 = e in absurd (omega (arith, h))))
    (fields_inner mode.ReadWriter wdata (wmask ∷ []) (other_inner mode.ReadWriter wdata (λ e. let h : 7 ≡ 5 = e in absurd (omega (arith, h))))
    (fields_inner mode.ReadWriter wmask [] (other_inner mode.ReadWriter wmask (λ e. let h : 8 ≡ 5 = e in absurd (omega (arith, h)))) tt)))

module _ (element : FirType) (depth : ℕ) (place : Place) (m : PortMode) where
  abbrev addr : Field
  addr = plain_field place addr_name (uint_at place (address_bits depth))

  abbrev en : Field
  en = plain_field place en_name (uint_at place 1)

  abbrev clk : Field
  clk = plain_field place clk_name (clock_at place)

  abbrev others : List Field
  others = fields_of_mode place element m

  port_inner : Every TypeLeaf Straight (leaves element) → Every TypeLeaf (Inner m) (leaves (port_type element depth m place))
  port_inner h =
      subst (Every TypeLeaf (Inner m)) (sym (leaves-bundle (port_type element depth m place) (addr ∷ en ∷ clk ∷ others) refl))
      (fields_inner m addr (en ∷ clk ∷ others) (other_inner m addr (apart m addr_name (let b : 0 < 3 = omega arith in b)))
      (fields_inner m en (clk ∷ others) (other_inner m en (apart m en_name (let b : 1 < 3 = omega arith in b)))
      (fields_inner m clk others (other_inner m clk (apart m clk_name (let b : 2 < 3 = omega arith in b))) (mode_inner place element m h))))

  data_there : (n : PortMode) → Contains (fields_of_mode place element n) (data_field place element n)
  data_there mode.Reader = Contains-first []
  data_there mode.Writer = Contains-first (plain_field place mask_name (mask_of element) ∷ [])
  data_there mode.ReadWriter = Contains-first (plain_field place wmode_name (uint_at place 1) ∷ plain_field place wdata_name element ∷ plain_field place wmask_name (mask_of element) ∷ [])

  port_shows : (l : TypeLeaf) → Contains (leaves element) l → Contains (leaves (port_type element depth m place)) (under (step.Field (data_of m) ∷ []) (data_flip m) l)
  port_shows l i =
      let x : TypeLeaf = under (step.Field (data_of m) ∷ []) (data_flip m) l in
      let f : Field = data_field place element m in
      subst (λ list. Contains list x) (sym (leaves-bundle (port_type element depth m place) (addr ∷ en ∷ clk ∷ others) refl))
      (Contains-flat_map field_leaves (addr ∷ en ∷ clk ∷ others) f x (Contains-later addr (en ∷ clk ∷ others) (Contains-later en (clk ∷ others) (Contains-later clk others (data_there m))))
      (subst (λ list. Contains list x) (sym (leaves-field f)) (Contains-map (under (step.Field (data_of m) ∷ []) (data_flip m)) (leaves element) l i)))

-- Of all ports

module _ (p : MemoryPort) (element : FirType) (depth : ℕ) where
  -- a leaf of the port's data
  abbrev outside : TypeLeaf → TypeLeaf
  outside l = under (step.Field p.name ∷ []) true (under (step.Field (data_of p.mode) ∷ []) (data_flip p.mode) l)

  abbrev Outer : TypeLeaf → Type 0
  Outer l = (rest : List PathStep) → l.path ≡ step.Field p.name ∷ (step.Field (data_of p.mode) ∷ rest) → l.flip ≡ not (data_flip p.mode)

  under_port : (name : ℕ) (m : PortMode) → (name ≡ p.name → m ≡ p.mode) → (ls : List TypeLeaf) → Every TypeLeaf (Inner m) ls → Every TypeLeaf Outer (map (under (step.Field name ∷ []) true) ls)
  under_port name m same [] h = tt
  under_port name m same (l ∷ ls) h = (
    λ rest e.
        let s : step.Field name ∷ l.path ≡ step.Field p.name ∷ (step.Field (data_of p.mode) ∷ rest) = e in
        let is : m ≡ p.mode = same (first_step s) in
        let way : l.path ≡ step.Field (data_of p.mode) ∷ rest = later_steps s in
        ap not (h.0 rest (way ∙ ap (λ (x : PortMode). step.Field (data_of x) ∷ rest) (sym is)) ∙ ap data_flip is),
    under_port name m same ls h.1,
  )

  lines_outer : Every TypeLeaf Straight (leaves element) → (lines : List MemLine) → ((q : MemoryPort) → Contains (filter_map port_in lines) q → q.name ≡ p.name → q ≡ p)
      → Every TypeLeaf Outer (flat_map field_leaves (filter_map (port_field element depth) lines))
  lines_outer h [] same = tt
  lines_outer h (line.MemPort at m name ∷ lines) same =
      let f : Field = record { flip = true; name = name; typ = port_type element depth m name.place } in
      let own : MemoryPort = record { name = name.id; place = name.place; mode = m } in
      every-append TypeLeaf Outer (field_leaves f) (flat_map field_leaves (filter_map (port_field element depth) lines))
      (subst (Every TypeLeaf Outer) (sym (leaves-field f))
      (under_port name.id m (λ e. ap (λ (q : MemoryPort). q.mode) (same own (Contains-first (filter_map port_in lines)) e)) (leaves (port_type element depth m name.place)) (port_inner element depth name.place m h)))
      (lines_outer h lines (λ q i. same q (Contains-later own (filter_map port_in lines) i)))
  lines_outer h (line.Element at typ ∷ lines) same = lines_outer h lines same
  lines_outer h (line.Depth at n ∷ lines) same = lines_outer h lines same
  lines_outer h (line.ReadLatency at n ∷ lines) same = lines_outer h lines same
  lines_outer h (line.WriteLatency at n ∷ lines) same = lines_outer h lines same
  lines_outer h (line.ReadUnder at u ∷ lines) same = lines_outer h lines same

  lines_show : (l : TypeLeaf) → Contains (leaves element) l → (lines : List MemLine) → Contains (filter_map port_in lines) p → Contains (flat_map field_leaves (filter_map (port_field element depth) lines)) (outside l)
  lines_show l i [] among = absurd (Contains-none among)
  lines_show l i (line.MemPort at m name ∷ lines) among =
      let f : Field = record { flip = true; name = name; typ = port_type element depth m name.place } in
      let own : MemoryPort = record { name = name.id; place = name.place; mode = m } in
      let typ : FirType = port_type element depth m name.place in
      let x : TypeLeaf = under (step.Field (data_of m) ∷ []) (data_flip m) l in
      let shown : Contains (field_leaves f) (under (step.Field name.id ∷ []) true x)
      = subst (λ list. Contains list (under (step.Field name.id ∷ []) true x)) (sym (leaves-field f)) (Contains-map (under (step.Field name.id ∷ []) true) (leaves typ) x (port_shows element depth name.place m l i)) in
      ⊎_elim
      (λ a. Contains-append_left _ (flat_map field_leaves (filter_map (port_field element depth) lines)) _ (subst (λ (q : MemoryPort). Contains (field_leaves f) (under (step.Field q.name ∷ []) true (under (step.Field (data_of q.mode) ∷ []) (data_flip q.mode) l))) (sym (Contains-one a)) shown))
      (λ b. Contains-append_right (field_leaves f) _ _ (lines_show l i lines b)) (Contains-append_cases (own ∷ []) (filter_map port_in lines) _ among)
  lines_show l i (line.Element at typ ∷ lines) among = lines_show l i lines among
  lines_show l i (line.Depth at n ∷ lines) among = lines_show l i lines among
  lines_show l i (line.ReadLatency at n ∷ lines) among = lines_show l i lines among
  lines_show l i (line.WriteLatency at n ∷ lines) among = lines_show l i lines among
  lines_show l i (line.ReadUnder at u ∷ lines) among = lines_show l i lines among

-- The elements

all_in : (ls : List TypeLeaf) → AllByRecursion (λ (l : TypeLeaf). l.flip ≡ false) ls → (l : TypeLeaf) → Contains ls l → l.flip ≡ false
all_in [] h l i = absurd (Contains-none i)
all_in (x ∷ ls) h l i = ⊎_elim (λ a. ap (λ (z : TypeLeaf). z.flip) (Contains-one a) ∙ h.0) (λ b. all_in ls h.1 l b) (Contains-append_cases (x ∷ []) ls _ i)

every_of : (ls : List TypeLeaf) → ((l : TypeLeaf) → Contains ls l → l.flip ≡ false) → Every TypeLeaf Straight ls
every_of [] h = tt
every_of (x ∷ ls) h = (h x (Contains-first ls), every_of ls (λ l i. h l (Contains-later x ls i)))

unturned : (b x : Bool) → not (if b then not x else x) ≡ not b → x ≡ false
unturned true true e = cc
unturned true false e = refl
unturned false true e = cc
unturned false false e = refl

-- a memory that shows what one with straight elements shows has straight elements
pub elements_straight : (memory : Memory) → memory_faults memory ≡ [] → (filled element : FirType) → ((l : TypeLeaf) → Contains (leaves filled) l → l.flip ≡ false)
    → leaves (ports_bundle memory element) ≡ leaves (ports_bundle memory filled) → (memory_ports memory ≡ [] → leaves element ≡ leaves (element_of memory))
    → (l : TypeLeaf) → Contains (leaves element) l → l.flip ≡ false
elements_straight memory faultless filled element h alike unported l i = by (memory_ports memory) refl where
  by : (ps : List MemoryPort) → memory_ports memory ≡ ps → l.flip ≡ false
  by [] e = all_in (leaves (element_of memory)) (straight (element_of memory) (element_passive memory faultless)) l (subst (λ list. Contains list l) (unported e) i)
  by (p ∷ ps) e =
      let depth : ℕ = depth_of memory in
      let among : Contains (memory_ports memory) p = subst (λ list. Contains list p) (sym e) (Contains-first ps) in
      let shown : Contains (leaves (ports_bundle memory element)) (outside p element depth l)
      = subst (λ list. Contains list (outside p element depth l)) (sym (leaves-bundle (ports_bundle memory element) (filter_map (port_field element depth) memory.lines) refl)) (lines_show p element depth l i memory.lines among) in
      let outer : Every TypeLeaf (Outer p filled depth) (leaves (ports_bundle memory filled))
      = subst (Every TypeLeaf (Outer p filled depth)) (sym (leaves-bundle (ports_bundle memory filled) (filter_map (port_field filled depth) memory.lines) refl))
      (lines_outer p filled depth (every_of (leaves filled) h) memory.lines (λ q j n. some_same (sym (port_itself memory faultless q j) ∙ ap (port_named memory) n ∙ port_itself memory faultless p among))) in
      let own : Outer p filled depth (outside p element depth l)
      = every_in (Outer p filled depth) (leaves (ports_bundle memory filled)) outer (outside p element depth l) (subst (λ list. Contains list (outside p element depth l)) alike shown) in
      unturned (data_flip p.mode) l.flip (own l.path refl)
