-- The leaves of a memory's elements are one list.
use Rattle.std.proofs.Common.{◌≡◌, ◌≢◌, ℕ, suc, Bool, true, false, not, List, [], ◌∷◌, ◌++◌, map, slice_get, Some, refl, sym, ap, ap₂, ◌∙◌, subst, arith, if◌then◌else◌}
use Rattle.std.specs.Prelude.{⊤, filter_map}
use Rattle.std.specs.List.{flat_map}
use Rattle.std.proofs.lemmas.Grind.{common_steps}
use Rattle.place_text.specs.declared.place.Place.{Place}
use Rattle.fir_types.specs.declared.fir_type.FirType.{FirType, the_lemmas}
use Rattle.fir_types.specs.declared.fir_type.Field.{Field}
use Rattle.fir_types.specs.declared.leaf.TypeLeaf.{TypeLeaf}
use Rattle.fir_types.specs.declared.leaf.PathStep.{PathStep}
use Rattle.fir_types.specs.declared.leaf.PathStep.TheVariants as step
use Rattle.fir_types.specs.declared.name.Name.{Name}
use Rattle.fir_types.specs.declared.memory.Memory.{Memory}
use Rattle.fir_types.specs.declared.memory.MemLine.{MemLine}
use Rattle.fir_types.specs.declared.memory.MemLine.TheVariants as line
use Rattle.fir_types.specs.declared.memory.PortMode.{PortMode}
use Rattle.fir_types.specs.declared.memory.PortMode.TheVariants as mode
use Rattle.fir_types.specs.Leaves.{leaves, under}
use Rattle.fir_types.specs.Memories.{element_of, depth_of}
use Rattle.fir_types.specs.Bundles.{nowhere, addr_name, en_name, clk_name, data_name, mask_name, rdata_name, wmode_name, wdata_name, wmask_name, plain_field, uint_at, clock_at, address_bits, fields_of_mode, port_type, port_field, mask_of}
use Rattle.fir_meaning.specs.Components.{Component}
use Rattle.fir_meaning.specs.MemoryPorts.{MemoryPort, port_in, memory_ports}
use Rattle.fir_meaning.specs.Elements.{IsElement}
use Rattle.fir_meaning.proofs.Ports.{bundle_leaves}
use Rattle.net_laws.proofs.Lists.{first_of, map_at}
use Rattle.fir_meaning.proofs.MemoryLeaves.{uint_leaves, in_field, fields_of}

-- The leaf stands behind a field of this name of a port.
abbrev At : ℕ → TypeLeaf → Type 0
At d l = (p : ℕ) × (way : List PathStep) × (l.path ≡ step.Field p ∷ step.Field d ∷ way)

abbrev Every : (TypeLeaf → Type 0) → List TypeLeaf → Type 0
Every P [] = ⊤
Every P (x ∷ xs) = P x × Every P xs

abbrev None_at : ℕ → List TypeLeaf → Type 0
None_at d = Every (λ l. ¬ (At d l))

-- the first one doesn't
abbrev BeginsNot : ℕ → List TypeLeaf → Type 0
BeginsNot d [] = ⊤
BeginsNot d (x ∷ xs) = ¬ (At d x)

heads : {A : Type 0} {x y : A} {xs ys : List A} → x ∷ xs ≡ y ∷ ys → x ≡ y
heads e = cc

tails : {A : Type 0} {x y : A} {xs ys : List A} → x ∷ xs ≡ y ∷ ys → xs ≡ ys
tails e = cc

at_too : (d : ℕ) (x y : TypeLeaf) → x ≡ y → At d y → At d x
at_too d x y e a = (a.0, a.1, ap (λ (l : TypeLeaf). l.path) e ∙ a.2)

same_prefix : (d : ℕ) (xs ys rs ss : List TypeLeaf) → Every (At d) xs → Every (At d) ys → BeginsNot d rs → BeginsNot d ss → xs ++ rs ≡ ys ++ ss → xs ≡ ys
same_prefix d [] [] rs ss a b r s e = refl
same_prefix d [] (y ∷ ys) [] ss a b r s e = absurd cc
same_prefix d [] (y ∷ ys) (z ∷ rs) ss a b r s e = absurd (r (at_too d z y (heads e) b.0))
same_prefix d (x ∷ xs) [] rs [] a b r s e = absurd cc
same_prefix d (x ∷ xs) [] rs (z ∷ ss) a b r s e = absurd (s (at_too d z x (sym (heads e)) a.0))
same_prefix d (x ∷ xs) (y ∷ ys) rs ss a b r s e = ap₂ (λ z zs. z ∷ zs) (heads e) (same_prefix d xs ys rs ss a.1 b.1 r s (tails e))

begins_after : (d : ℕ) (xs rs : List TypeLeaf) → None_at d xs → BeginsNot d rs → BeginsNot d (xs ++ rs)
begins_after d [] rs h r = r
begins_after d (x ∷ xs) rs h r = h.0

other_field : (p c d : ℕ) (way : List PathStep) (l : TypeLeaf) → c ≢ d → l.path ≡ step.Field p ∷ step.Field c ∷ way → ¬ (At d l)
other_field p c d way l differ is a = differ (second (sym is ∙ a.2)) where
  second : {i j k m : ℕ} {v w : List PathStep} → step.Field i ∷ step.Field j ∷ v ≡ step.Field k ∷ step.Field m ∷ w → j ≡ m
  second e = cc

-- a leaf of the bundle of all ports
abbrev of_port : ℕ → TypeLeaf → TypeLeaf
of_port p = under (step.Field p ∷ []) true

at_field : (p d : ℕ) (flip : Bool) (ls : List TypeLeaf) → Every (At d) (map (of_port p) (map (under (step.Field d ∷ []) flip) ls))
at_field p d flip [] = tt
at_field p d flip (l ∷ ls) = ((p, l.path, refl), at_field p d flip ls)

not_front : (p c d : ℕ) (flip : Bool) (ls rest : List TypeLeaf) → c ≢ d → None_at d (map (of_port p) rest) → None_at d (map (of_port p) (map (under (step.Field c ∷ []) flip) ls ++ rest))
not_front p c d flip [] rest differ h = h
not_front p c d flip (l ∷ ls) rest differ h = (other_field p c d l.path (of_port p (under (step.Field c ∷ []) flip l)) differ refl, not_front p c d flip ls rest differ h)

-- fields of other names
abbrev Others : ℕ → List Field → Type 0
Others d [] = ⊤
Others d (f ∷ fs) = (f.name.id ≢ d) × Others d fs

others_not : (p d : ℕ) (fs : List Field) → Others d fs → None_at d (map (of_port p) (flat_map in_field fs))
others_not p d [] h = tt
others_not p d (f ∷ fs) h = not_front p f.name.id d f.flip (leaves f.typ) (flat_map in_field fs) h.0 (others_not p d fs h.1)

map_front : (p d : ℕ) (flip : Bool) (ls ys rs : List TypeLeaf) → map (of_port p) (map (under (step.Field d ∷ []) flip) ls ++ ys) ++ rs
    ≡ map (of_port p) (map (under (step.Field d ∷ []) flip) ls) ++ (map (of_port p) ys ++ rs)
map_front p d flip [] ys rs = refl
map_front p d flip (l ∷ ls) ys rs = ap (λ zs. of_port p (under (step.Field d ∷ []) flip l) ∷ zs) (map_front p d flip ls ys rs)

-- the leaves that each port has first
clock_leaves : (place : Place) → leaves (clock_at place) ≡ record { path = []; flip = false; typ = clock_at place } ∷ []
clock_leaves place = grind (arith, common_steps, the_lemmas)

abbrev plain_leaf : ℕ → FirType → TypeLeaf
plain_leaf name typ = record { path = step.Field name ∷ []; flip = false; typ = typ }

abbrev first_leaves : ℕ → Place → List TypeLeaf → List TypeLeaf
first_leaves depth place rest = plain_leaf addr_name (uint_at place (address_bits depth)) ∷ plain_leaf en_name (uint_at place 1) ∷ plain_leaf clk_name (clock_at place) ∷ rest

leaves_port : (typ : FirType) (depth : ℕ) (m : PortMode) (place : Place) → leaves (port_type typ depth m place) ≡ first_leaves depth place (flat_map in_field (fields_of_mode place typ m))
leaves_port typ depth m place =
    let rest = flat_map in_field (fields_of_mode place typ m) in
    bundle_leaves place (fields_of typ depth m place)
    ∙ (ap (λ ls. map (under (step.Field addr_name ∷ []) false) ls ++ (in_field (plain_field place en_name (uint_at place 1)) ++ (in_field (plain_field place clk_name (clock_at place)) ++ rest))) (uint_leaves place (address_bits depth))
    ∙ (ap (λ ls. plain_leaf addr_name (uint_at place (address_bits depth)) ∷ (map (under (step.Field en_name ∷ []) false) ls ++ (in_field (plain_field place clk_name (clock_at place)) ++ rest))) (uint_leaves place 1)
    ∙ ap (λ ls. plain_leaf addr_name (uint_at place (address_bits depth)) ∷ plain_leaf en_name (uint_at place 1) ∷ (map (under (step.Field clk_name ∷ []) false) ls ++ rest)) (clock_leaves place)))

-- The data of a port come first behind those.
abbrev data_field : PortMode → ℕ
data_field mode.ReadWriter = rdata_name
data_field _ = data_name

abbrev is_read : PortMode → Bool
is_read mode.Writer = false
is_read _ = true

abbrev other_fields : Place → FirType → PortMode → List Field
other_fields place typ mode.Reader = []
other_fields place typ mode.Writer = plain_field place mask_name (mask_of typ) ∷ []
other_fields place typ mode.ReadWriter = plain_field place wmode_name (uint_at place 1) ∷ plain_field place wdata_name typ ∷ plain_field place wmask_name (mask_of typ) ∷ []

fields_split : (place : Place) (typ : FirType) (m : PortMode) → flat_map in_field (fields_of_mode place typ m) ≡ map (under (step.Field (data_field m) ∷ []) (is_read m)) (leaves typ) ++ flat_map in_field (other_fields place typ m)
fields_split place typ mode.Reader = refl
fields_split place typ mode.Writer = refl
fields_split place typ mode.ReadWriter = refl

others_differ : (place : Place) (typ : FirType) (m : PortMode) → Others (data_field m) (other_fields place typ m)
others_differ place typ mode.Reader = tt
others_differ place typ mode.Writer = ((λ e. omega (arith, e)), tt)
others_differ place typ mode.ReadWriter = ((λ e. omega (arith, e)), ((λ e. omega (arith, e)), ((λ e. omega (arith, e)), tt)))

addr_differs : (m : PortMode) → addr_name ≢ data_field m
addr_differs mode.Reader e = omega (arith, e)
addr_differs mode.Writer e = omega (arith, e)
addr_differs mode.ReadWriter e = omega (arith, e)

abbrev all_fields : FirType → ℕ → List MemLine → List TypeLeaf
all_fields typ depth lines = flat_map in_field (filter_map (port_field typ depth) lines)

-- What a port begins with is no data.
begins_not : (d : ℕ) → addr_name ≢ d → (typ : FirType) (depth : ℕ) (lines : List MemLine) → BeginsNot d (all_fields typ depth lines)
begins_not d differ typ depth [] = tt
begins_not d differ typ depth (line.MemPort at m name ∷ lines) =
    subst (λ ls. BeginsNot d (map (of_port name.id) ls ++ all_fields typ depth lines)) (sym (leaves_port typ depth m name.place)) (other_field name.id addr_name d [] (of_port name.id (plain_leaf addr_name (uint_at name.place (address_bits depth)))) differ refl)
begins_not d differ typ depth (line.Element at t ∷ lines) = begins_not d differ typ depth lines
begins_not d differ typ depth (line.Depth at n ∷ lines) = begins_not d differ typ depth lines
begins_not d differ typ depth (line.ReadLatency at n ∷ lines) = begins_not d differ typ depth lines
begins_not d differ typ depth (line.WriteLatency at n ∷ lines) = begins_not d differ typ depth lines
begins_not d differ typ depth (line.ReadUnder at u ∷ lines) = begins_not d differ typ depth lines

-- the leaves of all ports behind the three first ones
abbrev behind : FirType → ℕ → PortMode → Name → List MemLine → List TypeLeaf
behind typ depth m name lines = map (of_port name.id) (map (under (step.Field (data_field m) ∷ []) (is_read m)) (leaves typ))
    ++ (map (of_port name.id) (flat_map in_field (other_fields name.place typ m)) ++ all_fields typ depth lines)

abbrev first_three : ℕ → Name → List TypeLeaf → List TypeLeaf
first_three depth name rest =
    of_port name.id (plain_leaf addr_name (uint_at name.place (address_bits depth))) ∷ of_port name.id (plain_leaf en_name (uint_at name.place 1)) ∷ of_port name.id (plain_leaf clk_name (clock_at name.place)) ∷ rest

split : (typ : FirType) (depth : ℕ) (at : Place) (m : PortMode) (name : Name) (lines : List MemLine) → all_fields typ depth (line.MemPort at m name ∷ lines) ≡ first_three depth name (behind typ depth m name lines)
split typ depth at m name lines =
    ap (λ ls. map (of_port name.id) ls ++ all_fields typ depth lines) (leaves_port typ depth m name.place ∙ ap (first_leaves depth name.place) (fields_split name.place typ m))
    ∙ ap (first_three depth name) (map_front name.id (data_field m) (is_read m) (leaves typ) (flat_map in_field (other_fields name.place typ m)) (all_fields typ depth lines))

-- leaves behind one step
not_same : (a b : Bool) → not a ≡ not b → a ≡ b
not_same true true e = refl
not_same true false e = sym e
not_same false true e = sym e
not_same false false e = refl

flip_same : (flip a b : Bool) → (if flip then not a else a) ≡ (if flip then not b else b) → a ≡ b
flip_same true a b e = not_same a b e
flip_same false a b e = e

abbrev made : List PathStep → Bool × FirType → TypeLeaf
made path other = record { path = path; flip = other.0; typ = other.1 }

under_same : (s : PathStep) (flip : Bool) (a b : TypeLeaf) → under (s ∷ []) flip a ≡ under (s ∷ []) flip b → a ≡ b
under_same s flip a b e =
    ap₂ made (tails (ap (λ (l : TypeLeaf). l.path) e))
    (ap₂ (λ (f : Bool) (t : FirType). (f, t)) (flip_same flip a.flip b.flip (ap (λ (l : TypeLeaf). l.flip) e)) (ap (λ (l : TypeLeaf). l.typ) e))

all_under : (s : PathStep) (flip : Bool) (xs ys : List TypeLeaf) → map (under (s ∷ []) flip) xs ≡ map (under (s ∷ []) flip) ys → xs ≡ ys
all_under s flip [] [] e = refl
all_under s flip [] (y ∷ ys) e = absurd cc
all_under s flip (x ∷ xs) [] e = absurd cc
all_under s flip (x ∷ xs) (y ∷ ys) e = ap₂ (λ z zs. z ∷ zs) (under_same s flip x y (heads e)) (all_under s flip xs ys (tails e))

data_same : (t u : FirType) (depth : ℕ) (at : Place) (m : PortMode) (name : Name) (lines : List MemLine) → all_fields t depth (line.MemPort at m name ∷ lines) ≡ all_fields u depth (line.MemPort at m name ∷ lines) → leaves t ≡ leaves u
data_same t u depth at m name lines e =
    let d : ℕ = data_field m in
    let whole : first_three depth name (behind t depth m name lines) ≡ first_three depth name (behind u depth m name lines) = sym (split t depth at m name lines) ∙ (e ∙ split u depth at m name lines) in
    let begins : (v : FirType) → BeginsNot d (map (of_port name.id) (flat_map in_field (other_fields name.place v m)) ++ all_fields v depth lines) = λ v.
    begins_after d (map (of_port name.id) (flat_map in_field (other_fields name.place v m))) (all_fields v depth lines)
    (others_not name.id d (other_fields name.place v m) (others_differ name.place v m)) (begins_not d (addr_differs m) v depth lines) in
    all_under (step.Field d) (is_read m) (leaves t) (leaves u)
    (all_under (step.Field name.id) true (map (under (step.Field d ∷ []) (is_read m)) (leaves t)) (map (under (step.Field d ∷ []) (is_read m)) (leaves u))
    (same_prefix d _ _ _ _ (at_field name.id d (is_read m) (leaves t)) (at_field name.id d (is_read m) (leaves u)) (begins t) (begins u) (tails (tails (tails whole)))))

fields_same : (t u : FirType) (depth : ℕ) (lines : List MemLine) → filter_map port_in lines ≢ [] → all_fields t depth lines ≡ all_fields u depth lines → leaves t ≡ leaves u
fields_same t u depth [] some e = absurd (some refl)
fields_same t u depth (line.MemPort at m name ∷ lines) some e = data_same t u depth at m name lines e
fields_same t u depth (line.Element at typ ∷ lines) some e = fields_same t u depth lines some e
fields_same t u depth (line.Depth at n ∷ lines) some e = fields_same t u depth lines some e
fields_same t u depth (line.ReadLatency at n ∷ lines) some e = fields_same t u depth lines some e
fields_same t u depth (line.WriteLatency at n ∷ lines) some e = fields_same t u depth lines some e
fields_same t u depth (line.ReadUnder at u' ∷ lines) some e = fields_same t u depth lines some e

-- Two types of a memory's elements have the same leaves.
pub elements_same : (c : Component) (memory : Memory) (t u : FirType) → IsElement c memory t → IsElement c memory u → leaves t ≡ leaves u
elements_same c memory t u a b = by (memory_ports memory) refl where
  by : (ports : List MemoryPort) → memory_ports memory ≡ ports → leaves t ≡ leaves u
  by [] e = a.unported e ∙ sym (b.unported e)
  by (p ∷ ports) e =
      fields_same t u (depth_of memory) memory.lines (λ none. some p ports (sym e ∙ none))
      (sym (bundle_leaves nowhere (filter_map (port_field t (depth_of memory)) memory.lines)) ∙ (sym a.bundle ∙ (b.bundle ∙ bundle_leaves nowhere (filter_map (port_field u (depth_of memory)) memory.lines))))
    where
      some : (p : MemoryPort) (ports : List MemoryPort) → p ∷ ports ≡ [] → ⊥
      some p ports n = absurd cc

-- No two leaves stand at one way.
abbrev pub Differ : List TypeLeaf → Type 0
Differ ls = (j k : ℕ) (a b : TypeLeaf) → slice_get ls j ≡ Some a → slice_get ls k ≡ Some b → a.path ≡ b.path → j ≡ k

data_differ : (typ : FirType) (depth : ℕ) (at : Place) (m : PortMode) (name : Name) (lines : List MemLine) → Differ (all_fields typ depth (line.MemPort at m name ∷ lines)) → Differ (leaves typ)
data_differ typ depth at m name lines h j k a b e f same =
    let d : ℕ = data_field m in
    let there : (i : ℕ) (l : TypeLeaf) → slice_get (leaves typ) i ≡ Some l
    → slice_get (first_three depth name (behind typ depth m name lines)) (suc (suc (suc i))) ≡ Some (of_port name.id (under (step.Field d ∷ []) (is_read m) l)) = λ i l g.
    first_of (map (of_port name.id) (map (under (step.Field d ∷ []) (is_read m)) (leaves typ))) (map (of_port name.id) (flat_map in_field (other_fields name.place typ m)) ++ all_fields typ depth lines) i
    (of_port name.id (under (step.Field d ∷ []) (is_read m) l))
    (map_at (of_port name.id) (map (under (step.Field d ∷ []) (is_read m)) (leaves typ)) i (under (step.Field d ∷ []) (is_read m) l) (map_at (under (step.Field d ∷ []) (is_read m)) (leaves typ) i l g)) in
    let whole : (i : ℕ) (l : TypeLeaf) → slice_get (leaves typ) i ≡ Some l
    → slice_get (all_fields typ depth (line.MemPort at m name ∷ lines)) (suc (suc (suc i))) ≡ Some (of_port name.id (under (step.Field d ∷ []) (is_read m) l)) = λ i l g.
    ap (λ ls. slice_get ls (suc (suc (suc i)))) (split typ depth at m name lines) ∙ there i l g in
    let one : suc (suc (suc j)) ≡ suc (suc (suc k)) =
    h (suc (suc (suc j))) (suc (suc (suc k))) (of_port name.id (under (step.Field d ∷ []) (is_read m) a)) (of_port name.id (under (step.Field d ∷ []) (is_read m) b)) (whole j a e) (whole k b f)
    (ap (λ way. step.Field name.id ∷ step.Field d ∷ way) same) in
    omega arith

fields_differ : (typ : FirType) (depth : ℕ) (lines : List MemLine) → filter_map port_in lines ≢ [] → Differ (all_fields typ depth lines) → Differ (leaves typ)
fields_differ typ depth [] some h = absurd (some refl)
fields_differ typ depth (line.MemPort at m name ∷ lines) some h = data_differ typ depth at m name lines h
fields_differ typ depth (line.Element at t ∷ lines) some h = fields_differ typ depth lines some h
fields_differ typ depth (line.Depth at n ∷ lines) some h = fields_differ typ depth lines some h
fields_differ typ depth (line.ReadLatency at n ∷ lines) some h = fields_differ typ depth lines some h
fields_differ typ depth (line.WriteLatency at n ∷ lines) some h = fields_differ typ depth lines some h
fields_differ typ depth (line.ReadUnder at u ∷ lines) some h = fields_differ typ depth lines some h

-- So it is with the leaves of a memory's elements where it is with those of the memory, or where it has no ports with those of its text.
pub elements_differ : (c : Component) (memory : Memory) (typ : FirType) → IsElement c memory typ → Differ (leaves c.typ) → (memory_ports memory ≡ [] → Differ (leaves (element_of memory))) → Differ (leaves typ)
elements_differ c memory typ is shown stored = by (memory_ports memory) refl where
  by : (ports : List MemoryPort) → memory_ports memory ≡ ports → Differ (leaves typ)
  by [] e = subst Differ (sym (is.unported e)) (stored e)
  by (p ∷ ports) e =
      fields_differ typ (depth_of memory) memory.lines (λ none. some p ports (sym e ∙ none))
      (subst Differ (is.bundle ∙ bundle_leaves nowhere (filter_map (port_field typ (depth_of memory)) memory.lines)) shown)
    where
      some : (p : MemoryPort) (ports : List MemoryPort) → p ∷ ports ≡ [] → ⊥
      some p ports n = absurd cc
