-- What expressions have, leaf by leaf, as expressions over numbered leaves (FIRRTL specification 3.0, "Expressions").
use Rattle.std.specs.Prelude.{◌≡◌, ℕ, ◌+◌, min, nat_eq, is_some, Bool, true, List, [], ◌∷◌, map, length, slice_get, Option, Some, option_map, Contains, ◌⊎◌}
use Rattle.std.specs.Map.{lookup}
use Rattle.bit_words.specs.declared.value.Value.{Value}
use Rattle.bit_words.specs.Values.{integer_of}
use Rattle.fir_types.specs.declared.fir_type.FirType.{FirType}
use Rattle.fir_types.specs.declared.leaf.TypeLeaf.{TypeLeaf}
use Rattle.fir_types.specs.Leaves.{leaves}
use Rattle.fir_tree.specs.declared.expr.Expr.{Expr}
use Rattle.fir_tree.specs.declared.expr.Suffix.{Suffix}
use Rattle.prim_ops.specs.Values.{fitted}
use Rattle.ground_net.specs.Grounds.{Instant, value, mentions}
use Rattle.ground_net.specs.Shapes.{Shape, shaped, Table, HasShapes, shape}
use Rattle.ground_net.specs.Cycles.{integer_at}
use Rattle.fir_meaning.specs.Components.{Leaf, kind_of_leaf, width_of_leaf}
use Rattle.fir_meaning.specs.Values as tree
use Rattle.fir_meaning.specs.Mentions as tree_reads
use Rattle.fir_meaning.specs.Mentions.{Scope}
use Rattle.fir_meaning.specs.WellTyped.{Known, typed, lone_shape, type_behind}
pub use Rattle.fir_meaning.specs.WellTyped.{typed_step}
use Rattle.ground_exprs.specs.declared.part.Pick.{Pick}
use Rattle.ground_exprs.specs.declared.part.Part.{Part}
use Rattle.ground_exprs.specs.Parts.{picked, choices, index_mentions, are_indices}
use Rattle.ground_exprs.specs.Numbers.{Numbering, StandsAt, SameLeaves, IsPart, scene_seen}
use Rattle.fir_meaning.specs.WellTyped.{is_narrow}
use Rattle.ground_exprs.specs.declared.source.Source.{Source}
use Rattle.ground_exprs.specs.declared.component.Component.{Component}

-- The kind and the width that a source says.
abbrev pub told : Source → Shape
told s = shaped s.kind s.width

-- Components by the numbers of their names.
abbrev pub Entries : Type 0
Entries = List (ℕ × Component)

-- The types of components.
abbrev pub known_of : Entries → Known
known_of entries name = option_map (λ c. c.typ) (lookup (nat_eq name) entries)

-- No component has a ground type of more than 128 bits.
abbrev pub AreNarrow : Entries → Type 0
AreNarrow entries = (name : ℕ) (c : Component) → lookup (nat_eq name) entries ≡ Some c → is_narrow c.typ ≡ true

-- The components have these types, and their leaves have these numbers.
pub record Knows (n : Numbering) (types : Scope) (entries : Entries) : Type 0 where
  pub typed : (name : ℕ) (c : Component) → lookup (nat_eq name) entries ≡ Some c → types name ≡ c.typ
  pub numbers : (name : ℕ) (c : Component) → lookup (nat_eq name) entries ≡ Some c → StandsAt n name c.typ [] c.first

-- the values of sources
abbrev pub source_values : List Source → Instant → List Value
source_values sources instant = map (λ s. value s.expr instant) sources

-- Source by source, what is mentioned is the leaves of the list at its place, both ways.
abbrev pub ReadEach : Numbering → List (List Leaf) → List Source → Type 0
ReadEach n [] [] = Unit {0}
ReadEach n (m ∷ ms) (s ∷ ss) = SameLeaves n m (mentions s.expr) × ReadEach n ms ss
ReadEach n _ _ = ⊥

-- The sources have these values at each instant that is in range, the kinds and widths that they say, and mention these leaves.
pub record AreSources (n : Numbering) (has : Instant → List Value) (mentioned : List (List Leaf)) (sources : List Source) : Type 0 where
  pub values : (instant : Instant) → HasShapes n.table instant → source_values sources instant ≡ has instant
  pub shapes : map (λ s. shape s.expr n.table) sources ≡ map (λ s. Some (told s)) sources
  pub reads : ReadEach n mentioned sources

-- The sources of what has these kinds and widths, these values in a scene and these mentions, wherever the components stand.
pub record Lowers (entries : Entries) (kinds : Option (List Shape)) (has : tree.Scene → List Value) (mentioned : Scope → List (List Leaf)) (sources : List Source) : Type 0 where
  pub typed : kinds ≡ Some (map told sources)
  pub are : (n : Numbering) (types : Scope) → Knows n types entries → AreSources n (λ instant. has (scene_seen types n instant)) (mentioned types) sources

-- The sources of an expression, leaf by leaf.
abbrev pub IsLowered : Entries → Expr → List Source → Type 0
IsLowered entries e sources = Lowers entries (typed e (known_of entries)) (tree.value e) (tree_reads.mentions e) sources

-- the kind and the width of what is one value
abbrev pub is_lone : Known → Expr → Bool
is_lone known e = is_some (lone_shape (typed e known))

-- One source for each operand.
pub record AreOperands (entries : Entries) (es : List Expr) (count : ℕ) (sources : List Source) : Type 0 where
  pub counted : length sources ≡ count
  pub each : (k : ℕ) (e : Expr) (s : Source) → slice_get es k ≡ Some e → slice_get sources k ≡ Some s → IsLowered entries e (s ∷ [])

-- A step of a reference goes from a part to a part of it, wherever the components stand.
pub record Steps (entries : Entries) (s : Suffix) (typ : FirType) (part : Part) (inner : FirType) (after : Part) : Type 0 where
  pub typed : typed_step s (known_of entries) typ ≡ Some inner
  pub narrow : is_narrow typ ≡ true → is_narrow inner ≡ true
  pub goes : (n : Numbering) (types : Scope) → Knows n types entries → (region : tree_reads.Region) (spot : Instant → tree.Spot) → IsPart n region spot typ part
      → IsPart n (tree_reads.suffix_onward s types region) (λ instant. tree.suffix_step s (scene_seen types n instant) (spot instant)) inner after
  pub indices : (n : Numbering) (types : Scope) → Knows n types entries → are_indices n.table part.picks ≡ true → are_indices n.table after.picks ≡ true

-- So many steps of a reference lead to a part.
pub record Leads (entries : Entries) (name : ℕ) (suffixes : List Suffix) (typ : FirType) (part : Part) : Type 0 where
  pub typed : type_behind (known_of entries) (map typed_step suffixes) (known_of entries name) ≡ Some typ
  pub narrow : is_narrow typ ≡ true
  pub leads : (n : Numbering) (types : Scope) → Knows n types entries
      → IsPart n (tree_reads.follow_all types name (map tree_reads.suffix_onward suffixes)) (λ instant. tree.follow (scene_seen types n instant) name (map tree.suffix_step suffixes)) typ part
  pub indices : (n : Numbering) (types : Scope) → Knows n types entries → are_indices n.table part.picks ≡ true

-- A source fitted to a kind and a width.
pub record IsFitted (source fit : Source) : Type 0 where
  pub value : (table : Table) (instant : Instant) → shape source.expr table ≡ Some (told source) → HasShapes table instant
      → value fit.expr instant ≡ fitted fit.kind fit.width (integer_of (value source.expr instant))
  pub shape : (table : Table) → shape source.expr table ≡ Some (told source) → shape fit.expr table ≡ Some (told fit)
  pub mentions : mentions fit.expr ≡ mentions source.expr

-- The source of a leaf of a part, by its number in the elements with the number 0.
pub record IsOfLeaf (picks : List Pick) (number : ℕ) (leaf : TypeLeaf) (s : Source) : Type 0 where
  pub kind : s.kind ≡ kind_of_leaf leaf
  pub width : s.width ≡ min (width_of_leaf leaf) 128
  pub value : (table : Table) (instant : Instant) → HasShapes table instant → are_indices table picks ≡ true → ((x : ℕ) → Contains (choices picks number) x → table.leaf x ≡ Some (told s))
      → value s.expr instant ≡ fitted s.kind s.width (integer_at instant (picked instant picks number))
  pub shape : (table : Table) → are_indices table picks ≡ true → ((x : ℕ) → Contains (choices picks number) x → table.leaf x ≡ Some (told s)) → shape s.expr table ≡ Some (told s)
  pub only : (x : ℕ) → Contains (mentions s.expr) x → Contains (index_mentions picks) x ⊎ Contains (choices picks number) x
  pub indices : (x : ℕ) → Contains (index_mentions picks) x → Contains (mentions s.expr) x
  pub leaves : (x : ℕ) → Contains (choices picks number) x → Contains (mentions s.expr) x

-- The sources of so many of a part's first leaves.
pub record AreOfLeaves (typ : FirType) (part : Part) (count : ℕ) (sources : List Source) : Type 0 where
  pub counted : length sources ≡ count
  pub each : (j : ℕ) (leaf : TypeLeaf) (s : Source) → slice_get (leaves typ) j ≡ Some leaf → slice_get sources j ≡ Some s → IsOfLeaf part.picks (part.first + j) leaf s

-- The sources of a part, leaf by leaf.
abbrev pub AreOfPart : FirType → Part → List Source → Type 0
AreOfPart typ part sources = AreOfLeaves typ part (length (leaves typ)) sources
