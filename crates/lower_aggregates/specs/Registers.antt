-- Registers as leaves with resets (FIRRTL specification 3.0, "Registers").
use Rattle.std.specs.Prelude.{◌≡◌, ℕ, ◌+◌, ◌++◌, ◌&&◌, min, Bool, true, List, [], ◌∷◌, length, take, slice_get, sum_by, pos, Option, Some, None}
use Rattle.fir_types.specs.declared.leaf.TypeLeaf.{TypeLeaf}
use Rattle.fir_types.specs.Leaves.{leaves}
use Rattle.prim_ops.specs.Values.{fitted}
use Rattle.fir_meaning.specs.Components.{Component, Sort, A_register, A_reset_register, kind_of_leaf, width_of_leaf}
use Rattle.fir_meaning.specs.WellTyped.{Known, is_condition, is_typed}
use Rattle.ground_net.specs.declared.ground.Ground.{Ground}
use Rattle.ground_net.specs.declared.ground.Ground.TheVariants.{Const}
use Rattle.ground_net.specs.declared.net.NetRegister.{NetRegister}
use Rattle.ground_net.specs.declared.net.NetReset.{NetReset}
use Rattle.ground_exprs.specs.declared.source.Source.{Source}
use Rattle.ground_exprs.specs.Sources.{Entries, IsLowered, IsFitted, known_of}
use Rattle.lower_aggregates.specs.Parts.{Part}

-- What a reset sets in a leaf from a source: the source, fitted to the leaf's kind and width, or 0.
abbrev pub IsInit : Option Source → TypeLeaf → Ground → Type 0
IsInit (Some s) leaf init = (fit : Source) × (init ≡ fit.expr) × (fit.kind ≡ kind_of_leaf leaf) × (fit.width ≡ min (width_of_leaf leaf) 128) × IsFitted s fit
IsInit None leaf init = init ≡ Const (fitted (kind_of_leaf leaf) (min (width_of_leaf leaf) 128) (pos 0))

abbrev pub PlainReset : ℕ → TypeLeaf → Option NetReset → Type 0
PlainReset k leaf reset = reset ≡ None

abbrev pub ResetTo : Ground → List Source → ℕ → TypeLeaf → Option NetReset → Type 0
ResetTo reset inits k leaf r = (n : NetReset) × (r ≡ Some n) × (n.reset ≡ reset) × IsInit (slice_get inits k) leaf n.init

-- The registers of so many of a component's first leaves.
pub record AreFirst (p : Part) (Has : ℕ → TypeLeaf → Option NetReset → Type 0) (count : ℕ) (own : List NetRegister) : Type 0 where
  pub counted : length own ≡ count
  pub each : (k : ℕ) (leaf : TypeLeaf) (r : NetRegister) → slice_get (leaves p.typ) k ≡ Some leaf → slice_get own k ≡ Some r → (r.leaf ≡ p.first + k) × Has k leaf r.reset

-- The registers of a component: one for each of its leaves where it is a register.
abbrev pub AreOwnBy : Entries → Part → Sort → List NetRegister → Type 0
AreOwnBy entries p (A_register clock) own = AreFirst p PlainReset (length (leaves p.typ)) own
AreOwnBy entries p (A_reset_register clock reset init) own =
    (s : Source) × (inits : List Source) × IsLowered entries reset (s ∷ []) × IsLowered entries init inits × AreFirst p (ResetTo s.expr inits) (length (leaves p.typ)) own
AreOwnBy entries p _ own = own ≡ []

abbrev pub AreOwn : Entries → Part → List NetRegister → Type 0
AreOwn entries p own = AreOwnBy entries p p.sort own

-- The registers of components, one after the other.
abbrev pub AreRegisters : Entries → List Part → List NetRegister → Type 0
AreRegisters entries [] registers = registers ≡ []
AreRegisters entries (p ∷ ps) registers = (own : List NetRegister) × (rest : List NetRegister) × (registers ≡ own ++ rest) × AreOwn entries p own × AreRegisters entries ps rest

-- The reset and the `init` of a register are well typed.
abbrev pub IsTypedSort : Entries → Sort → Type 0
IsTypedSort entries (A_reset_register clock reset init) = (is_condition (known_of entries) reset ≡ true) × (is_typed (known_of entries) init ≡ true)
IsTypedSort entries _ = Unit {0}

-- what a register's leaf of this place has for a reset
abbrev pub HasResetBy : Entries → Sort → ℕ → TypeLeaf → Option NetReset → Type 0
HasResetBy entries (A_register clock) j leaf r = r ≡ None
HasResetBy entries (A_reset_register clock reset init) j leaf r = (s : Source) × (inits : List Source) × IsLowered entries reset (s ∷ []) × IsLowered entries init inits × ResetTo s.expr inits j leaf r
HasResetBy entries _ j leaf r = ⊥

-- The register is one of a leaf of these components, which stand behind so many leaves.
pub record RegisterAt (entries : Entries) (before : ℕ) (cs : List Component) (r : NetRegister) : Type 0 where
  pub k : ℕ
  pub j : ℕ
  pub c : Component
  pub leaf : TypeLeaf
  pub stands : slice_get cs k ≡ Some c
  pub listed : slice_get (leaves c.typ) j ≡ Some leaf
  pub number : r.leaf ≡ before + sum_by (λ d. length (leaves d.typ)) (take k cs) + j
  pub has : HasResetBy entries c.declaration.sort j leaf r.reset

-- The same as a test.
abbrev pub is_typed_sort : Known → Sort → Bool
is_typed_sort known (A_reset_register clock reset init) = is_condition known reset && is_typed known init
is_typed_sort known _ = true
