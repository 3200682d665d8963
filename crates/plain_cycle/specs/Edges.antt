-- What is held of the components of a run after a cycle (FIRRTL specification 3.0, "Registers" and "Memories").
use Rattle.std.specs.Prelude.{◌≡◌, ⊤, ℕ, false, true, List, [], ◌∷◌, Contains, ℤ, Some}
use Rattle.bit_words.specs.declared.value.Value.{Value}
use Rattle.bit_words.specs.Values.{integer_of}
use Rattle.fir_types.specs.declared.fir_type.FirType.{FirType}
use Rattle.fir_types.specs.declared.leaf.TypeLeaf.{TypeLeaf}
use Rattle.fir_types.specs.declared.leaf.PathStep.{PathStep}
use Rattle.fir_types.specs.declared.memory.Memory.{Memory}
use Rattle.fir_types.specs.Leaves.{leaves}
use Rattle.fir_types.specs.Memories.{under_of}
use Rattle.fir_tree.specs.declared.expr.Expr.{Expr}
use Rattle.fir_meaning.specs.Components.{A_memory}
use Rattle.fir_meaning.specs.Values.{Valuation, scene_of}
use Rattle.fir_meaning.specs.MemoryPorts.{Contents, Leaves, after_writes, read_by}
use Rattle.fir_meaning.specs.Elements.{IsElement}
use Rattle.fir_meaning.specs.States.{State, is_register, next_of_register, taken}
use Rattle.plain_values.specs.declared.register.Register.{Register}
use Rattle.plain_values.specs.Registers.{sort_of}
use Rattle.plain_values.specs.Contents.{contents_of, stored_leaves}
use Rattle.plain_cycle.specs.declared.declarations.Declaration.{Declaration}
use Rattle.plain_cycle.specs.Held.{held_sort}
use Rattle.plain_cycle.specs.Layouts.{Located}
use Rattle.plain_cycle.specs.Runs.{shown_of}

-- The items of two lists stand beside each other, one by one, and this is so of each two.
abbrev pub Beside : {A B : Type 0} → (A → B → Type 0) → List A → List B → Type 0
Beside P [] [] = ⊤
Beside P (x ∷ xs) (y ∷ ys) = P x y × Beside P xs ys
Beside P _ _ = ⊥

-- The register is the one that the declaration makes.
pub record IsRegisterOf (declaration : Declaration) (register : Register) : Type 0 where
  pub block : register.block.now ≡ declaration.block.now
  pub clock : Expr
  pub sort : held_sort declaration.sort ≡ sort_of clock register

-- The value is what a leaf of a memory shows of these contents, where it shows what a port reads.
abbrev pub IsReadFrom : Memory → Leaves → Contents → TypeLeaf → Value → Type 0
IsReadFrom memory own contents leaf v = (port : ℕ) (way : List PathStep) → leaf.flip ≡ false → shown_of leaf.path ≡ Some (port, way) → integer_of v ≡ read_by memory own contents port way

-- After a cycle that begins with this state and has these values:
module _ (s : State) (rho : Valuation) where
  -- what a register holds in a leaf
  abbrev pub next_in_leaf : Located → TypeLeaf → ℤ
  next_in_leaf x leaf = next_of_register (scene_of x.m x.path rho) x.c x.c.declaration.sort leaf.path (s.registers x.path x.c.declaration.name leaf.path)

  -- the integers of a memory's leaves in the cycle
  abbrev pub leaves_in : Located → Leaves
  leaves_in x = (scene_of x.m x.path rho).integers x.c.declaration.name

  -- what the memory holds before and after the writes
  abbrev pub before_writes : Located → Contents
  before_writes x = s.contents x.path x.c.declaration.name

  abbrev pub written_in : Memory → Located → Contents
  written_in memory x = after_writes memory (leaves_in x) (before_writes x)

  -- The values are what a register holds in its leaves.
  abbrev pub AreNextIn : Located → List Value → Type 0
  AreNextIn x values = is_register x.c.declaration.sort ≡ true → Beside (λ leaf v. integer_of v ≡ next_in_leaf x leaf) (leaves x.c.typ) values

  -- The elements have what a memory holds after the writes, in each leaf of an element.
  abbrev pub AreWritten : Located → List (List Value) → Type 0
  AreWritten x elements = (memory : Memory) (typ : FirType) → x.c.declaration.sort ≡ A_memory memory → IsElement x.c memory typ → (element : ℕ) (leaf : TypeLeaf) → Contains (leaves typ) leaf
      → contents_of (stored_leaves (leaves x.c.typ)) elements element leaf.path ≡ written_in memory x element leaf.path

  -- The values are what a memory's ports have read: before the writes, or after them, as the memory says.
  abbrev pub AreRead : Located → List Value → Type 0
  AreRead x values = (memory : Memory) → x.c.declaration.sort ≡ A_memory memory
      → Beside (IsReadFrom memory (leaves_in x) (taken (under_of memory) (before_writes x) (written_in memory x))) (leaves x.c.typ) values
