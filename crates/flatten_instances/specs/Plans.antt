-- The walk along the instances: the levels that it goes through, and where the items stand.
use Rattle.std.specs.Prelude.{◌≡◌, ℕ, suc, ◌+◌, ◌-◌, ◌<◌, ◌≤◌, ◌==◌, true, false, List, [], ◌∷◌, ◌++◌, filter, take, length, slice_get, Option, Some, None, IsSome}
use Rattle.std.specs.List.{list_any}
use Rattle.ground_net.specs.declared.circuit.DrivenCircuit.{DrivenCircuit}
use Rattle.ground_net.specs.declared.circuit.DrivenModule.{DrivenModule}
use Rattle.ground_net.specs.declared.circuit.GroundInstance.{GroundInstance}
use Rattle.ground_net.specs.declared.circuit.GroundLeaf.{GroundLeaf}
use Rattle.ground_net.specs.declared.circuit.GroundMemory.{GroundMemory}
use Rattle.ground_net.specs.declared.circuit.GroundRole.{GroundRole}
use Rattle.ground_net.specs.declared.circuit.GroundRole.TheVariants.{Input, Plain}
use Rattle.ground_net.specs.declared.ground.Ground.{Ground}
use Rattle.ground_net.specs.declared.net.NetRegister.{NetRegister}
use Rattle.flatten_instances.specs.declared.plan.Level.{Level}
use Rattle.flatten_instances.specs.declared.plan.Holder.{Holder}
use Rattle.flatten_instances.specs.declared.plan.Site.{Site}
use Rattle.flatten_instances.specs.declared.plan.MemorySite.{MemorySite}
use Rattle.flatten_instances.specs.declared.plan.Plan.{Plan}
use Rattle.flatten_instances.specs.declared.walk.Walk.{Walk}
use Rattle.flatten_instances.specs.Instances.{IsInTurn}
use Rattle.flatten_instances.specs.FlatOrder.{Spot, Item, InFlatOrder, leaf_spots, memories_from, instance_here, memory_here}
use Rattle.flatten_instances.specs.Numbers.{StandsAt, driver_in, driver_with}
use Rattle.flatten_instances.specs.Flat.{OneByOne, IsLeafAt, IsFlatLeaf, IsFlatDriver, IsFlatMemory, IsFlatRegister, is_register_at}

-- A module whose instances lead at most so many levels down, all in turn.
pub data IsSound (driven : DrivenCircuit) : ℕ → ℕ → Type 0 where
  sound : {n left : ℕ} (m : DrivenModule) → slice_get driven.modules n ≡ Some m → IsInTurn driven m
      → ((i : ℕ) (gi : GroundInstance) → slice_get m.instances i ≡ Some gi → IsSound driven gi.module left) → IsSound driven n (suc left)

-- A level is that of a path: it stands in its holder's level, where the path leads on.
pub data Begins (driven : DrivenCircuit) (levels : List Level) : List ℕ → Level → Type 0 where
  at_main : {level : Level} → level.module ≡ driven.main → level.holder ≡ None → level.prefix ≡ [] → Begins driven levels [] level
  inside : {path : List ℕ} {level : Level} (holder : Holder) (outer : Level) (m : DrivenModule) (gi : GroundInstance) → level.holder ≡ Some holder
      → slice_get levels holder.level ≡ Some outer → Begins driven levels path outer → slice_get driven.modules outer.module ≡ Some m
      → slice_get m.instances holder.instance ≡ Some gi → level.module ≡ gi.module → holder.first ≡ gi.first → level.prefix ≡ outer.prefix ++ (gi.name ++ 46 ∷ [])
      → Begins driven levels (holder.instance ∷ path) level

-- the level of this number is that of a path, and of the module of a number
pub record IsLevel (driven : DrivenCircuit) (levels : List Level) (q : ℕ) (path : List ℕ) (n : ℕ) : Type 0 where
  pub level : Level
  pub there : slice_get levels q ≡ Some level
  pub begins : Begins driven levels path level
  pub is : level.module ≡ n

-- a leaf that stands at a spot, and a memory with the number of leaves before it
pub record IsLeafSite (driven : DrivenCircuit) (levels : List Level) (s : Spot) (site : Site) : Type 0 where
  pub level : IsLevel driven levels site.level s.path s.within
  pub number : s.number ≡ site.number
  pub leaf : GroundLeaf
  pub is : IsLeafAt driven s leaf

pub record IsMemorySite (driven : DrivenCircuit) (levels : List Level) (both : ℕ × Spot) (site : MemorySite) : Type 0 where
  pub level : IsLevel driven levels site.level both.1.path both.1.within
  pub number : both.1.number ≡ site.number
  pub before : both.0 ≡ site.before
  pub m : DrivenModule
  pub found : slice_get driven.modules both.1.within ≡ Some m
  pub memory : GroundMemory
  pub there : slice_get m.memories both.1.number ≡ Some memory

-- the leaf of a flat number stands at a spot
pub record HasSite (driven : DrivenCircuit) (levels : List Level) (leaves : List Site) (x : ℕ) (s : Spot) : Type 0 where
  pub site : Site
  pub there : slice_get leaves x ≡ Some site
  pub is : IsLeafSite driven levels s site

-- the flat numbers of the leaves of the module of a level, from leaf y on
abbrev pub Numbers : DrivenCircuit → List Level → List Site → List ℕ → ℕ → DrivenModule → ℕ → List ℕ → Type 0
Numbers driven levels leaves path n m y numbers =
    (j x : ℕ) → slice_get numbers j ≡ Some x → (s : Spot) × StandsAt driven path n m (y + j) s × HasSite driven levels leaves x s

-- a table has the flat numbers of all leaves of the module of a level
pub record IsTable (driven : DrivenCircuit) (levels : List Level) (leaves : List Site) (q : ℕ) (table : List ℕ) : Type 0 where
  pub path : List ℕ
  pub n : ℕ
  pub level : IsLevel driven levels q path n
  pub m : DrivenModule
  pub found : slice_get driven.modules n ≡ Some m
  pub counted : length table ≡ length m.leaves
  pub numbers : Numbers driven levels leaves path n m 0 table

-- Items were added, and the levels below with their tables.
pub record Grows (driven : DrivenCircuit) (items : List Item) (old new : Plan) : Type 0 where
  pub more_levels : List Level
  pub levels : new.levels ≡ old.levels ++ more_levels
  pub more_leaves : List Site
  pub leaves : new.leaves ≡ old.leaves ++ more_leaves
  pub leaf_sites : OneByOne (IsLeafSite driven new.levels) (leaf_spots items) more_leaves
  pub more_memories : List MemorySite
  pub memories : new.memories ≡ old.memories ++ more_memories
  pub memory_sites : OneByOne (IsMemorySite driven new.levels) (memories_from (length old.leaves) items) more_memories
  pub counted : length new.tables ≡ length new.levels
  pub kept : (q : ℕ) → q < length old.levels → slice_get new.tables q ≡ slice_get old.tables q
  pub tables : (q : ℕ) (table : List ℕ) → length old.levels ≤ q → slice_get new.tables q ≡ Some table → IsTable driven new.levels new.leaves q table

-- A module was visited, with all that stands below it.
pub record Visits (driven : DrivenCircuit) (path : List ℕ) (level : Level) (old new : Plan) : Type 0 where
  pub m : DrivenModule
  pub found : slice_get driven.modules level.module ≡ Some m
  pub own : List Item
  pub order : InFlatOrder driven path level.module m 0 0 0 own
  pub grows : Grows driven own old new

-- The walk through the module of a level went on.
pub record GoesOn (driven : DrivenCircuit) (path : List ℕ) (m : DrivenModule) (w v : Walk) (old new : Plan) : Type 0 where
  pub items : List Item
  pub onward : (rest : List Item) → InFlatOrder driven path w.module m (length v.numbers) v.memory v.instance rest
      → InFlatOrder driven path w.module m (length w.numbers) w.memory w.instance (items ++ rest)
  pub grows : Grows driven items old new
  pub more : List ℕ
  pub numbers : v.numbers ≡ w.numbers ++ more
  pub numbered : Numbers driven new.levels new.leaves path w.module m (length w.numbers) more

-- what of a walk stays
pub record SameWalk (w v : Walk) : Type 0 where
  pub level : v.level ≡ w.level
  pub within : v.module ≡ w.module
  pub left : v.left ≡ w.left

-- Nothing was left out so far: what comes next in its list doesn't stand before the walk.
pub record IsFair (m : DrivenModule) (y k i : ℕ) : Type 0 where
  pub within : y ≤ length m.leaves
  pub memory : (memory : GroundMemory) → slice_get m.memories k ≡ Some memory → y ≤ memory.first
  pub instance : (gi : GroundInstance) → slice_get m.instances i ≡ Some gi → (y ≤ gi.first) × (k ≤ gi.memories)

-- A walk goes on through its module, on its level.
pub record IsGoing (driven : DrivenCircuit) (m : DrivenModule) (w : Walk) (plan : Plan) : Type 0 where
  pub known : slice_get driven.modules w.module ≡ Some m
  pub in_turn : IsInTurn driven m
  pub fair : IsFair m (length w.numbers) w.memory w.instance
  pub counted : length plan.tables ≡ length plan.levels
  pub level : w.level < length plan.levels

-- there are more levels, and a table for each of them
pub record IsLonger (old new : Plan) : Type 0 where
  pub counted : length new.tables ≡ length new.levels
  pub more : length old.levels < length new.levels

-- the instance and the memory that stand next
abbrev pub instance_next : DrivenModule → Walk → Option GroundInstance
instance_next m w = instance_here m (length w.numbers) w.memory w.instance

abbrev pub memory_next : DrivenModule → Walk → Option GroundMemory
memory_next m w = memory_here m (length w.numbers) w.memory

-- how much of a module is left
abbrev pub left_of : DrivenModule → Walk → ℕ
left_of m w = (length m.leaves - length w.numbers) + ((length m.memories - w.memory) + (length m.instances - w.instance))

-- A whole run was planned.
pub record IsPlan (driven : DrivenCircuit) (plan : Plan) : Type 0 where
  pub main : DrivenModule
  pub found : slice_get driven.modules driven.main ≡ Some main
  pub items : List Item
  pub order : InFlatOrder driven [] driven.main main 0 0 0 items
  pub leaf_sites : OneByOne (IsLeafSite driven plan.levels) (leaf_spots items) plan.leaves
  pub memory_sites : OneByOne (IsMemorySite driven plan.levels) (memories_from 0 items) plan.memories
  pub counted : length plan.tables ≡ length plan.levels
  pub tables : (q : ℕ) (table : List ℕ) → slice_get plan.tables q ≡ Some table → IsTable driven plan.levels plan.leaves q table

-- What is made of the sites

-- a leaf, a driver and a memory of a site are those of the spot that it stands for
abbrev pub LeafAtSite : DrivenCircuit → Plan → Site → GroundLeaf → Type 0
LeafAtSite driven plan site leaf = (s : Spot) → IsLeafSite driven plan.levels s site → IsFlatLeaf driven s leaf

abbrev pub DriverAtSite : DrivenCircuit → Plan → Site → Option Ground → Type 0
DriverAtSite driven plan site driver =
    (spots : List Spot) (s : Spot) → OneByOne (IsLeafSite driven plan.levels) spots plan.leaves → IsLeafSite driven plan.levels s site → IsFlatDriver driven spots s driver

abbrev pub MemoryAtSite : DrivenCircuit → Plan → MemorySite → GroundMemory → Type 0
MemoryAtSite driven plan site memory =
    (spots : List Spot) (both : ℕ × Spot) → OneByOne (IsLeafSite driven plan.levels) spots plan.leaves → IsMemorySite driven plan.levels both site → IsFlatMemory driven spots both memory

-- some spot is that of the site
abbrev pub SomeLeaf : DrivenCircuit → Plan → Site → Type 0
SomeLeaf driven plan site = (s : Spot) × IsLeafSite driven plan.levels s site

abbrev pub SomeMemory : DrivenCircuit → Plan → MemorySite → Type 0
SomeMemory driven plan site = (both : ℕ × Spot) × IsMemorySite driven plan.levels both site

-- only main's inputs stay inputs
abbrev pub role_under : Option Holder → GroundRole → GroundRole
role_under (Some holder) Input = Plain
role_under _ role = role

-- the driver that a holder gives to an input of an instance
abbrev pub HeldDriver : DrivenCircuit → Plan → Option Holder → ℕ → Option Ground → Type 0
HeldDriver driven plan None y driver = driver ≡ None
HeldDriver driven plan (Some holder) y driver =
    (outer : Level) (m : DrivenModule) (table : List ℕ) → slice_get plan.levels holder.level ≡ Some outer → slice_get driven.modules outer.module ≡ Some m
    → slice_get plan.tables holder.level ≡ Some table → driver ≡ driver_with table (driver_in m (holder.first + y))

-- a holder's level and module are there
abbrev pub HasHolder : DrivenCircuit → Plan → Option Holder → Type 0
HasHolder driven plan None = Unit {0}
HasHolder driven plan (Some holder) = (outer : Level) × (slice_get plan.levels holder.level ≡ Some outer) × IsSome (slice_get driven.modules outer.module)

-- For each leaf a table has the place of a register of it, among the first registers of a list.
pub record IsRegisterTable (registers : List NetRegister) (count : ℕ) (table : List (Option ℕ)) : Type 0 where
  pub has : (y r : ℕ) → slice_get table y ≡ Some (Some r) → (register : NetRegister) × (slice_get registers r ≡ Some register) × (register.leaf ≡ y)
  pub any : (y r : ℕ) → slice_get table y ≡ Some (Some r) → list_any (λ register. register.leaf == y) (take count registers) ≡ true
  pub none : (y : ℕ) → slice_get table y ≡ Some None → list_any (λ register. register.leaf == y) (take count registers) ≡ false

-- all registers of a module
pub record HasRegisters (m : DrivenModule) (table : List (Option ℕ)) : Type 0 where
  pub counted : length table ≡ length m.leaves
  pub is : IsRegisterTable m.registers (length m.registers) table

-- a register of the leaf at a spot, or none
pub record HasRegister (driven : DrivenCircuit) (s : Spot) (register : NetRegister) : Type 0 where
  pub any : is_register_at driven s ≡ true
  pub m : DrivenModule
  pub found : slice_get driven.modules s.within ≡ Some m
  pub r : ℕ
  pub there : slice_get m.registers r ≡ Some register
  pub leaf : register.leaf ≡ s.number

abbrev pub Registered : DrivenCircuit → Spot → Option NetRegister → Type 0
Registered driven s (Some register) = HasRegister driven s register
Registered driven s None = is_register_at driven s ≡ false

abbrev pub RegisteredAtSite : DrivenCircuit → Plan → Site → Option NetRegister → Type 0
RegisteredAtSite driven plan site register = (s : Spot) → IsLeafSite driven plan.levels s site → Registered driven s register

-- the registers of the first sites
abbrev pub RegistersOf : DrivenCircuit → Plan → ℕ → List NetRegister → Type 0
RegistersOf driven plan count registers =
    (spots : List Spot) → OneByOne (IsLeafSite driven plan.levels) spots plan.leaves → OneByOne (IsFlatRegister driven spots) (filter (is_register_at driven) (take count spots)) registers
