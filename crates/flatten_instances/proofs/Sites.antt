-- Sites and the spots that they stand for.
use Rattle.std.proofs.Common.{◌≡◌, true, false, ℕ, ◌+◌, ◌<◌, List, ◌∷◌, ◌++◌, length, map, refl, sym, ap, ap₂, ◌∙◌, subst, arith, Option, Some, None, slice_get}
use Rattle.std.specs.Prelude.{option_map, option_and_then, IsSome}
use Rattle.ground_net.specs.declared.circuit.DrivenCircuit.{DrivenCircuit}
use Rattle.ground_net.specs.declared.circuit.DrivenModule.{DrivenModule}
use Rattle.ground_net.specs.declared.circuit.GroundInstance.{GroundInstance}
use Rattle.ground_net.specs.declared.circuit.GroundLeaf.{GroundLeaf}
use Rattle.ground_net.specs.declared.circuit.GroundMemory.{GroundMemory}
use Rattle.ground_net.specs.declared.circuit.GroundRole.{GroundRole}
use Rattle.ground_net.specs.declared.circuit.GroundRole.TheVariants.{Input, Clock, Register, Plain}
use Rattle.ground_net.specs.declared.ground.Ground.{Ground}
use Rattle.flatten_instances.specs.declared.plan.Level.{Level}
use Rattle.flatten_instances.specs.declared.plan.Holder.{Holder}
use Rattle.flatten_instances.specs.declared.plan.Site.{Site}
use Rattle.flatten_instances.specs.declared.plan.MemorySite.{MemorySite}
use Rattle.flatten_instances.specs.declared.plan.Plan.{Plan}
use Rattle.flatten_instances.specs.Instances.{instance_in, module_at, prefix_of, dotted}
use Rattle.flatten_instances.specs.FlatOrder.{Spot, spot, leaf_spots, memories_from}
use Rattle.flatten_instances.specs.Numbers.{StandsAt, AreNumbers, driver_in, driver_with, port_with}
use Rattle.flatten_instances.specs.Flat.{OneByOne, IsLeafAt, IsFlatLeaf, IsFlatDriver, by_its_module, by_its_holder, given, IsFlatMemory, is_input, role_at}
use Rattle.flatten_instances.specs.Plans.{Begins, at_main, inside, IsLevel, IsLeafSite, IsMemorySite, IsTable, IsPlan, role_under, HeldDriver, HasHolder}
use Rattle.flatten_instances.proofs.Lists.{some_same, is_some_by, get_there, partner}
use Rattle.std.proofs.lemmas.Option.{slice_get_within}

-- Levels

-- the path of a level is one
begins_one : {driven : DrivenCircuit} {levels : List Level} {path other : List ℕ} {level same : Level} → Begins driven levels path level → Begins driven levels other same → level ≡ same → path ≡ other
begins_one (at_main a none c) (at_main a' none' c') e = refl
begins_one (at_main a none c) (inside holder outer m gi held b begins d f g h i) e = let z = ap (λ (l : Level). l.holder) e in cc
begins_one (inside holder outer m gi held b begins d f g h i) (at_main a none c) e = let z = ap (λ (l : Level). l.holder) e in cc
begins_one {levels = levels} (inside holder outer m gi held b begins d f g h i) (inside holder' outer' m' gi' held' b' begins' d' f' g' h' i') e =
    let one : holder ≡ holder' = some_same (sym held ∙ (ap (λ (l : Level). l.holder) e ∙ held')) in
    let under : outer ≡ outer' = some_same (sym b ∙ (ap (λ (x : Holder). slice_get levels x.level) one ∙ b')) in
    ap₂ (λ x xs. x ∷ xs) (ap (λ (x : Holder). x.instance) one) (begins_one begins begins' under)

pub level_one : (driven : DrivenCircuit) (levels : List Level) (q : ℕ) (path other : List ℕ) (n k : ℕ) → IsLevel driven levels q path n → IsLevel driven levels q other k → (path ≡ other) × (n ≡ k)
level_one driven levels q path other n k h g =
    let one : h.level ≡ g.level = some_same (sym h.there ∙ g.there) in
    (begins_one h.begins g.begins one, sym h.is ∙ (ap (λ (l : Level). l.module) one ∙ g.is))

-- where a path leads
instance_there : (driven : DrivenCircuit) (n i : ℕ) (o : Option ℕ) (m : DrivenModule) (gi : GroundInstance) → o ≡ Some n → slice_get driven.modules n ≡ Some m → slice_get m.instances i ≡ Some gi
    → instance_in driven o i ≡ Some gi
instance_there driven n i o m gi e found there = ap (λ x. instance_in driven x i) e ∙ (ap (option_and_then (λ (x : DrivenModule). slice_get x.instances i)) found ∙ there)

pub leads_to : {driven : DrivenCircuit} {levels : List Level} {path : List ℕ} {level : Level} → Begins driven levels path level → module_at driven path ≡ Some level.module
leads_to (at_main is none c) = ap (λ n. Some n) (sym is)
leads_to {driven} (inside {path = path} holder outer m gi held b begins found there is first p) =
    ap (option_map (λ (x : GroundInstance). x.module)) (instance_there driven outer.module holder.instance (module_at driven path) m gi (leads_to begins) found there) ∙ ap (λ n. Some n) (sym is)

pub prefix_is : {driven : DrivenCircuit} {levels : List Level} {path : List ℕ} {level : Level} → Begins driven levels path level → prefix_of driven path ≡ level.prefix
prefix_is (at_main is none p) = sym p
prefix_is {driven} (inside {path = path} holder outer m gi held b begins found there is first p) =
    ap₂ (λ x y. x ++ y) (prefix_is begins) (ap dotted (instance_there driven outer.module holder.instance (module_at driven path) m gi (leads_to begins) found there)) ∙ sym p

role_is : {driven : DrivenCircuit} {levels : List Level} {path : List ℕ} {level : Level} (role : GroundRole) → Begins driven levels path level → role_at path role ≡ role_under level.holder role
role_is Input (at_main is none p) = ap (λ h. role_under h Input) (sym none)
role_is Clock (at_main is none p) = ap (λ h. role_under h Clock) (sym none)
role_is Register (at_main is none p) = ap (λ h. role_under h Register) (sym none)
role_is Plain (at_main is none p) = ap (λ h. role_under h Plain) (sym none)
role_is Input (inside holder outer m gi held b begins found there is first p) = ap (λ h. role_under h Input) (sym held)
role_is Clock (inside holder outer m gi held b begins found there is first p) = ap (λ h. role_under h Clock) (sym held)
role_is Register (inside holder outer m gi held b begins found there is first p) = ap (λ h. role_under h Register) (sym held)
role_is Plain (inside holder outer m gi held b begins found there is first p) = ap (λ h. role_under h Plain) (sym held)

-- Spots

-- a site stands for one spot
pub spot_one : (driven : DrivenCircuit) (levels : List Level) (s t : Spot) (site : Site) → IsLeafSite driven levels s site → IsLeafSite driven levels t site → s ≡ t
spot_one driven levels s t site h g =
    let one = level_one driven levels site.level s.path t.path s.within t.within h.level g.level in
    let number : s.number ≡ t.number = h.number ∙ sym g.number in
    same s.path t.path s.within t.within s.number t.number one.0 one.1 number
  where
    same : (p p' : List ℕ) (n n' y y' : ℕ) → p ≡ p' → n ≡ n' → y ≡ y' → spot p n y ≡ spot p' n' y'
    same p p' n n' y y' a b c = ap₂ (λ p n. spot p n y) a b ∙ ap (λ y. spot p' n' y) c

-- what is known of a leaf's site
pub record Known (driven : DrivenCircuit) (s : Spot) (level : Level) (m : DrivenModule) (number : ℕ) : Type 0 where
  pub within : s.within ≡ level.module
  pub found : slice_get driven.modules s.within ≡ Some m
  pub number_is : s.number ≡ number

module _ (driven : DrivenCircuit) (plan : Plan) (s : Spot) (site : Site) (h : IsLeafSite driven plan.levels s site) (level : Level) (there : slice_get plan.levels site.level ≡ Some level) where
  pub level_is : h.level.level ≡ level
  level_is = some_same (sym h.level.there ∙ there)

  pub level_begins : Begins driven plan.levels s.path level
  level_begins = subst (Begins driven plan.levels s.path) level_is h.level.begins

  within_is : s.within ≡ level.module
  within_is = sym h.level.is ∙ ap (λ (l : Level). l.module) level_is

  pub has_module : IsSome (slice_get driven.modules level.module)
  has_module = is_some_by (ap (slice_get driven.modules) (sym within_is) ∙ h.is.found)

  pub module_is : (m : DrivenModule) → slice_get driven.modules level.module ≡ Some m → Known driven s level m site.number
  module_is m found = record { within = within_is; found = ap (slice_get driven.modules) within_is ∙ found; number_is = h.number }

  pub leaf_there : (m : DrivenModule) → slice_get driven.modules level.module ≡ Some m → slice_get m.leaves site.number ≡ Some h.leaf
  leaf_there m found =
      let same : h.is.m ≡ m = some_same (sym h.is.found ∙ (module_is m found).found) in
      ap (slice_get m.leaves) (sym h.number) ∙ (ap (λ (x : DrivenModule). slice_get x.leaves s.number) (sym same) ∙ h.is.there)

  pub leaf_within : (m : DrivenModule) → slice_get driven.modules level.module ≡ Some m → site.number < length m.leaves
  leaf_within m found = slice_get_within m.leaves site.number h.leaf (leaf_there m found)

  -- the leaf that is read
  abbrev pub is_leaf : (m : DrivenModule) (leaf : GroundLeaf) → slice_get driven.modules level.module ≡ Some m → slice_get m.leaves site.number ≡ Some leaf → IsLeafAt driven s leaf
  is_leaf m leaf found read = record { m = m; found = (module_is m found).found; there = ap (slice_get m.leaves) h.number ∙ read }

  pub flat_leaf : (m : DrivenModule) (leaf flat : GroundLeaf) → slice_get driven.modules level.module ≡ Some m → slice_get m.leaves site.number ≡ Some leaf
      → flat.name ≡ level.prefix ++ leaf.name → flat.kind ≡ leaf.kind → flat.width ≡ leaf.width → flat.place ≡ leaf.place → flat.role ≡ role_under level.holder leaf.role → IsFlatLeaf driven s flat
  flat_leaf m leaf flat found read name kind width place role = record {
    leaf = leaf;
    is = is_leaf m leaf found read;
    name = name ∙ ap (λ p. p ++ leaf.name) (sym (prefix_is level_begins));
    kind = kind;
    width = width;
    place = place;
    role = role ∙ sym (role_is leaf.role level_begins);
  }

-- Tables

module _ (driven : DrivenCircuit) (plan : Plan) (planned : IsPlan driven plan) (spots : List Spot) (sites : OneByOne (IsLeafSite driven plan.levels) spots plan.leaves) where
  pub numbers_of_table : (q : ℕ) (path : List ℕ) (n : ℕ) (table : List ℕ) → IsLevel driven plan.levels q path n → slice_get plan.tables q ≡ Some table → AreNumbers driven spots path n table
  numbers_of_table q path n table level e = subst (λ k. AreNumbers driven spots path k table) one.1 (subst (λ p. AreNumbers driven spots p t.n table) one.0 mine)
    where
      t : IsTable driven plan.levels plan.leaves q table
      t = planned.tables q table e

      one : (t.path ≡ path) × (t.n ≡ n)
      one = level_one driven plan.levels q t.path path t.n n t.level level

      at : (y x : ℕ) → slice_get table y ≡ Some x → (s : Spot) × StandsAt driven t.path t.n t.m y s × (slice_get spots x ≡ Some s)
      at y x f =
          let r = t.numbers y x f in
          let p = partner (IsLeafSite driven plan.levels) spots plan.leaves x r.2.site sites r.2.there in
          let zero_plus : 0 + y ≡ y = omega arith in
          let same : p.0 ≡ r.0 = spot_one driven plan.levels p.0 r.0 r.2.site p.2 r.2.is in
          (r.0, subst (λ z. StandsAt driven t.path t.n t.m z r.0) zero_plus r.1, p.1 ∙ ap (λ z. Some z) same)

      mine : AreNumbers driven spots t.path t.n table
      mine = record { m = t.m; there = t.found; counted = t.counted; each = at }

-- a level has a table
pub has_table : (driven : DrivenCircuit) (plan : Plan) → IsPlan driven plan → (q : ℕ) (level : Level) → slice_get plan.levels q ≡ Some level → IsSome (slice_get plan.tables q)
has_table driven plan planned q level e =
    let lt : q < length plan.tables = omega (arith, slice_get_within plan.levels q level e, planned.counted) in
    is_some_by (get_there plan.tables q lt).1

-- a site of a plan is that of a spot
pub leaf_known : (driven : DrivenCircuit) (plan : Plan) → IsPlan driven plan → (x : ℕ) (site : Site) → slice_get plan.leaves x ≡ Some site → (s : Spot) × IsLeafSite driven plan.levels s site
leaf_known driven plan planned x site e = let p = partner (IsLeafSite driven plan.levels) (leaf_spots planned.items) plan.leaves x site planned.leaf_sites e in (p.0, p.2)

pub memory_known : (driven : DrivenCircuit) (plan : Plan) → IsPlan driven plan → (x : ℕ) (site : MemorySite) → slice_get plan.memories x ≡ Some site → (both : ℕ × Spot) × IsMemorySite driven plan.levels both site
memory_known driven plan planned x site e = let p = partner (IsMemorySite driven plan.levels) (memories_from 0 planned.items) plan.memories x site planned.memory_sites e in (p.0, p.2)

-- what is made of each site is made of each spot
pub at_spots : {S T Y : Type 0} (I : S → T → Type 0) (R : S → Y → Type 0) (spots : List S) (sites : List T) (ys : List Y) → OneByOne I spots sites → OneByOne (λ site y. (s : S) → I s site → R s y) sites ys → OneByOne R spots ys
at_spots I R spots sites ys h g = record {
  counted = g.counted ∙ h.counted;
  each = λ k s y e f.
      let site = get_there sites k (omega (arith, slice_get_within ys k y f, g.counted)) in
      g.each k site.0 y site.1 f s (h.each k s site.0 e site.1);
}

-- Drivers

pub has_holder : (driven : DrivenCircuit) (plan : Plan) (path : List ℕ) (level : Level) → Begins driven plan.levels path level → HasHolder driven plan level.holder
has_holder driven plan path level (at_main is none p) = subst (HasHolder driven plan) (sym none) tt
has_holder driven plan path level (inside holder outer m gi held b begins found there is first p) = subst (HasHolder driven plan) (sym held) (outer, b, is_some_by found)

module _ (driven : DrivenCircuit) (plan : Plan) (planned : IsPlan driven plan) (spots : List Spot) (sites : OneByOne (IsLeafSite driven plan.levels) spots plan.leaves) (s : Spot) (site : Site)
    (h : IsLeafSite driven plan.levels s site) (level : Level) (there : slice_get plan.levels site.level ≡ Some level) (m : DrivenModule) (leaf : GroundLeaf)
    (found : slice_get driven.modules level.module ≡ Some m) (read : slice_get m.leaves site.number ≡ Some leaf) where
  pub driver_own : (table : List ℕ) (driver : Option Ground) → is_input leaf.role ≡ false → slice_get plan.tables site.level ≡ Some table → driver ≡ driver_with table (driver_in m site.number)
      → IsFlatDriver driven spots s driver
  driver_own table driver other e is =
      subst (IsFlatDriver driven spots s) (sym (is ∙ ap (λ y. driver_with table (driver_in m y)) (sym h.number)))
      (by_its_module leaf (is_leaf driven plan s site h level there m leaf found read) table other (numbers_of_table driven plan planned spots sites site.level s.path s.within table h.level e))

  pub driver_held : (driver : Option Ground) → is_input leaf.role ≡ true → HeldDriver driven plan level.holder site.number driver → IsFlatDriver driven spots s driver
  driver_held driver input held = by s.path (level_begins driven plan s site h level there) refl
    where
      leaf_is : IsLeafAt driven s leaf
      leaf_is = is_leaf driven plan s site h level there m leaf found read

      by : (path : List ℕ) → Begins driven plan.levels path level → s.path ≡ path → IsFlatDriver driven spots s driver
      by path (at_main is none p) e =
          let none_is : driver ≡ None = subst (λ x. HeldDriver driven plan x site.number driver) none held in
          subst (IsFlatDriver driven spots s) (sym none_is) (given leaf leaf_is input e)
      by path (inside {path = rest} holder outer k gi is b begins there' at_gi same first p) e =
          let f : HeldDriver driven plan (Some holder) site.number driver = subst (λ x. HeldDriver driven plan x site.number driver) is held in
          let level_at : IsLevel driven plan.levels holder.level rest outer.module = record { level = outer; there = b; begins = begins; is = refl } in
          let lt : holder.level < length plan.tables = omega (arith, slice_get_within plan.levels holder.level outer b, planned.counted) in
          let t = get_there plan.tables holder.level lt in
          let place : holder.first + site.number ≡ gi.first + s.number = omega (arith, first, h.number) in
          subst (IsFlatDriver driven spots s) (sym (f outer k t.0 b there' t.1 ∙ ap (λ y. driver_with t.0 (driver_in k y)) place))
          (by_its_holder leaf rest t.0 holder.instance outer.module k gi leaf_is input e (leads_to begins) there' at_gi (numbers_of_table driven plan planned spots sites holder.level rest outer.module t.0 level_at t.1))

-- Memories

module _ (driven : DrivenCircuit) (plan : Plan) (both : ℕ × Spot) (site : MemorySite) (h : IsMemorySite driven plan.levels both site) (level : Level)
    (there : slice_get plan.levels site.level ≡ Some level) where
  memory_level_is : h.level.level ≡ level
  memory_level_is = some_same (sym h.level.there ∙ there)

  memory_within_is : both.1.within ≡ level.module
  memory_within_is = sym h.level.is ∙ ap (λ (l : Level). l.module) memory_level_is

  pub memory_module : IsSome (slice_get driven.modules level.module)
  memory_module = is_some_by (ap (slice_get driven.modules) (sym memory_within_is) ∙ h.found)

  module _ (m : DrivenModule) (found : slice_get driven.modules level.module ≡ Some m) where
    memory_module_is : slice_get driven.modules both.1.within ≡ Some m
    memory_module_is = ap (slice_get driven.modules) memory_within_is ∙ found

    pub memory_within : site.number < length m.memories
    memory_within =
        let same : h.m ≡ m = some_same (sym h.found ∙ memory_module_is) in
        slice_get_within m.memories site.number h.memory (ap (slice_get m.memories) (sym h.number) ∙ (ap (λ (x : DrivenModule). slice_get x.memories both.1.number) (sym same) ∙ h.there))

    pub flat_memory : IsPlan driven plan → (spots : List Spot) → OneByOne (IsLeafSite driven plan.levels) spots plan.leaves → (table : List ℕ) (memory flat : GroundMemory)
        → slice_get plan.tables site.level ≡ Some table → slice_get m.memories site.number ≡ Some memory → flat.name ≡ level.prefix ++ memory.name → flat.first ≡ site.before → flat.depth ≡ memory.depth
        → flat.elements ≡ memory.elements → flat.ports ≡ map (port_with table) memory.ports → IsFlatMemory driven spots both flat
    flat_memory planned spots sites table memory flat e read name first depth elements ports = record {
      m = m;
      found = memory_module_is;
      memory = memory;
      there = ap (slice_get m.memories) h.number ∙ read;
      numbers = table;
      numbered = numbers_of_table driven plan planned spots sites site.level both.1.path both.1.within table h.level e;
      name = name ∙ ap (λ p. p ++ memory.name) (sym (prefix_is (subst (Begins driven plan.levels both.1.path) memory_level_is h.level.begins)));
      first = first ∙ sym h.before;
      depth = depth;
      elements = elements;
      ports = ports;
    }
