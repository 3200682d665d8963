-- Walks that begin, go on and end.
use Rattle.std.proofs.Common.{◌≡◌, ℕ, zero, suc, ◌+◌, ◌-◌, ◌<◌, List, [], ◌∷◌, ◌++◌, length, refl, sym, ap, ◌∙◌, subst, arith, length-append, Some, None, slice_get, get_or, set}
use Rattle.std.specs.List.{range_with_len}
use Rattle.std.proofs.lemmas.List.{length-set}
use Rattle.std.proofs.lemmas.Option.{slice_get_past}
use Rattle.ground_net.specs.declared.circuit.DrivenCircuit.{DrivenCircuit}
use Rattle.ground_net.specs.declared.circuit.DrivenModule.{DrivenModule}
use Rattle.ground_net.specs.declared.circuit.GroundInstance.{GroundInstance}
use Rattle.ground_net.specs.declared.circuit.GroundMemory.{GroundMemory}
use Rattle.flatten_instances.specs.declared.plan.Level.{Level}
use Rattle.flatten_instances.specs.declared.plan.Site.{Site}
use Rattle.flatten_instances.specs.declared.plan.MemorySite.{MemorySite}
use Rattle.flatten_instances.specs.declared.plan.Plan.{Plan}
use Rattle.flatten_instances.specs.declared.walk.Walk.{Walk}
use Rattle.flatten_instances.specs.Instances.{HasInstances, IsInTurn, Reaches, itself, along}
use Rattle.flatten_instances.specs.FlatOrder.{InFlatOrder, leaf_spots, memories_from}
use Rattle.flatten_instances.specs.Flat.{OneByOne}
use Rattle.flatten_instances.specs.Plans.{IsSound, sound, Begins, IsLevel, IsLeafSite, IsMemorySite, Visits, GoesOn, SameWalk, IsFair, IsGoing, IsLonger, IsPlan, instance_next, memory_next, left_of}
use Rattle.flatten_instances.proofs.Lists.{some_by, some_same, length_range, get_right}
use Rattle.flatten_instances.proofs.Orders.{is_here, is_memory_here}
use Rattle.flatten_instances.proofs.Going.{level_on, begins_on, goes_both}
use Rattle.flatten_instances.proofs.Walking.{fair_first, fair_leaf, fair_memory, fair_instance, leaf_is_there}
use Rattle.flatten_instances.proofs.Steps.{SoundModule, sound_module, visit_ends}
use Rattle.std.specs.Prelude.{IsSome}
use Rattle.std.proofs.lemmas.Option.{slice_get_within, get_or_from_slice_get}

module _ (driven : DrivenCircuit) (m : DrivenModule) (w : Walk) (p : Plan) (going : IsGoing driven m w p) where
  -- the leaf that is next
  pub next_leaf : instance_next m w ≡ None → memory_next m w ≡ None → 0 < left_of m w → length w.numbers < length m.leaves
  next_leaf none none' more = leaf_is_there driven m going.in_turn (length w.numbers) w.memory w.instance going.fair none none' more

  pub going_leaf : (number : ℕ) (numbers : List ℕ) (leaves : List Site) → instance_next m w ≡ None → memory_next m w ≡ None → 0 < left_of m w → numbers ≡ w.numbers ++ number ∷ []
      → IsGoing driven m (record w { numbers = numbers }) (record p { leaves = leaves })
  going_leaf number numbers leaves none none' more longer = record {
    known = going.known;
    in_turn = going.in_turn;
    fair = subst (λ y. IsFair m y w.memory w.instance) (sym len)
        (fair_leaf driven m going.in_turn (length w.numbers) w.memory w.instance going.fair none none' (next_leaf none none' more));
    counted = going.counted;
    level = going.level;
  }
    where
      len : length numbers ≡ length w.numbers + 1
      len = ap length longer ∙ length-append w.numbers (number ∷ [])

  pub less_leaf : (number : ℕ) (numbers : List ℕ) → instance_next m w ≡ None → memory_next m w ≡ None → 0 < left_of m w → numbers ≡ w.numbers ++ number ∷ []
      → left_of m (record w { numbers = numbers }) < left_of m w
  less_leaf number numbers none none' more longer =
      let len : length numbers ≡ length w.numbers + 1 = ap length longer ∙ length-append w.numbers (number ∷ []) in
      let lt = next_leaf none none' more in
      omega (arith, len, lt)

  pub going_memory : (memory : GroundMemory) (memories : List MemorySite) → instance_next m w ≡ None → memory_next m w ≡ Some memory
      → IsGoing driven m (record w { memory = w.memory + 1 }) (record p { memories = memories })
  going_memory memory memories none here = record {
    known = going.known;
    in_turn = going.in_turn;
    fair = fair_memory driven m going.in_turn (length w.numbers) w.memory w.instance memory going.fair none here;
    counted = going.counted;
    level = going.level;
  }

  pub less_memory : (memory : GroundMemory) → memory_next m w ≡ Some memory → left_of m (record w { memory = w.memory + 1 }) < left_of m w
  less_memory memory here =
      let lt = slice_get_within m.memories w.memory memory (is_memory_here m (length w.numbers) w.memory memory here).0 in
      omega (arith, lt)

  module _ (gi : GroundInstance) (child : DrivenModule) (base : ℕ) (numbers : List ℕ) (here : instance_next m w ≡ Some gi) (longer : numbers ≡ w.numbers ++ range_with_len base child.ports) where
    len : length numbers ≡ length w.numbers + child.ports
    len = ap length longer ∙ (length-append w.numbers (range_with_len base child.ports) ∙ ap (λ n. length w.numbers + n) (length_range base child.ports))

    pub going_instance : (q : Plan) → slice_get driven.modules gi.module ≡ Some child → IsLonger p q → IsGoing driven m (record w { numbers = numbers; instance = w.instance + 1 }) q
    going_instance q found grown = record {
      known = going.known;
      in_turn = going.in_turn;
      fair = subst (λ y. IsFair m y w.memory (w.instance + 1)) (sym len)
          (fair_instance driven m going.in_turn (length w.numbers) w.memory w.instance gi child going.fair here found);
      counted = grown.counted;
      level = omega (arith, going.level, grown.more);
    }

    pub less_instance : left_of m (record w { numbers = numbers; instance = w.instance + 1 }) < left_of m w
    less_instance =
        let lt = slice_get_within m.instances w.instance gi (is_here m (length w.numbers) w.memory w.instance gi here).there in
        omega (arith, lt, len)

-- a walk begins
pub going_first : (driven : DrivenCircuit) (m : DrivenModule) (w : Walk) (p q : Plan) (level : Level) → IsSound driven w.module w.left → slice_get driven.modules w.module ≡ Some m
    → w.numbers ≡ [] → w.memory ≡ 0 → w.instance ≡ 0 → w.level ≡ length p.levels → length p.tables ≡ length p.levels
    → q ≡ record p { levels = p.levels ++ level ∷ []; tables = p.tables ++ [] ∷ [] } → IsGoing driven m w q
going_first driven m w p q level h found numbers memory instance number counted began = record {
  known = found;
  in_turn = subst (IsInTurn driven) (some_same (sym it.found ∙ found)) it.in_turn;
  fair = subst (λ l. IsFair m (length l) w.memory w.instance) (sym numbers) (subst (λ k. IsFair m 0 k w.instance) (sym memory) (subst (λ i. IsFair m 0 0 i) (sym instance) (fair_first driven m)));
  counted = omega (arith, tables, levels, counted);
  level = omega (arith, levels, number);
}
  where
    it : SoundModule driven w.module w.left
    it = sound_module h

    levels : length q.levels ≡ length p.levels + 1
    levels = ap (λ (x : Plan). length x.levels) began ∙ length-append p.levels (level ∷ [])

    tables : length q.tables ≡ length p.tables + 1
    tables = ap (λ (x : Plan). length x.tables) began ∙ length-append p.tables ([] ∷ [])

pub same_itself : (w : Walk) → SameWalk w w
same_itself w = record { level = refl; within = refl; left = refl }

pub same_both : (w v u : Walk) → SameWalk w v → SameWalk v u → SameWalk w u
same_both w v u h g = record { level = g.level ∙ h.level; within = g.within ∙ h.within; left = g.left ∙ h.left }

-- it goes on by a step
pub goes_on : (driven : DrivenCircuit) (path : List ℕ) (m : DrivenModule) (w v u : Walk) (p q r : Plan) → SameWalk w v → IsLevel driven p.levels w.level path w.module
    → GoesOn driven path m w v p q → (IsLevel driven q.levels v.level path v.module → GoesOn driven path m v u q r) → GoesOn driven path m w u p r
goes_on driven path m w v u p q r same level h f =
    goes_both driven path m w v u p q r same.within h
    (f (subst (λ n. IsLevel driven q.levels v.level path n) (sym same.within) (subst (λ x. IsLevel driven q.levels x path w.module) (sym same.level)
    (level_on driven p.levels q.levels h.grows.more_levels h.grows.levels w.level path w.module level))))

-- it ends
pub visits : (driven : DrivenCircuit) (path : List ℕ) (level : Level) (m : DrivenModule) (w v : Walk) (p p' q r : Plan) → slice_get driven.modules level.module ≡ Some m
    → length p.tables ≡ length p.levels → p' ≡ record p { levels = p.levels ++ level ∷ []; tables = p.tables ++ [] ∷ [] } → w.level ≡ length p.levels → w.module ≡ level.module
    → w.numbers ≡ [] → w.memory ≡ 0 → w.instance ≡ 0 → SameWalk w v → IsGoing driven m v q → left_of m v ≡ 0 → r ≡ record q { tables = set q.tables v.level v.numbers }
    → Begins driven p.levels path level → (IsLevel driven p'.levels w.level path w.module → GoesOn driven path m w v p' q) → Visits driven path level p r
visits driven path level m w v p p' q r found counted began at_level at_module no_numbers no_memory no_instance same going none is begins f =
    subst (λ x. Visits driven path level p x) (sym is)
    (visit_ends driven path level m w v p p' q found counted began at_level at_module no_numbers no_memory no_instance same.level all_leaves
    (slice_get_past m.memories v.memory (omega (arith, none))) (slice_get_past m.instances v.instance (omega (arith, none))) begins (f is_level))
  where
    all_leaves : length m.leaves ≡ length v.numbers
    all_leaves = omega (arith, none, going.fair.within)

    levels : p'.levels ≡ p.levels ++ level ∷ []
    levels = ap (λ (x : Plan). x.levels) began

    is_level : IsLevel driven p'.levels w.level path w.module
    is_level = record {
      level = level;
      there = let z : w.level ≡ length p.levels + 0 = omega (arith, at_level) in
          ap (λ l. slice_get l w.level) levels ∙ (ap (slice_get (p.levels ++ level ∷ [])) z ∙ get_right p.levels (level ∷ []) 0);
      begins = begins_on driven p.levels p'.levels (level ∷ []) levels path level begins;
      is = sym at_module;
    }

pub is_longer : (driven : DrivenCircuit) (m : DrivenModule) (w v : Walk) (p q r : Plan) → w.level ≡ length p.levels → SameWalk w v → IsGoing driven m v q
    → r ≡ record q { tables = set q.tables v.level v.numbers } → IsLonger p r
is_longer driven m w v p q r at_level same going is = subst (λ x. IsLonger p x) (sym is) (record {
  counted = length-set q.tables v.level v.numbers ∙ going.counted;
  more = omega (arith, at_level, same.level, going.level);
})

-- Main is sound

reached_there : {driven : DrivenCircuit} {n : ℕ} → HasInstances driven → Reaches driven n → (m : DrivenModule) × (slice_get driven.modules n ≡ Some m)
reached_there h itself = (h.main, h.found)
reached_there h (along {n = n} i m gi r found e) = let place = (h.in_turn n m r found).instances i gi e in (place.child, place.there)

sound_at : {driven : DrivenCircuit} (h : HasInstances driven) (left n : ℕ) → Reaches driven n → h.rank n < left → IsSound driven n left
sound_at h zero n r lt = absurd (omega arith)
sound_at h (suc left) n r lt =
    let t = reached_there h r in
    sound t.0 t.1 (h.in_turn n t.0 r t.1) (λ i gi e. sound_at h left gi.module (along i t.0 gi r t.1 e) (omega (arith, h.falls n i t.0 gi r t.1 e, lt)))

pub main_is_sound : (driven : DrivenCircuit) → HasInstances driven → IsSound driven driven.main (length driven.modules)
main_is_sound driven h = sound_at h (length driven.modules) driven.main itself (h.ranked driven.main itself)

-- a whole run was planned
pub planned : (driven : DrivenCircuit) (level : Level) (p q : Plan) → level.module ≡ driven.main → p.levels ≡ [] → p.leaves ≡ [] → p.memories ≡ [] → Visits driven [] level p q → IsPlan driven q
planned driven level p q is no_levels no_leaves no_memories v = record {
  main = v.m;
  found = ap (slice_get driven.modules) (sym is) ∙ v.found;
  items = v.own;
  order = subst (λ n. InFlatOrder driven [] n v.m 0 0 0 v.own) is v.order;
  leaf_sites = subst (OneByOne (IsLeafSite driven q.levels) (leaf_spots v.own)) (sym (v.grows.leaves ∙ ap (λ l. l ++ v.grows.more_leaves) no_leaves)) v.grows.leaf_sites;
  memory_sites = subst (OneByOne (IsMemorySite driven q.levels) (memories_from 0 v.own)) (sym (v.grows.memories ∙ ap (λ l. l ++ v.grows.more_memories) no_memories))
      (subst (λ l. OneByOne (IsMemorySite driven q.levels) (memories_from (length l) v.own) v.grows.more_memories) no_leaves v.grows.memory_sites);
  counted = v.grows.counted;
  tables = λ x table e. v.grows.tables x table (let z : length p.levels ≡ 0 = ap length no_levels in omega (arith, z)) e;
}

-- The module of an instance

pub sound_below : (driven : DrivenCircuit) (n left i : ℕ) (m : DrivenModule) (gi : GroundInstance) → IsSound driven n left → slice_get driven.modules n ≡ Some m → slice_get m.instances i ≡ Some gi
    → IsSound driven gi.module (left - 1)
sound_below driven n left i m gi h found there =
    let it = sound_module h in
    it.below i gi (ap (λ (x : DrivenModule). slice_get x.instances i) (some_same (sym it.found ∙ found)) ∙ there)

pub sound_in_turn : (driven : DrivenCircuit) (n left : ℕ) (m : DrivenModule) → IsSound driven n left → slice_get driven.modules n ≡ Some m → IsInTurn driven m
sound_in_turn driven n left m h found = let it = sound_module h in subst (IsInTurn driven) (some_same (sym it.found ∙ found)) it.in_turn

-- the instance that is read stands next
pub instance_read : (m : DrivenModule) (w : Walk) (xs : List GroundInstance) (x : GroundInstance) → IsSome (instance_next m w) → xs ≡ m.instances → x ≡ get_or xs w.instance x → instance_next m w ≡ Some x
instance_read m w xs x h same is =
    let gi = some_by (instance_next m w) h in
    let there : slice_get m.instances w.instance ≡ Some gi.0 = (is_here m (length w.numbers) w.memory w.instance gi.0 gi.1).there in
    gi.1 ∙ ap (λ z. Some z) (sym (is ∙ (ap (λ l. get_or l w.instance x) same ∙ get_or_from_slice_get m.instances w.instance gi.0 x there)))
