-- What each step of a walk adds.
use Rattle.std.proofs.Common.{◌≡◌, ℕ, zero, suc, ◌+◌, ◌-◌, ◌<◌, ◌≤◌, ◌≢◌, List, [], ◌∷◌, ◌++◌, length, refl, sym, ap, ◌∙◌, subst, arith, append_assoc, append-nil, length-append, Some, None, slice_get, set, nat_eq, Bool, true, false}
use Rattle.std.specs.List.{range_with_len}
use Rattle.std.proofs.lemmas.Bool.{eqb-true, eqb-false}
use Rattle.std.proofs.lemmas.List.{length-set}
use Rattle.std.proofs.lemmas.Option.{slice_get_within}
use Rattle.ground_net.specs.declared.circuit.DrivenCircuit.{DrivenCircuit}
use Rattle.ground_net.specs.declared.circuit.DrivenModule.{DrivenModule}
use Rattle.ground_net.specs.declared.circuit.GroundInstance.{GroundInstance}
use Rattle.ground_net.specs.declared.circuit.GroundLeaf.{GroundLeaf}
use Rattle.ground_net.specs.declared.circuit.GroundMemory.{GroundMemory}
use Rattle.flatten_instances.specs.declared.plan.Level.{Level}
use Rattle.flatten_instances.specs.declared.plan.Site.{Site}
use Rattle.flatten_instances.specs.declared.plan.MemorySite.{MemorySite}
use Rattle.flatten_instances.specs.declared.plan.Plan.{Plan}
use Rattle.flatten_instances.specs.declared.walk.Walk.{Walk}
use Rattle.flatten_instances.specs.Instances.{IsInTurn}
use Rattle.flatten_instances.specs.FlatOrder.{Spot, spot, A_leaf, A_memory, InFlatOrder, no_more, an_instance, a_memory, a_leaf, leaf_spots, memories_from}
use Rattle.flatten_instances.specs.Numbers.{StandsAt, its_own, of_instance}
use Rattle.flatten_instances.specs.Flat.{OneByOne}
use Rattle.flatten_instances.specs.Plans.{IsSound, sound, Begins, inside, IsLevel, IsLeafSite, IsMemorySite, HasSite, IsTable, Visits, GoesOn, instance_next, memory_next}
use Rattle.flatten_instances.proofs.Lists.{some_same, get_left, get_right, get_range, length_range, get_there, none_by_none, one_by_one, partner_of}
use Rattle.flatten_instances.proofs.Orders.{Here, is_here, is_memory_here, ports_come_first}
use Rattle.flatten_instances.proofs.Going.{begins_on}

module _ (driven : DrivenCircuit) (path : List ℕ) (m : DrivenModule) (w : Walk) (p : Plan) (level : IsLevel driven p.levels w.level path w.module)
    (found : slice_get driven.modules w.module ≡ Some m) (counted : length p.tables ≡ length p.levels) where
  -- a leaf
  pub goes_leaf : (leaf : GroundLeaf) (site : Site) (number : ℕ) (numbers : List ℕ) (leaves : List Site) → instance_next m w ≡ None → memory_next m w ≡ None
      → slice_get m.leaves (length w.numbers) ≡ Some leaf → site.level ≡ w.level → site.number ≡ length w.numbers → number ≡ length p.leaves
      → leaves ≡ p.leaves ++ site ∷ [] → numbers ≡ w.numbers ++ number ∷ [] → GoesOn driven path m w (record w { numbers = numbers }) p (record p { leaves = leaves })
  goes_leaf leaf site number numbers leaves none none' there at_level at_number is_number grown longer = record {
    items = A_leaf (spot path w.module (length w.numbers)) ∷ [];
    onward = λ rest h. a_leaf leaf none none' there (subst (λ y. InFlatOrder driven path w.module m y w.memory w.instance rest) len h);
    grows = record {
      more_levels = [];
      levels = sym (append-nil p.levels);
      more_leaves = site ∷ [];
      leaves = grown;
      leaf_sites = one_by_one (IsLeafSite driven p.levels) (spot path w.module (length w.numbers)) site (mine (length w.numbers) refl);
      more_memories = [];
      memories = sym (append-nil p.memories);
      memory_sites = none_by_none (IsMemorySite driven p.levels);
      counted = counted;
      kept = λ q lt. refl;
      tables = λ q table ge e. absurd (omega (arith, slice_get_within p.tables q table e, counted));
    };
    more = number ∷ [];
    numbers = longer;
    numbered = at;
  }
    where
      len : length numbers ≡ length w.numbers + 1
      len = ap length longer ∙ length-append w.numbers (number ∷ [])

      mine : (y : ℕ) → y ≡ length w.numbers → IsLeafSite driven p.levels (spot path w.module y) site
      mine y e = record {
        level = subst (λ q. IsLevel driven p.levels q path w.module) (sym at_level) level;
        number = e ∙ sym at_number;
        leaf = leaf;
        is = record { m = m; found = found; there = ap (slice_get m.leaves) e ∙ there };
      }

      site_there : (x : ℕ) → x ≡ length p.leaves → slice_get leaves x ≡ Some site
      site_there x e =
          let z : x ≡ length p.leaves + 0 = omega (arith, e) in
          ap (λ l. slice_get l x) grown ∙ (ap (slice_get (p.leaves ++ site ∷ [])) z ∙ get_right p.leaves (site ∷ []) 0)

      at : (j x : ℕ) → slice_get (number ∷ []) j ≡ Some x → (s : Spot) × StandsAt driven path w.module m (length w.numbers + j) s × HasSite driven p.levels leaves x s
      at zero x e =
          let is : x ≡ length p.leaves = sym (some_same e) ∙ is_number in
          (spot path w.module (length w.numbers + 0), its_own, record { site = site; there = site_there x is; is = mine (length w.numbers + 0) (omega arith) })
      at (suc j) x e = cc

  -- a memory
  pub goes_memory : (memory : GroundMemory) (site : MemorySite) (memories : List MemorySite) → instance_next m w ≡ None → memory_next m w ≡ Some memory
      → site.level ≡ w.level → site.number ≡ w.memory → site.before ≡ length p.leaves → memories ≡ p.memories ++ site ∷ []
      → GoesOn driven path m w (record w { memory = w.memory + 1 }) p (record p { memories = memories })
  goes_memory memory site memories none here at_level at_number at_before grown = record {
    items = A_memory (spot path w.module w.memory) ∷ [];
    onward = λ rest h. a_memory memory none here h;
    grows = record {
      more_levels = [];
      levels = sym (append-nil p.levels);
      more_leaves = [];
      leaves = sym (append-nil p.leaves);
      leaf_sites = none_by_none (IsLeafSite driven p.levels);
      more_memories = site ∷ [];
      memories = grown;
      memory_sites = one_by_one (IsMemorySite driven p.levels) (length p.leaves, spot path w.module w.memory) site (record {
        level = subst (λ q. IsLevel driven p.levels q path w.module) (sym at_level) level;
        number = sym at_number;
        before = sym at_before;
        m = m;
        found = found;
        memory = memory;
        there = (is_memory_here m (length w.numbers) w.memory memory here).0;
      });
      counted = counted;
      kept = λ q lt. refl;
      tables = λ q table ge e. absurd (omega (arith, slice_get_within p.tables q table e, counted));
    };
    more = [];
    numbers = sym (append-nil w.numbers);
    numbered = λ j x e. cc;
  }

  -- an instance
  pub goes_instance : (gi : GroundInstance) (child : DrivenModule) (base : ℕ) (inner : Level) (numbers : List ℕ) (q : Plan) → instance_next m w ≡ Some gi
      → slice_get driven.modules gi.module ≡ Some child → IsInTurn driven child → inner.module ≡ gi.module → base ≡ length p.leaves → numbers ≡ w.numbers ++ range_with_len base child.ports
      → Visits driven (w.instance ∷ path) inner p q → GoesOn driven path m w (record w { numbers = numbers; instance = w.instance + 1 }) p q
  goes_instance gi child base inner numbers q here there turn at_module is_base longer v = record {
    items = v.own;
    onward = λ rest h. an_instance gi child here there order (subst (λ y. InFlatOrder driven path w.module m y w.memory (w.instance + 1) rest) len h);
    grows = v.grows;
    more = range_with_len base child.ports;
    numbers = longer;
    numbered = at;
  }
    where
      mine : Here m (length w.numbers) w.memory w.instance gi
      mine = is_here m (length w.numbers) w.memory w.instance gi here

      len : length numbers ≡ length w.numbers + child.ports
      len = ap length longer ∙ (length-append w.numbers (range_with_len base child.ports) ∙ ap (λ n. length w.numbers + n) (length_range base child.ports))

      same : v.m ≡ child
      same = some_same (sym v.found ∙ (ap (slice_get driven.modules) at_module ∙ there))

      order : InFlatOrder driven (w.instance ∷ path) gi.module child 0 0 0 v.own
      order = subst (λ c. InFlatOrder driven (w.instance ∷ path) gi.module c 0 0 0 v.own) same (subst (λ n. InFlatOrder driven (w.instance ∷ path) n v.m 0 0 0 v.own) at_module v.order)

      at : (j x : ℕ) → slice_get (range_with_len base child.ports) j ≡ Some x → (s : Spot) × StandsAt driven path w.module m (length w.numbers + j) s × HasSite driven q.levels q.leaves x s
      at j x e =
          let r = get_range base child.ports j x e in
          let first : slice_get (leaf_spots v.own) j ≡ Some (spot (w.instance ∷ path) gi.module (0 + j)) = ports_come_first turn order j (omega (arith, r.0)) in
          let zero_plus : 0 + j ≡ j = omega arith in
          let first' : slice_get (leaf_spots v.own) j ≡ Some (spot (w.instance ∷ path) gi.module j) = first ∙ ap (λ y. Some (spot (w.instance ∷ path) gi.module y)) zero_plus in
          let site = partner_of (IsLeafSite driven q.levels) (leaf_spots v.own) v.grows.more_leaves j (spot (w.instance ∷ path) gi.module j) v.grows.leaf_sites first' in
          let place : x ≡ length p.leaves + j = omega (arith, r.1, is_base) in (
            spot (w.instance ∷ path) gi.module j,
            subst (λ y. StandsAt driven path w.module m (y + j) (spot (w.instance ∷ path) gi.module j)) mine.first (of_instance j gi child mine.there there r.0),
            record {
              site = site.0;
              there = ap (λ l. slice_get l x) v.grows.leaves ∙ (ap (slice_get (p.leaves ++ v.grows.more_leaves)) place ∙ (get_right p.leaves v.grows.more_leaves j ∙ site.1));
              is = site.2;
            },
          )

-- The level of an instance begins at its path.
pub begins_inside : (driven : DrivenCircuit) (levels : List Level) (path : List ℕ) (m : DrivenModule) (w : Walk) (gi : GroundInstance) (inner : Level)
    → IsLevel driven levels w.level path w.module → slice_get driven.modules w.module ≡ Some m → slice_get m.instances w.instance ≡ Some gi → inner.module ≡ gi.module
    → inner.holder ≡ Some (record { level = w.level; instance = w.instance; first = gi.first })
    → ((outer : Level) → slice_get levels w.level ≡ Some outer → inner.prefix ≡ outer.prefix ++ (gi.name ++ 46 ∷ [])) → Begins driven levels (w.instance ∷ path) inner
begins_inside driven levels path m w gi inner level found there at_module holder prefix =
    inside (record { level = w.level; instance = w.instance; first = gi.first }) level.level m gi holder level.there level.begins (ap (slice_get driven.modules) level.is ∙ found) there at_module refl
    (prefix level.level level.there)

-- Sound modules

pub record SoundModule (driven : DrivenCircuit) (n left : ℕ) : Type 0 where
  pub m : DrivenModule
  pub found : slice_get driven.modules n ≡ Some m
  pub in_turn : IsInTurn driven m
  pub more : 0 < left
  pub below : (i : ℕ) (gi : GroundInstance) → slice_get m.instances i ≡ Some gi → IsSound driven gi.module (left - 1)

pub sound_module : {driven : DrivenCircuit} {n left : ℕ} → IsSound driven n left → SoundModule driven n left
sound_module {driven} (sound {left = left} m found turn below) = record {
  m = m;
  found = found;
  in_turn = turn;
  more = omega arith;
  below = λ i gi e. let one : left ≡ suc left - 1 = omega arith in subst (λ k. IsSound driven gi.module k) one (below i gi e);
}

-- A visit ends

-- reading what was set
pub get_set_same : {A : Type 0} (xs : List A) (k : ℕ) (x : A) → k < length xs → slice_get (set xs k x) k ≡ Some x
get_set_same [] k x lt = absurd (omega arith)
get_set_same (y ∷ ys) zero x lt = refl
get_set_same (y ∷ ys) (suc k) x lt = get_set_same ys k x (omega arith)

pub get_set_other : {A : Type 0} (xs : List A) (k j : ℕ) (x : A) → j ≢ k → slice_get (set xs k x) j ≡ slice_get xs j
get_set_other [] k j x ne = refl
get_set_other (y ∷ ys) zero zero x ne = absurd (ne refl)
get_set_other (y ∷ ys) zero (suc j) x ne = refl
get_set_other (y ∷ ys) (suc k) zero x ne = refl
get_set_other (y ∷ ys) (suc k) (suc j) x ne = get_set_other ys k j x (λ e. ne (ap suc e))

-- the level was added, the walk went through the module, and its numbers were kept
pub visit_ends : (driven : DrivenCircuit) (path : List ℕ) (level : Level) (m : DrivenModule) (w v : Walk) (p p' q : Plan) → slice_get driven.modules level.module ≡ Some m
    → length p.tables ≡ length p.levels → p' ≡ record p { levels = p.levels ++ level ∷ []; tables = p.tables ++ [] ∷ [] } → w.level ≡ length p.levels → w.module ≡ level.module
    → w.numbers ≡ [] → w.memory ≡ 0 → w.instance ≡ 0 → v.level ≡ w.level → length m.leaves ≡ length v.numbers → slice_get m.memories v.memory ≡ None → slice_get m.instances v.instance ≡ None
    → Begins driven p.levels path level → GoesOn driven path m w v p' q → Visits driven path level p (record q { tables = set q.tables v.level v.numbers })
visit_ends driven path level m w v p p' q found counted began at_level at_module no_numbers no_memory no_instance same_level all_leaves all_memories all_instances begins g = record {
  m = m;
  found = found;
  own = g.items;
  order = order;
  grows = record {
    more_levels = level ∷ g.grows.more_levels;
    levels = levels_are;
    more_leaves = g.grows.more_leaves;
    leaves = g.grows.leaves ∙ ap (λ l. l ++ g.grows.more_leaves) (ap (λ (x : Plan). x.leaves) began);
    leaf_sites = g.grows.leaf_sites;
    more_memories = g.grows.more_memories;
    memories = g.grows.memories ∙ ap (λ l. l ++ g.grows.more_memories) (ap (λ (x : Plan). x.memories) began);
    memory_sites = subst (λ (x : Plan). OneByOne (IsMemorySite driven q.levels) (memories_from (length x.leaves) g.items) g.grows.more_memories) began g.grows.memory_sites;
    counted = length-set q.tables v.level v.numbers ∙ g.grows.counted;
    kept = λ x lt.
        let less : x < length p'.levels = omega (arith, lt, more_by_one) in
        let ne : x ≢ v.level = omega (arith, lt, number_is) in
        get_set_other q.tables v.level x v.numbers ne ∙ (g.grows.kept x less ∙ (ap (λ (t : Plan). slice_get t.tables x) began ∙ old_table x (omega (arith, lt, counted))));
    tables = λ x table ge e. at x table ge e (nat_eq x v.level) refl;
  };
}
  where
    levels_are : q.levels ≡ p.levels ++ (level ∷ g.grows.more_levels)
    levels_are = g.grows.levels ∙ (ap (λ (x : Plan). x.levels ++ g.grows.more_levels) began ∙ append_assoc p.levels (level ∷ []) g.grows.more_levels)

    more_by_one : length p'.levels ≡ length p.levels + 1
    more_by_one = ap (λ (x : Plan). length x.levels) began ∙ length-append p.levels (level ∷ [])

    number_is : v.level ≡ length p.levels
    number_is = same_level ∙ at_level

    old_table : (x : ℕ) → x < length p.tables → slice_get (p.tables ++ [] ∷ []) x ≡ slice_get p.tables x
    old_table x lt = let t = get_there p.tables x lt in get_left p.tables ([] ∷ []) x t.0 t.1 ∙ sym t.1

    order : InFlatOrder driven path level.module m 0 0 0 g.items
    order =
        let ended : slice_get m.leaves (length v.numbers) ≡ None = past m.leaves (length v.numbers) all_leaves in
        let whole = g.onward [] (no_more ended all_memories all_instances) in
        subst (λ l. InFlatOrder driven path level.module m 0 0 0 l) (append-nil g.items)
        (subst (λ n. InFlatOrder driven path n m 0 0 0 (g.items ++ [])) at_module
        (subst (λ i. InFlatOrder driven path w.module m 0 0 i (g.items ++ [])) no_instance
        (subst (λ k. InFlatOrder driven path w.module m 0 k w.instance (g.items ++ [])) no_memory
        (subst (λ l. InFlatOrder driven path w.module m (length l) w.memory w.instance (g.items ++ [])) no_numbers whole))))
      where
        past : {A : Type 0} (xs : List A) (k : ℕ) → length xs ≡ k → slice_get xs k ≡ None
        past [] k e = refl
        past (x ∷ xs) zero e = absurd (omega arith)
        past (x ∷ xs) (suc k) e = past xs k (omega arith)

    level_there : slice_get q.levels v.level ≡ Some level
    level_there =
        let z : v.level ≡ length p.levels + 0 = omega (arith, number_is) in
        ap (λ l. slice_get l v.level) levels_are ∙ (ap (slice_get (p.levels ++ (level ∷ g.grows.more_levels))) z ∙ get_right p.levels (level ∷ g.grows.more_levels) 0)

    mine : IsTable driven q.levels q.leaves v.level v.numbers
    mine = record {
      path = path;
      n = w.module;
      level = record { level = level; there = level_there; begins = begins_on driven p.levels q.levels (level ∷ g.grows.more_levels) levels_are path level begins; is = sym at_module };
      m = m;
      found = ap (slice_get driven.modules) at_module ∙ found;
      counted = sym all_leaves;
      numbers = λ j x e. numbered j x (subst (λ l. slice_get l j ≡ Some x) all_numbers e);
    }
      where
        all_numbers : v.numbers ≡ g.more
        all_numbers = g.numbers ∙ ap (λ l. l ++ g.more) no_numbers

        numbered : (j x : ℕ) → slice_get g.more j ≡ Some x → (s : Spot) × StandsAt driven path w.module m (0 + j) s × HasSite driven q.levels q.leaves x s
        numbered j x e = let r = g.numbered j x e in (r.0, subst (λ l. StandsAt driven path w.module m (length l + j) r.0) no_numbers r.1, r.2)

    at : (x : ℕ) (table : List ℕ) → length p.levels ≤ x → slice_get (set q.tables v.level v.numbers) x ≡ Some table → (b : Bool) → nat_eq x v.level ≡ b → IsTable driven q.levels q.leaves x table
    at x table ge e true same =
        let is : x ≡ v.level = eqb-true x v.level same in
        let within : v.level < length q.tables = omega (arith, slice_get_within (set q.tables v.level v.numbers) x table e, length-set q.tables v.level v.numbers, is) in
        let here : v.numbers ≡ table = some_same (sym (get_set_same q.tables v.level v.numbers within) ∙ (ap (slice_get (set q.tables v.level v.numbers)) (sym is) ∙ e)) in
        subst (λ t. IsTable driven q.levels q.leaves x t) here (subst (λ y. IsTable driven q.levels q.leaves y v.numbers) (sym is) mine)
    at x table ge e false other =
        let ne : x ≢ v.level = eqb-false x v.level other in
        g.grows.tables x table (omega (arith, ge, ne, number_is, more_by_one)) (sym (get_set_other q.tables v.level x v.numbers ne) ∙ e)
