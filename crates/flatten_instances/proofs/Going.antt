-- What was planned stays as the plan grows.
use Rattle.std.proofs.Common.{◌≡◌, ℕ, ◌+◌, ◌<◌, ◌≤◌, Bool, true, false, List, [], ◌++◌, length, refl, sym, ap, ◌∙◌, subst, arith, append_assoc, append-nil, length-append, nat_lt, ◌⊎◌, inl, inr, Some, slice_get}
use Rattle.std.proofs.lemmas.Bool.Decides.{nat_tests}
use Rattle.std.proofs.lemmas.Option.{slice_get_within}
use Rattle.ground_net.specs.declared.circuit.DrivenCircuit.{DrivenCircuit}
use Rattle.ground_net.specs.declared.circuit.DrivenModule.{DrivenModule}
use Rattle.flatten_instances.specs.declared.plan.Level.{Level}
use Rattle.flatten_instances.specs.declared.plan.Site.{Site}
use Rattle.flatten_instances.specs.declared.plan.MemorySite.{MemorySite}
use Rattle.flatten_instances.specs.declared.plan.Plan.{Plan}
use Rattle.flatten_instances.specs.declared.walk.Walk.{Walk}
use Rattle.flatten_instances.specs.FlatOrder.{Spot, Item, InFlatOrder, leaf_spots, memories_from}
use Rattle.flatten_instances.specs.Numbers.{StandsAt}
use Rattle.flatten_instances.specs.Flat.{OneByOne}
use Rattle.flatten_instances.specs.Plans.{Begins, at_main, inside, IsLevel, IsLeafSite, IsMemorySite, HasSite, Numbers, IsTable, Grows, GoesOn}
use Rattle.flatten_instances.proofs.Lists.{get_left, get_split, none_by_none, both_by_both, weaker_by}
use Rattle.flatten_instances.proofs.Orders.{leaf_spots-append, memories_from-append}

below_or_not : (b : Bool) → (b ≡ true) ⊎ (b ≡ false)
below_or_not true = inl refl
below_or_not false = inr refl

begins_more : {driven : DrivenCircuit} {levels : List Level} {path : List ℕ} {level : Level} (more : List Level) → Begins driven levels path level → Begins driven (levels ++ more) path level
begins_more more (at_main a b c) = at_main a b c
begins_more {levels = levels} more (inside holder outer m gi a b begins c d e f g) = inside holder outer m gi a (get_left levels more holder.level outer b) (begins_more more begins) c d e f g

module _ (driven : DrivenCircuit) (levels levels' more : List Level) (grown : levels' ≡ levels ++ more) where
  pub begins_on : (path : List ℕ) (level : Level) → Begins driven levels path level → Begins driven levels' path level
  begins_on path level h = subst (λ ls. Begins driven ls path level) (sym grown) (begins_more more h)

  pub level_on : (q : ℕ) (path : List ℕ) (n : ℕ) → IsLevel driven levels q path n → IsLevel driven levels' q path n
  level_on q path n h = record {
    level = h.level;
    there = subst (λ ls. slice_get ls q ≡ Some h.level) (sym grown) (get_left levels more q h.level h.there);
    begins = begins_on path h.level h.begins;
    is = h.is;
  }

  pub leaf_site_on : (s : Spot) (site : Site) → IsLeafSite driven levels s site → IsLeafSite driven levels' s site
  leaf_site_on s site h = record { level = level_on site.level s.path s.within h.level; number = h.number; leaf = h.leaf; is = h.is }

  pub memory_site_on : (both : ℕ × Spot) (site : MemorySite) → IsMemorySite driven levels both site → IsMemorySite driven levels' both site
  memory_site_on both site h = record {
    level = level_on site.level both.1.path both.1.within h.level;
    number = h.number;
    before = h.before;
    m = h.m;
    found = h.found;
    memory = h.memory;
    there = h.there;
  }

  module _ (leaves leaves' more_leaves : List Site) (longer : leaves' ≡ leaves ++ more_leaves) where
    pub site_on : (x : ℕ) (s : Spot) → HasSite driven levels leaves x s → HasSite driven levels' leaves' x s
    site_on x s h = record {
      site = h.site;
      there = subst (λ l. slice_get l x ≡ Some h.site) (sym longer) (get_left leaves more_leaves x h.site h.there);
      is = leaf_site_on s h.site h.is;
    }

    pub numbers_on : (path : List ℕ) (n : ℕ) (m : DrivenModule) (y : ℕ) (numbers : List ℕ) → Numbers driven levels leaves path n m y numbers → Numbers driven levels' leaves' path n m y numbers
    numbers_on path n m y numbers h j x e = let r = h j x e in (r.0, r.1, site_on x r.0 r.2)

    pub table_on : (q : ℕ) (table : List ℕ) → IsTable driven levels leaves q table → IsTable driven levels' leaves' q table
    table_on q table h = record {
      path = h.path;
      n = h.n;
      level = level_on q h.path h.n h.level;
      m = h.m;
      found = h.found;
      counted = h.counted;
      numbers = numbers_on h.path h.n h.m 0 table h.numbers;
    }

-- no items
pub grows_none : (driven : DrivenCircuit) (p : Plan) → length p.tables ≡ length p.levels → Grows driven [] p p
grows_none driven p counted = record {
  more_levels = [];
  levels = sym (append-nil p.levels);
  more_leaves = [];
  leaves = sym (append-nil p.leaves);
  leaf_sites = none_by_none (IsLeafSite driven p.levels);
  more_memories = [];
  memories = sym (append-nil p.memories);
  memory_sites = none_by_none (IsMemorySite driven p.levels);
  counted = counted;
  kept = λ q lt. refl;
  tables = λ q table ge e. absurd (omega (arith, slice_get_within p.tables q table e, counted));
}

-- some items, and then others
pub grows_both : (driven : DrivenCircuit) (a b : List Item) (p q r : Plan) → Grows driven a p q → Grows driven b q r → Grows driven (a ++ b) p r
grows_both driven a b p q r h g = record {
  more_levels = h.more_levels ++ g.more_levels;
  levels = joins p.levels q.levels r.levels h.more_levels g.more_levels h.levels g.levels;
  more_leaves = h.more_leaves ++ g.more_leaves;
  leaves = joins p.leaves q.leaves r.leaves h.more_leaves g.more_leaves h.leaves g.leaves;
  leaf_sites = subst (λ l. OneByOne (IsLeafSite driven r.levels) l (h.more_leaves ++ g.more_leaves)) (sym (leaf_spots-append a b))
      (both_by_both (IsLeafSite driven r.levels) (leaf_spots a) (leaf_spots b) h.more_leaves g.more_leaves
      (weaker_by (IsLeafSite driven q.levels) (IsLeafSite driven r.levels) (leaf_spots a) h.more_leaves (leaf_site_on driven q.levels r.levels g.more_levels g.levels) h.leaf_sites) g.leaf_sites);
  more_memories = h.more_memories ++ g.more_memories;
  memories = joins p.memories q.memories r.memories h.more_memories g.more_memories h.memories g.memories;
  memory_sites = subst (λ l. OneByOne (IsMemorySite driven r.levels) l (h.more_memories ++ g.more_memories)) (sym (memories_from-append (length p.leaves) a b))
      (both_by_both (IsMemorySite driven r.levels) (memories_from (length p.leaves) a) (memories_from (length p.leaves + length (leaf_spots a)) b) h.more_memories g.more_memories
      (weaker_by (IsMemorySite driven q.levels) (IsMemorySite driven r.levels) (memories_from (length p.leaves) a) h.more_memories (memory_site_on driven q.levels r.levels g.more_levels g.levels) h.memory_sites)
      (subst (λ n. OneByOne (IsMemorySite driven r.levels) (memories_from n b) g.more_memories) before g.memory_sites));
  counted = g.counted;
  kept = λ x lt. g.kept x (omega (arith, lt, longer)) ∙ h.kept x lt;
  tables = λ x table ge e. at x table ge e (below_or_not (nat_lt x (length q.levels)));
}
  where
    joins : {A : Type 0} (xs ys zs us vs : List A) → ys ≡ xs ++ us → zs ≡ ys ++ vs → zs ≡ xs ++ (us ++ vs)
    joins xs ys zs us vs e f = f ∙ (ap (λ l. l ++ vs) e ∙ append_assoc xs us vs)

    longer : length q.levels ≡ length p.levels + length h.more_levels
    longer = ap length h.levels ∙ length-append p.levels h.more_levels

    before : length q.leaves ≡ length p.leaves + length (leaf_spots a)
    before = ap length h.leaves ∙ (length-append p.leaves h.more_leaves ∙ ap (λ n. length p.leaves + n) h.leaf_sites.counted)

    is_below : (x n : ℕ) → nat_lt x n ≡ true → x < n
    is_below x n e = grind (arith, nat_tests)

    is_above : (x n : ℕ) → nat_lt x n ≡ false → n ≤ x
    is_above x n e = grind (arith, nat_tests)

    at : (x : ℕ) (table : List ℕ) → length p.levels ≤ x → slice_get r.tables x ≡ Some table → (nat_lt x (length q.levels) ≡ true) ⊎ (nat_lt x (length q.levels) ≡ false) → IsTable driven r.levels r.leaves x table
    at x table ge e (inl b) =
        let old : slice_get q.tables x ≡ Some table = sym (g.kept x (is_below x (length q.levels) b)) ∙ e in
        table_on driven q.levels r.levels g.more_levels g.levels q.leaves r.leaves g.more_leaves g.leaves x table (h.tables x table ge old)
    at x table ge e (inr b) = g.tables x table (is_above x (length q.levels) b) e

-- a walk that stays, and one that goes on and then goes on
pub goes_none : (driven : DrivenCircuit) (path : List ℕ) (m : DrivenModule) (w : Walk) (p : Plan) → length p.tables ≡ length p.levels → GoesOn driven path m w w p p
goes_none driven path m w p counted = record {
  items = [];
  onward = λ rest h. h;
  grows = grows_none driven p counted;
  more = [];
  numbers = sym (append-nil w.numbers);
  numbered = λ j x e. cc;
}

pub goes_both : (driven : DrivenCircuit) (path : List ℕ) (m : DrivenModule) (w v u : Walk) (p q r : Plan) → v.module ≡ w.module → GoesOn driven path m w v p q → GoesOn driven path m v u q r
    → GoesOn driven path m w u p r
goes_both driven path m w v u p q r same h g = record {
  items = h.items ++ g.items;
  onward = λ rest o. subst (InFlatOrder driven path w.module m (length w.numbers) w.memory w.instance) (sym (append_assoc h.items g.items rest))
      (h.onward (g.items ++ rest) (subst (λ n. InFlatOrder driven path n m (length v.numbers) v.memory v.instance (g.items ++ rest)) same
      (g.onward rest (subst (λ n. InFlatOrder driven path n m (length u.numbers) u.memory u.instance rest) (sym same) o))));
  grows = grows_both driven h.items g.items p q r h.grows g.grows;
  more = h.more ++ g.more;
  numbers = g.numbers ∙ (ap (λ l. l ++ g.more) h.numbers ∙ append_assoc w.numbers h.more g.more);
  numbered = λ j x e. at j x (get_split h.more g.more j x e);
}
  where
    at : (j x : ℕ) → (slice_get h.more j ≡ Some x) ⊎ ((k : ℕ) × (j ≡ length h.more + k) × (slice_get g.more k ≡ Some x))
        → (s : Spot) × StandsAt driven path w.module m (length w.numbers + j) s × HasSite driven r.levels r.leaves x s
    at j x (inl a) =
        let o = h.numbered j x a in
        (o.0, o.1, site_on driven q.levels r.levels g.grows.more_levels g.grows.levels q.leaves r.leaves g.grows.more_leaves g.grows.leaves x o.0 o.2)
    at j x (inr b) =
        let o = g.numbered b.0 x b.2 in
        let place : length v.numbers + b.0 ≡ length w.numbers + j = omega (arith, ap length h.numbers, length-append w.numbers h.more, b.1) in
        (o.0, subst (λ y. StandsAt driven path w.module m y o.0) place (subst (λ n. StandsAt driven path n m (length v.numbers + b.0) o.0) same o.1), o.2)
