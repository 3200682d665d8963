-- Places in lists, and which declarations they are.
use Rattle.std.proofs.Common.{◌≡◌, ℕ, zero, suc, ◌+◌, ◌<◌, ◌≤◌, ◌&&◌, Bool, true, false, not, nat_lt, List, [], ◌∷◌, ◌++◌, map, length, take, slice_get, Some, refl, sym, ap, ap₂, ◌∙◌, subst, arith, ◌⊎◌, inl, inr}
use Rattle.std.specs.List.{sum_by, flat_map}
use Rattle.std.proofs.lemmas.Grind.{common_steps}
use Rattle.std.proofs.lemmas.Bool.{ltb-true, ltb-false}
use Rattle.std.proofs.lemmas.List.{length-map}
use Rattle.std.proofs.lemmas.List.Sums.{sum_by-cons}
use Rattle.std.proofs.lemmas.List.Concat.{flat_map-cons}
use Rattle.fir_types.specs.declared.leaf.TypeLeaf.{TypeLeaf}
use Rattle.fir_types.specs.Leaves.{leaves}
use Rattle.fir_meaning.specs.Components.{TypedModule, Component}
use Rattle.circuit_laws.proofs.Opening.{below_true, not_below}
use Rattle.circuit_laws.proofs.Scoping.{get-either}
use Rattle.net_of_circuit.specs.Numbers.{ModuleLeaf, leaves_of, module_leaves, leaves_before}
use Rattle.ground_exprs.proofs.Members.{none_some, some_same}
use Rattle.ground_exprs.proofs.Insides.{get_behind, get_within}
use Rattle.ground_statements.specs.Declares.{Label, Declares}
use Rattle.ground_statements.specs.Bodies.{is_among}

pub plus_none : (n : ℕ) → n + 0 ≡ n
plus_none n = omega arith

pub plus_one : (n : ℕ) → n + 1 ≡ suc n
plus_one n = omega arith

pub plus_more : (a b c : ℕ) → a + (b + c) ≡ a + b + c
plus_more a b c = omega arith

-- Declarations

pub declares-left : (m : TypedModule) (n : ℕ) (xs ys : List Label) → Declares m n (xs ++ ys) → Declares m n xs
declares-left m n [] ys d = tt
declares-left m n (x ∷ xs) ys d = (d.0, declares-left m (suc n) xs ys d.1)

pub declares-right : (m : TypedModule) (n : ℕ) (xs ys : List Label) → Declares m n (xs ++ ys) → Declares m (n + length xs) ys
declares-right m n [] ys d = subst (λ k. Declares m k ys) (sym (plus_none n)) d
declares-right m n (x ∷ xs) ys d =
    let e : suc n + length xs ≡ n + length (x ∷ xs) = omega arith in
    subst (λ k. Declares m k ys) e (declares-right m (suc n) xs ys d.1)

-- Numbers of leaves

abbrev size : Component → ℕ
size c = length (leaves c.typ)

before_more : (cs : List Component) (n : ℕ) (c : Component) → slice_get cs n ≡ Some c → sum_by size (take (suc n) cs) ≡ sum_by size (take n cs) + size c
before_more [] n c e = absurd (none_some e)
before_more (d ∷ cs) zero c e = let same = ap size (some_same e) in grind (arith, common_steps, same)
before_more (d ∷ cs) (suc n) c e =
    let r = before_more cs n c e in
    let a : sum_by size (take (suc (suc n)) (d ∷ cs)) ≡ size d + sum_by size (take (suc n) cs) = sum_by-cons size d (take (suc n) cs) in
    let b : sum_by size (take (suc n) (d ∷ cs)) ≡ size d + sum_by size (take n cs) = sum_by-cons size d (take n cs) in
    omega (arith, r, a, b)

pub leaves_more : (m : TypedModule) (n : ℕ) (c : Component) → slice_get m.components n ≡ Some c → leaves_before m (n + 1) ≡ leaves_before m n + length (leaves c.typ)
leaves_more m n c e = ap (leaves_before m) (plus_one n) ∙ before_more m.components n c e

before_rises : (cs : List Component) (k d : ℕ) → sum_by size (take k cs) ≤ sum_by size (take (k + d) cs)
before_rises [] k d = grind (arith, common_steps)
before_rises (c ∷ cs) zero d = grind (arith, common_steps)
before_rises (c ∷ cs) (suc k) d =
    let r = before_rises cs k d in
    let a : sum_by size (take (suc k) (c ∷ cs)) ≡ size c + sum_by size (take k cs) = sum_by-cons size c (take k cs) in
    let n : suc k + d ≡ suc (k + d) = omega arith in
    let b : sum_by size (take (suc k + d) (c ∷ cs)) ≡ size c + sum_by size (take (k + d) cs) = ap (λ i. sum_by size (take i (c ∷ cs))) n ∙ sum_by-cons size c (take (k + d) cs) in
    omega (arith, r, a, b)

rises : (m : TypedModule) (k n : ℕ) → k ≤ n → leaves_before m k ≤ leaves_before m n
rises m k n le = subst (λ x. leaves_before m k ≤ leaves_before m x) (difference k n le).1 (before_rises m.components k (difference k n le).0)
  where
    difference : (a b : ℕ) → a ≤ b → (d : ℕ) × (a + d ≡ b)
    difference zero b h = (b, omega arith)
    difference (suc a) zero h = absurd (omega (arith, h))
    difference (suc a) (suc b) h = let r = difference a b (omega (arith, h)) in (r.0, omega (arith, r.1))

-- leaf j of component k stands before the components from n on just where k does
pub stands_before : (m : TypedModule) (k n j : ℕ) (c : Component) → slice_get m.components k ≡ Some c → j < length (leaves c.typ) → k < n → leaves_before m k + j < leaves_before m n
stands_before m k n j c e lt le = omega (arith, leaves_more m k c e, rises m (k + 1) n (omega (arith, le)), lt)

pub stands_behind : (m : TypedModule) (k n j : ℕ) → n ≤ k → leaves_before m n ≤ leaves_before m k + j
stands_behind m k n j le = omega (arith, rises m n k le)

pub same_side : (m : TypedModule) (k n j : ℕ) (c : Component) → slice_get m.components k ≡ Some c → j < length (leaves c.typ) → nat_lt (leaves_before m k + j) (leaves_before m n) ≡ nat_lt k n
same_side m k n j c e lt = by (nat_lt k n) refl where
  by : (b : Bool) → nat_lt k n ≡ b → nat_lt (leaves_before m k + j) (leaves_before m n) ≡ nat_lt k n
  by true q = below_true (leaves_before m k + j) (leaves_before m n) (stands_before m k n j c e lt (ltb-true k n q)) ∙ sym q
  by false q = not_below (leaves_before m k + j) (leaves_before m n) (stands_behind m k n j (omega (arith, ltb-false k n q))) ∙ sym q

-- no other component has the leaf
pub other_leaf : (m : TypedModule) (k n j i : ℕ) (c d : Component) → slice_get m.components k ≡ Some c → slice_get m.components n ≡ Some d → j < length (leaves c.typ) → i < length (leaves d.typ)
    → (k < n) ⊎ (n < k) → leaves_before m k + j ≡ leaves_before m n + i → ⊥
other_leaf m k n j i c d e f lt less (inl h) same = omega (arith, same, stands_before m k n j c e lt h)
other_leaf m k n j i c d e f lt less (inr h) same = omega (arith, same, stands_before m n k i d f less h)

-- Among so many declarations

pub data Place (n count k : ℕ) : Type 0 where
  is_before : k < n → Place n count k
  is_inside : n ≤ k → k < n + count → Place n count k
  is_behind : n + count ≤ k → Place n count k

pub placed : (n count k : ℕ) → Place n count k
placed n count k = by (nat_lt k n) refl (nat_lt k (n + count)) refl where
  by : (a : Bool) → nat_lt k n ≡ a → (b : Bool) → nat_lt k (n + count) ≡ b → Place n count k
  by true p b q = is_before (ltb-true k n p)
  by false p true q = is_inside (omega (arith, ltb-false k n p)) (ltb-true k (n + count) q)
  by false p false q = is_behind (omega (arith, ltb-false k (n + count) q))

pub among_before : (n count k : ℕ) → k < n → is_among n count k ≡ false
among_before n count k h = ap (λ b. not b && nat_lt k (n + count)) (below_true k n h)

pub among_inside : (n count k : ℕ) → n ≤ k → k < n + count → is_among n count k ≡ true
among_inside n count k h l = ap₂ (λ a b. not a && b) (not_below k n h) (below_true k (n + count) l)

pub among_behind : (n count k : ℕ) → n + count ≤ k → is_among n count k ≡ false
among_behind n count k h = ap₂ (λ a b. not a && b) (not_below k n (omega (arith, h))) (not_below k (n + count) h)

-- The leaves of a module

pub map_at : {A B : Type 0} (h : A → B) (xs : List A) (k : ℕ) (x : A) → slice_get xs k ≡ Some x → slice_get (map h xs) k ≡ Some (h x)
map_at h [] k x e = absurd (none_some e)
map_at h (a ∷ xs) zero x e = ap Some (ap h (some_same e))
map_at h (a ∷ xs) (suc k) x e = map_at h xs k x e

pub from_map_at : {A B : Type 0} (h : A → B) (xs : List A) (k : ℕ) (y : B) → slice_get (map h xs) k ≡ Some y → (x : A) × (slice_get xs k ≡ Some x) × (h x ≡ y)
from_map_at h [] k y e = absurd (none_some e)
from_map_at h (a ∷ xs) zero y e = (a, refl, some_same e)
from_map_at h (a ∷ xs) (suc k) y e = from_map_at h xs k y e

leaf_behind : (cs : List Component) (at j : ℕ) (c : Component) (leaf : TypeLeaf) → slice_get cs at ≡ Some c → slice_get (leaves c.typ) j ≡ Some leaf
    → slice_get (flat_map leaves_of cs) (sum_by size (take at cs) + j) ≡ Some (c, leaf)
leaf_behind [] at j c leaf e f = absurd (none_some e)
leaf_behind (d ∷ cs) zero j c leaf e f =
    let n : sum_by size (take 0 (d ∷ cs)) + j ≡ j = grind (arith, common_steps) in
    ap (slice_get (flat_map leaves_of (d ∷ cs))) n
    ∙ (ap (λ l. slice_get l j) (flat_map-cons leaves_of d cs)
    ∙ get_within (leaves_of d) (flat_map leaves_of cs) j (c, leaf) (ap (λ x. slice_get (leaves_of x) j) (some_same e) ∙ map_at (λ l. (c, l)) (leaves c.typ) j leaf f))
leaf_behind (d ∷ cs) (suc at) j c leaf e f =
    let n : sum_by size (take (suc at) (d ∷ cs)) ≡ size d + sum_by size (take at cs) = sum_by-cons size d (take at cs) in
    let k : sum_by size (take (suc at) (d ∷ cs)) + j ≡ size d + (sum_by size (take at cs) + j) = omega (arith, n) in
    ap (slice_get (flat_map leaves_of (d ∷ cs))) k
    ∙ (ap (λ l. slice_get l (size d + (sum_by size (take at cs) + j))) (flat_map-cons leaves_of d cs)
    ∙ get_behind (leaves_of d) (flat_map leaves_of cs) (size d) (sum_by size (take at cs) + j) (c, leaf) (length-map (leaves d.typ) (λ l. (d, l))) (leaf_behind cs at j c leaf e f))

pub leaf_there : (m : TypedModule) (k j : ℕ) (c : Component) (leaf : TypeLeaf) → slice_get m.components k ≡ Some c → slice_get (leaves c.typ) j ≡ Some leaf
    → slice_get (module_leaves m) (leaves_before m k + j) ≡ Some (c, leaf)
leaf_there m = leaf_behind m.components

pub record LeafPlace (cs : List Component) (x : ℕ) (y : ModuleLeaf) : Type 0 where
  pub k : ℕ
  pub j : ℕ
  pub component : slice_get cs k ≡ Some y.0
  pub listed : slice_get (leaves y.0.typ) j ≡ Some y.1
  pub number : x ≡ sum_by size (take k cs) + j

place_of : (cs : List Component) (x : ℕ) (y : ModuleLeaf) → slice_get (flat_map leaves_of cs) x ≡ Some y → LeafPlace cs x y
place_of [] x y e = absurd (none_some e)
place_of (d ∷ cs) x y e = by (get-either (leaves_of d) (flat_map leaves_of cs) x y (ap (λ l. slice_get l x) (sym (flat_map-cons leaves_of d cs)) ∙ e)) (λ i f. place_of cs i y f) where
  by : (slice_get (leaves_of d) x ≡ Some y) ⊎ ((i : ℕ) × (x ≡ length (leaves_of d) + i) × (slice_get (flat_map leaves_of cs) i ≡ Some y))
      → ((i : ℕ) → slice_get (flat_map leaves_of cs) i ≡ Some y → LeafPlace cs i y) → LeafPlace (d ∷ cs) x y
  by (inl l) more =
      let f = from_map_at (λ l. (d, l)) (leaves d.typ) x y l in
      record {
        k = 0;
        j = x;
        component = ap (λ (z : ModuleLeaf). Some z.0) f.2;
        listed = ap (λ (z : ModuleLeaf). slice_get (leaves z.0.typ) x) (sym f.2) ∙ (f.1 ∙ ap (λ (z : ModuleLeaf). Some z.1) f.2);
        number = grind (arith, common_steps);
      }
  by (inr r) more =
      let p = more r.0 r.2 in
      let n : sum_by size (take (suc p.k) (d ∷ cs)) ≡ size d + sum_by size (take p.k cs) = sum_by-cons size d (take p.k cs) in
      let own : length (leaves_of d) ≡ size d = length-map (leaves d.typ) (λ l. (d, l)) in
      record { k = suc p.k; j = p.j; component = p.component; listed = p.listed; number = omega (arith, r.1, n, own, p.number) }

pub leaf_place : (m : TypedModule) (x : ℕ) (y : ModuleLeaf) → slice_get (module_leaves m) x ≡ Some y → LeafPlace m.components x y
leaf_place m = place_of m.components
