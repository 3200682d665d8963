-- The captured reads of a net, by the leaves that show them.
use Rattle.std.proofs.Common.{◌≡◌, ℕ, zero, suc, ◌+◌, ◌<◌, ◌≤◌, Bool, true, false, cond, List, [], ◌∷◌, map, slice_get, refl, sym, ap, ap₂, ◌∙◌, subst, arith, ◌⊎◌, inl, inr, Some, None}
use Rattle.std.specs.Prelude.{⊤, filter_map, codes}
use Rattle.std.specs.List.{cons_option}
use Rattle.std.proofs.lemmas.Bool.{false≢true}
use Rattle.ground_net.specs.declared.net.Leaf.{Leaf}
use Rattle.ground_net.specs.declared.net.Role.{Role}
use Rattle.ground_net.specs.declared.net.Role.TheVariants as role
use Rattle.ground_net.specs.declared.net.Net.{Net}
use Rattle.ground_net.specs.Shapes.{Shape}
use Rattle.ground_net.specs.Cycles.{Capture, captures}
use Rattle.ground_net.specs.Nets.{IsNet, leaf_shape, shape_or_none, captured_shapes}
use Rattle.snapshot_text.specs.Cells.{leaf_cell, is_captured, captured_cell}
use Rattle.snapshot_text.specs.Steps.{shape_of_cell}

-- Rising lists of the same numbers

abbrev In : ℕ → List ℕ → Type 0
In z [] = ⊥
In z (x ∷ xs) = (z ≡ x) ⊎ In z xs

abbrev Rising : List ℕ → Type 0
Rising [] = ⊤
Rising (x ∷ xs) = ((z : ℕ) → In z xs → x < z) × Rising xs

same_first : (x y : ℕ) (xs ys : List ℕ) → Rising (x ∷ xs) → Rising (y ∷ ys) → In x (y ∷ ys) → In y (x ∷ xs) → x ≡ y
same_first x y xs ys a b (inl e) j = e
same_first x y xs ys a b (inr i) (inl e) = sym e
same_first x y xs ys a b (inr i) (inr j) = let less = b.0 x i in let more = a.0 y j in absurd (omega (arith, less, more))

in_rest : (x y z : ℕ) (xs ys : List ℕ) → x ≡ y → Rising (x ∷ xs) → In z xs → In z (y ∷ ys) → In z ys
in_rest x y z xs ys e a i (inl f) = let less = a.0 z i in absurd (omega (arith, less, e, f))
in_rest x y z xs ys e a i (inr j) = j

same_rising : (xs ys : List ℕ) → Rising xs → Rising ys → ((z : ℕ) → In z xs → In z ys) → ((z : ℕ) → In z ys → In z xs) → xs ≡ ys
same_rising [] [] a b f g = refl
same_rising [] (y ∷ ys) a b f g = absurd (g y (inl refl))
same_rising (x ∷ xs) [] a b f g = absurd (f x (inl refl))
same_rising (x ∷ xs) (y ∷ ys) a b f g =
    let e = same_first x y xs ys a b (f x (inl refl)) (g y (inl refl)) in
    ap₂ (λ z zs. z ∷ zs) e
    (same_rising xs ys a.1 b.1 (λ z i. in_rest x y z xs ys e a i (f z (inr i))) (λ z i. in_rest y x z ys xs (sym e) b i (g z (inr i))))

-- the numbers of the leaves that show captured reads
abbrev numbers_from : ℕ → List Leaf → List ℕ
numbers_from a [] = []
numbers_from a (leaf ∷ leaves) = cond (is_captured leaf.role) (a ∷ numbers_from (a + 1) leaves) (numbers_from (a + 1) leaves)

record IsRead (all : List Leaf) (a z : ℕ) : Type 0 where
  above : a ≤ z
  leaf : Leaf
  there' : slice_get all z ≡ Some leaf
  is : is_captured leaf.role ≡ true

lower : (all : List Leaf) (a b z : ℕ) → b ≤ a → IsRead all a z → IsRead all b z
lower all a b z le r = record { above = let up = r.above in omega (arith, up, le); leaf = r.leaf; there' = r.there'; is = r.is }

module _ (all : List Leaf) where
  read_of : (a : ℕ) (leaves : List Leaf) → ((k : ℕ) → slice_get all (a + k) ≡ slice_get leaves k) → (z : ℕ) → In z (numbers_from a leaves) → IsRead all a z
  read_of a [] at z i = absurd i
  read_of a (leaf ∷ leaves) at z i = by (is_captured leaf.role) refl (λ j. lower all (a + 1) a z (omega arith) (read_of (a + 1) leaves (λ k. let q : a + 1 + k ≡ a + suc k = omega arith in ap (slice_get all) q ∙ at (suc k)) z j)) i
    where
      here : is_captured leaf.role ≡ true → z ≡ a → IsRead all a z
      here t e = let q : z ≡ a + 0 = omega (arith, e) in record { above = omega (arith, e); leaf = leaf; there' = ap (slice_get all) q ∙ at 0; is = t }

      by : (b : Bool) → is_captured leaf.role ≡ b → (In z (numbers_from (a + 1) leaves) → IsRead all a z) → In z (cond b (a ∷ numbers_from (a + 1) leaves) (numbers_from (a + 1) leaves)) → IsRead all a z
      by true t on (inl e) = here t e
      by true t on (inr j) = on j
      by false t on j = on j

  in_numbers : (a : ℕ) (leaves : List Leaf) (k : ℕ) (leaf : Leaf) → slice_get leaves k ≡ Some leaf → is_captured leaf.role ≡ true → In (a + k) (numbers_from a leaves)
  in_numbers a [] k leaf e t = cc
  in_numbers a (l ∷ leaves) zero leaf e t =
      let same : l ≡ leaf = cc in
      let z : a + 0 ≡ a = omega arith in
      subst (λ b. In (a + 0) (cond b (a ∷ numbers_from (a + 1) leaves) (numbers_from (a + 1) leaves))) (sym (ap (λ (x : Leaf). is_captured x.role) same ∙ t)) (inl z)
  in_numbers a (l ∷ leaves) (suc k) leaf e t =
      let q : a + 1 + k ≡ a + suc k = omega arith in
      by (is_captured l.role) (subst (λ n. In n (numbers_from (a + 1) leaves)) q (in_numbers (a + 1) leaves k leaf e t))
    where
      by : (b : Bool) → In (a + suc k) (numbers_from (a + 1) leaves) → In (a + suc k) (cond b (a ∷ numbers_from (a + 1) leaves) (numbers_from (a + 1) leaves))
      by true i = inr i
      by false i = i

  numbers_rise : (a : ℕ) (leaves : List Leaf) → ((k : ℕ) → slice_get all (a + k) ≡ slice_get leaves k) → Rising (numbers_from a leaves)
  numbers_rise a [] at = tt
  numbers_rise a (leaf ∷ leaves) at = by (is_captured leaf.role) (numbers_rise (a + 1) leaves next)
    where
      next : (k : ℕ) → slice_get all (a + 1 + k) ≡ slice_get leaves k
      next k = let q : a + 1 + k ≡ a + suc k = omega arith in ap (slice_get all) q ∙ at (suc k)

      by : (b : Bool) → Rising (numbers_from (a + 1) leaves) → Rising (cond b (a ∷ numbers_from (a + 1) leaves) (numbers_from (a + 1) leaves))
      by true h = ((λ z i. let r = read_of (a + 1) leaves next z i in let up = r.above in omega (arith, up)), h)
      by false h = h

  shapes_of_numbers : (a : ℕ) (leaves : List Leaf) → ((k : ℕ) → slice_get all (a + k) ≡ slice_get leaves k)
      → map shape_of_cell (filter_map captured_cell leaves) ≡ map (λ x. shape_or_none (slice_get all x)) (numbers_from a leaves)
  shapes_of_numbers a [] at = refl
  shapes_of_numbers a (leaf ∷ leaves) at = by (is_captured leaf.role) (shapes_of_numbers (a + 1) leaves (λ k. let q : a + 1 + k ≡ a + suc k = omega arith in ap (slice_get all) q ∙ at (suc k)))
    where
      here : leaf_shape leaf ≡ shape_or_none (slice_get all a)
      here = let z : a + 0 ≡ a = omega arith in sym (ap shape_or_none (ap (slice_get all) (sym z) ∙ at 0))

      by : (b : Bool) → map shape_of_cell (filter_map captured_cell leaves) ≡ map (λ x. shape_or_none (slice_get all x)) (numbers_from (a + 1) leaves)
          → map shape_of_cell (cons_option (cond b (Some (leaf_cell (codes "read") leaf)) None) (filter_map captured_cell leaves))
          ≡ map (λ x. shape_or_none (slice_get all x)) (cond b (a ∷ numbers_from (a + 1) leaves) (numbers_from (a + 1) leaves))
      by true e = ap₂ (λ s ss. s ∷ ss) here e
      by false e = e

-- The captured reads, by number

in_map : (cs : List Capture) (n : ℕ) (c : Capture) → slice_get cs n ≡ Some c → In c.leaf (map (λ c. c.leaf) cs)
in_map [] n c e = cc
in_map (x ∷ cs) zero c e = let same : x ≡ c = cc in inl (sym (ap (λ (c : Capture). c.leaf) same))
in_map (x ∷ cs) (suc n) c e = inr (in_map cs n c e)

record IsListed (cs : List Capture) (z : ℕ) : Type 0 where
  number : ℕ
  capture : Capture
  there' : slice_get cs number ≡ Some capture
  is : capture.leaf ≡ z

of_map : (cs : List Capture) (z : ℕ) → In z (map (λ c. c.leaf) cs) → IsListed cs z
of_map [] z i = absurd i
of_map (c ∷ cs) z (inl e) = record { number = 0; capture = c; there' = refl; is = sym e }
of_map (c ∷ cs) z (inr i) = let l = of_map cs z i in record { number = suc l.number; capture = l.capture; there' = l.there'; is = l.is }

map_rises : (cs : List Capture) → ((n k : ℕ) (c later : Capture) → n < k → slice_get cs n ≡ Some c → slice_get cs k ≡ Some later → c.leaf < later.leaf) → Rising (map (λ c. c.leaf) cs)
map_rises [] h = tt
map_rises (c ∷ cs) h = (
  (λ z i. let l = of_map cs z i in let less = h 0 (suc l.number) c l.capture (omega arith) refl l.there' in let e = l.is in omega (arith, less, e)),
  map_rises cs (λ n k c later lt e f. h (suc n) (suc k) c later (omega (arith, lt)) e f),
)

role_of : (r : Role) → is_captured r ≡ true → (n : ℕ) × (r ≡ role.Captured n)
role_of (role.Input n) t = absurd (false≢true t)
role_of role.Clock t = absurd (false≢true t)
role_of role.Assigned t = absurd (false≢true t)
role_of (role.Register n) t = absurd (false≢true t)
role_of (role.Captured n) t = (n, refl)

map_twice : (f : ℕ → Shape) (cs : List Capture) → map f (map (λ c. c.leaf) cs) ≡ map (λ c. f c.leaf) cs
map_twice f [] = refl
map_twice f (c ∷ cs) = ap (λ l. f c.leaf ∷ l) (map_twice f cs)

module _ (net : Net) (well : IsNet net) where
  z_plus : (k : ℕ) → slice_get net.leaves (0 + k) ≡ slice_get net.leaves k
  z_plus k = let q : 0 + k ≡ k = omega arith in ap (slice_get net.leaves) q

  numbers_are : numbers_from 0 net.leaves ≡ map (λ c. c.leaf) (captures net)
  numbers_are = same_rising (numbers_from 0 net.leaves) (map (λ c. c.leaf) (captures net)) (numbers_rise net.leaves 0 net.leaves z_plus) (map_rises (captures net) well.captured_rise) to from
    where
      to : (z : ℕ) → In z (numbers_from 0 net.leaves) → In z (map (λ c. c.leaf) (captures net))
      to z i =
          let r = read_of net.leaves 0 net.leaves z_plus z i in
          let n = role_of r.leaf.role r.is in
          let c = well.captured z n.0 (record { leaf = r.leaf; there = r.there'; is = n.1 }) in
          subst (λ x. In x (map (λ c. c.leaf) (captures net))) c.2 (in_map (captures net) n.0 c.0 c.1)

      from : (z : ℕ) → In z (map (λ c. c.leaf) (captures net)) → In z (numbers_from 0 net.leaves)
      from z i =
          let l = of_map (captures net) z i in
          let r = well.captured_leaves l.number l.capture l.there' in
          let q : 0 + l.capture.leaf ≡ z = let e = l.is in omega (arith, e) in
          subst (λ x. In x (numbers_from 0 net.leaves)) q (in_numbers net.leaves 0 net.leaves l.capture.leaf r.leaf r.there (ap is_captured r.is))

  pub captured_shapes_are : map shape_of_cell (filter_map captured_cell net.leaves) ≡ captured_shapes net
  captured_shapes_are =
      shapes_of_numbers net.leaves 0 net.leaves z_plus
      ∙ (ap (map (λ x. shape_or_none (slice_get net.leaves x))) numbers_are ∙ map_twice (λ x. shape_or_none (slice_get net.leaves x)) (captures net))
