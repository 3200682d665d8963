-- Laws of flat orders and numbers.
use Rattle.std.proofs.Common.{◌≡◌, ℕ, zero, suc, ◌+◌, ◌<◌, ◌≤◌, ◌⊎◌, ⊎_elim, List, [], ◌∷◌, ◌++◌, length, map, slice_index, refl, sym, ap, ap₂, ◌∙◌, subst, arith, length-append, append_assoc, Some, slice_get}
use Rattle.std.proofs.lemmas.Option.{slice_get_within}
use Rattle.ground_net.specs.declared.circuit.DrivenCircuit.{DrivenCircuit}
use Rattle.ground_net.specs.declared.circuit.DrivenModule.{DrivenModule}
use Rattle.ground_net.specs.declared.circuit.GroundInstance.{GroundInstance}
use Rattle.ground_net.specs.declared.ground.Ground.{Ground}
use Rattle.ground_net.specs.Grounds.{Instant, value, mentions}
use Rattle.ground_net.specs.Renumbering.{with_numbers, seen_by}
use Rattle.ground_net.proofs.Layers.{renumbered_value, renumbered_mentions}
use Rattle.flatten_instances.specs.FlatOrder.{Spot, spot, Item, A_leaf, A_memory, InFlatOrder, no_more, an_instance, a_memory, a_leaf, leaf_spots}
use Rattle.flatten_instances.specs.Numbers.{StandsAt, its_own, of_instance, AreNumbers}
use Rattle.flatten_instances.proofs.Lists.{some_same, get_split}
use Rattle.flatten_instances.proofs.Orders.{is_here, is_memory_here, leaf_spots-append}

-- One order

pub one_order : {driven : DrivenCircuit} {path : List ℕ} {n y k i : ℕ} {m : DrivenModule} {a b : List Item} → InFlatOrder driven path n m y k i a → InFlatOrder driven path n m y k i b → a ≡ b
one_order (no_more e f g) (no_more e' f' g') = refl
one_order {y = y} {k = k} {i = i} {m = m} (no_more e f g) (an_instance gi child here there own rest) = let h = (is_here m y k i gi here).there in cc
one_order {y = y} {k = k} {m = m} (no_more e f g) (a_memory memory none here rest) = let h = (is_memory_here m y k memory here).0 in cc
one_order (no_more e f g) (a_leaf leaf none none' there rest) = cc
one_order {y = y} {k = k} {i = i} {m = m} (an_instance gi child here there own rest) (no_more e f g) = let h = (is_here m y k i gi here).there in cc
one_order {driven} {path = path} {n = n} {y = y} {k = k} {i = i} {m = m} (an_instance {own = xs} gi child here there own rest) (an_instance {own = ys} {rest = rs} gi' child' here' there' own' rest') =
    let same : gi ≡ gi' = some_same (sym here ∙ here') in
    let child_is : child ≡ child' = some_same (sym there ∙ (ap (λ (g : GroundInstance). slice_get driven.modules g.module) same ∙ there')) in
    let inner : InFlatOrder driven (i ∷ path) gi.module child 0 0 0 ys
    = subst (λ (g : GroundInstance). InFlatOrder driven (i ∷ path) g.module child 0 0 0 ys) (sym same) (subst (λ c. InFlatOrder driven (i ∷ path) gi'.module c 0 0 0 ys) (sym child_is) own') in
    ap₂ (λ xs ys. xs ++ ys) (one_order own inner) (one_order rest (subst (λ (c : DrivenModule). InFlatOrder driven path n m (y + c.ports) k (i + 1) rs) (sym child_is) rest'))
one_order (an_instance gi child here there own rest) (a_memory memory none here' rest') = cc
one_order (an_instance gi child here there own rest) (a_leaf leaf none none' there' rest') = cc
one_order {y = y} {k = k} {m = m} (a_memory memory none here rest) (no_more e f g) = let h = (is_memory_here m y k memory here).0 in cc
one_order (a_memory memory none here' rest') (an_instance gi child here there own rest) = cc
one_order {path = path} {n = n} {k = k} (a_memory memory none here rest) (a_memory memory' none' here' rest') = ap (λ l. A_memory (spot path n k) ∷ l) (one_order rest rest')
one_order (a_memory memory none here rest) (a_leaf leaf none' none'' there rest') = cc
one_order (a_leaf leaf none none' there rest) (no_more e f g) = cc
one_order (a_leaf leaf none none' there' rest') (an_instance gi child here there own rest) = cc
one_order (a_leaf leaf none' none'' there rest') (a_memory memory none here rest) = cc
one_order {path = path} {n = n} {y = y} (a_leaf leaf none none' there rest) (a_leaf leaf' none'' none''' there' rest') = ap (λ l. A_leaf (spot path n y) ∷ l) (one_order rest rest')

-- Each leaf once

-- a leaf of a list stands in the module itself, from y on, or under an instance, from i on
data Under (path : List ℕ) (y i : ℕ) (s : Spot) : Type 0 where
  itself : s.path ≡ path → y ≤ s.number → Under path y i s
  below : (front : List ℕ) (j : ℕ) → i ≤ j → s.path ≡ front ++ (j ∷ path) → Under path y i s

later : {path : List ℕ} {y z i j : ℕ} {s : Spot} → y ≤ z → i ≤ j → Under path z j s → Under path y i s
later h g (itself e f) = itself e (omega (arith, h, f))
later h g (below front k f e) = below front k (omega (arith, g, f)) e

under_instance : {path : List ℕ} {y i : ℕ} {s : Spot} → Under (i ∷ path) 0 0 s → Under path y i s
under_instance {i = i} (itself e f) = below [] i (omega arith) e
under_instance {path} {i = i} (below front j f e) = below (front ++ j ∷ []) i (omega arith) (e ∙ sym (append_assoc front (j ∷ []) (i ∷ path)))

under : {driven : DrivenCircuit} {path : List ℕ} {n y k i : ℕ} {m : DrivenModule} {items : List Item} → InFlatOrder driven path n m y k i items → (a : ℕ) (s : Spot) → slice_get (leaf_spots items) a ≡ Some s
    → Under path y i s
under (no_more e f g) a s at = cc
under {path = path} {y = y} {i = i} (an_instance {own = own} {rest = rest} gi child here there inner more) a s at =
    ⊎_elim (λ e. under_instance (under inner a s e)) (λ r. later (omega arith) (omega arith) (under more r.0 s r.2))
    (get_split (leaf_spots own) (leaf_spots rest) a s (ap (λ l. slice_get l a) (sym (leaf_spots-append own rest)) ∙ at))
under (a_memory memory none here more) a s at = under more a s at
under {path = path} {n = n} {y = y} (a_leaf leaf none none' there more) zero s at =
    itself (ap (λ (t : Spot). t.path) (sym (some_same at))) (let e : y ≡ s.number = ap (λ (t : Spot). t.number) (some_same at) in omega (arith, e))
under (a_leaf leaf none none' there more) (suc a) s at = later (omega arith) (omega arith) (under more a s at)

same_ends : (f g xs ys : List ℕ) → length f ≡ length g → f ++ xs ≡ g ++ ys → xs ≡ ys
same_ends [] [] xs ys e h = h
same_ends [] (z ∷ g) xs ys e h = absurd (omega arith)
same_ends (z ∷ f) [] xs ys e h = absurd (omega arith)
same_ends (z ∷ f) (u ∷ g) xs ys e h = same_ends f g xs ys (omega arith) (tails h)
  where
    tails : (z ∷ (f ++ xs)) ≡ (u ∷ (g ++ ys)) → f ++ xs ≡ g ++ ys
    tails h = cc

-- what stands under an instance stands nowhere else
apart : {path : List ℕ} {y i : ℕ} {s : Spot} → Under (i ∷ path) 0 0 s → Under path y (i + 1) s → ⊥
apart {path} {y = y} {i = i} {s = s} u v = by (front_of u) v
  where
    front_of : Under (i ∷ path) 0 0 s → (front : List ℕ) × (s.path ≡ front ++ (i ∷ path))
    front_of (itself e f) = ([], e)
    front_of (below front j f e) = (front ++ j ∷ [], e ∙ sym (append_assoc front (j ∷ []) (i ∷ path)))

    by : (front : List ℕ) × (s.path ≡ front ++ (i ∷ path)) → Under path y (i + 1) s → ⊥
    by p (itself e f) =
        let h : length (p.0 ++ (i ∷ path)) ≡ length path = ap length (sym p.1 ∙ e) in
        let l : length (p.0 ++ (i ∷ path)) ≡ length p.0 + suc (length path) = length-append p.0 (i ∷ path) in
        omega (arith, h, l)
    by p (below front j f e) =
        let h : p.0 ++ (i ∷ path) ≡ front ++ (j ∷ path) = sym p.1 ∙ e in
        let l : length (p.0 ++ (i ∷ path)) ≡ length p.0 + suc (length path) = length-append p.0 (i ∷ path) in
        let r : length (front ++ (j ∷ path)) ≡ length front + suc (length path) = length-append front (j ∷ path) in
        let same : length p.0 ≡ length front = omega (arith, ap length h, l, r) in
        let ends : (i ∷ path) ≡ (j ∷ path) = same_ends p.0 front (i ∷ path) (j ∷ path) same h in
        let heads : i ≡ j = cc in
        omega (arith, heads, f)

never : (path : List ℕ) (n y i : ℕ) (s : Spot) → spot path n y ≡ s → Under path (y + 1) i s → ⊥
never path n y i s is (itself e f) = let h : y ≡ s.number = ap (λ (t : Spot). t.number) is in omega (arith, h, f)
never path n y i s is (below front j f e) =
    let h : path ≡ front ++ (j ∷ path) = ap (λ (t : Spot). t.path) is ∙ e in
    let l : length (front ++ (j ∷ path)) ≡ length front + suc (length path) = length-append front (j ∷ path) in
    omega (arith, ap length h, l)

pub once : {driven : DrivenCircuit} {path : List ℕ} {n y k i : ℕ} {m : DrivenModule} {items : List Item} → InFlatOrder driven path n m y k i items → (s : Spot) (a b : ℕ)
    → slice_get (leaf_spots items) a ≡ Some s → slice_get (leaf_spots items) b ≡ Some s → a ≡ b
once (no_more e f g) s a b at at' = cc
once {path = path} {i = i} (an_instance {own = own} {rest = rest} gi child here there inner more) s a b at at' =
    ⊎_elim
    (λ e. ⊎_elim (λ f. once inner s a b e f) (λ f. absurd (apart (under inner a s e) (under more f.0 s f.2))) second)
    (λ e. ⊎_elim (λ f. absurd (apart (under inner b s f) (under more e.0 s e.2))) (λ f. let h = once more s e.0 f.0 e.2 f.2 in omega (arith, e.1, f.1, h)) second)
    (get_split (leaf_spots own) (leaf_spots rest) a s (ap (λ l. slice_get l a) (sym (leaf_spots-append own rest)) ∙ at))
  where
    second : (slice_get (leaf_spots own) b ≡ Some s) ⊎ ((c : ℕ) × (b ≡ length (leaf_spots own) + c) × (slice_get (leaf_spots rest) c ≡ Some s))
    second = get_split (leaf_spots own) (leaf_spots rest) b s (ap (λ l. slice_get l b) (sym (leaf_spots-append own rest)) ∙ at')
once (a_memory memory none here more) s a b at at' = once more s a b at at'
once (a_leaf leaf none none' there more) s zero zero at at' = refl
once {path = path} {n = n} {y = y} (a_leaf leaf none none' there more) s zero (suc b) at at' = absurd (never path n y _ s (some_same at) (under more b s at'))
once {path = path} {n = n} {y = y} (a_leaf leaf none none' there more) s (suc a) zero at at' = absurd (never path n y _ s (some_same at') (under more a s at))
once (a_leaf leaf none none' there more) s (suc a) (suc b) at at' = ap suc (once more s a b at at')

-- Numbers

stands_one : {driven : DrivenCircuit} {path : List ℕ} {n y z : ℕ} {m : DrivenModule} {s t : Spot} → StandsAt driven path n m y s → StandsAt driven path n m z t → s ≡ t → y ≡ z
stands_one its_own its_own e = ap (λ (u : Spot). u.number) e
stands_one {path = path} its_own (of_instance j gi child there found lt) e = let h : length path ≡ suc (length path) = ap (λ (u : Spot). length u.path) e in absurd (omega (arith, h))
stands_one {path = path} (of_instance j gi child there found lt) its_own e = let h : suc (length path) ≡ length path = ap (λ (u : Spot). length u.path) e in absurd (omega (arith, h))
stands_one {path = path} {m = m} (of_instance {i = i} j gi child there found lt) (of_instance {i = i'} j' gi' child' there' found' lt') e =
    let paths : (i ∷ path) ≡ (i' ∷ path) = ap (λ (u : Spot). u.path) e in
    let heads : i ≡ i' = cc in
    let same : gi ≡ gi' = some_same (sym there ∙ (ap (slice_get m.instances) heads ∙ there')) in
    ap₂ (λ (g : GroundInstance) x. g.first + x) same (ap (λ (u : Spot). u.number) e)

pub one_number : (driven : DrivenCircuit) (spots : List Spot) (path : List ℕ) (n : ℕ) (numbers : List ℕ) (y z x : ℕ) → AreNumbers driven spots path n numbers → slice_get numbers y ≡ Some x → slice_get numbers z ≡ Some x → y ≡ z
one_number driven spots path n numbers y z x h e f =
    let a = h.each y x e in
    let b = h.each z x f in
    stands_one a.1 b.1 (some_same (sym a.2 ∙ b.2))

pub number_below : (driven : DrivenCircuit) (spots : List Spot) (path : List ℕ) (n : ℕ) (numbers : List ℕ) (y x : ℕ) → AreNumbers driven spots path n numbers → slice_get numbers y ≡ Some x → x < length spots
number_below driven spots path n numbers y x h e = let a = h.each y x e in slice_get_within spots x a.0 a.2

-- Drivers

pub value_of_flat : (numbers : List ℕ) (g flat : Ground) (instant : Instant) → Some (with_numbers (slice_index numbers) g) ≡ Some flat → value flat instant ≡ value g (seen_by (slice_index numbers) instant)
value_of_flat numbers g flat instant e = ap (λ h. value h instant) (sym (some_same e)) ∙ renumbered_value (slice_index numbers) instant g

pub mentions_of_flat : (numbers : List ℕ) (g flat : Ground) → Some (with_numbers (slice_index numbers) g) ≡ Some flat → mentions flat ≡ map (slice_index numbers) (mentions g)
mentions_of_flat numbers g flat e = ap mentions (sym (some_same e)) ∙ renumbered_mentions (slice_index numbers) g
