-- Lists by their places.
use Rattle.std.proofs.Common.{◌≡◌, ℕ, zero, suc, ◌+◌, ◌<◌, ◌≤◌, ◌==◌, ◌||◌, Bool, true, false, cond, List, [], ◌∷◌, filter, filter_map, take, zip, length, Option, Some, None, option_map, refl, sym, ap, ap₂, ◌∙◌, subst, arith, if◌then◌else◌, ◌⊎◌, ⊎_elim}
use Rattle.std.specs.List.{slice_get, flat_map, cons_option, range_with_len, list_any}
use Rattle.std.proofs.lemmas.Grind.{common_steps}
use Rattle.std.proofs.lemmas.List.Concat.{flat_map-cons}
use Rattle.ground_net.specs.Cones.{numbered}
use Rattle.net_laws.proofs.Lists.{below_length, in_append, first_of, second_of}
use Rattle.lowering_laws.proofs.Heights.{some_same, none_some}
use Rattle.lowering_laws.proofs.Matching.{length_append}

pub same_lists : {A : Type 0} (xs ys : List A) → length xs ≡ length ys → ((n : ℕ) (x y : A) → slice_get xs n ≡ Some x → slice_get ys n ≡ Some y → x ≡ y) → xs ≡ ys
same_lists [] [] e h = refl
same_lists [] (y ∷ ys) e h = absurd (omega arith)
same_lists (x ∷ xs) [] e h = absurd (omega arith)
same_lists (x ∷ xs) (y ∷ ys) e h = ap₂ (λ a l. a ∷ l) (h 0 x y refl refl) (same_lists xs ys (omega arith) (λ n a b f g. h (suc n) a b f g))

pub length_range : (a n : ℕ) → length (range_with_len a n) ≡ n
length_range a zero = refl
length_range a (suc n) = ap suc (length_range (a + 1) n)

pub range_get : (a n k : ℕ) → k < n → slice_get (range_with_len a n) k ≡ Some (a + k)
range_get a zero k h = absurd (omega (arith, h))
range_get a (suc n) zero h = let z : a ≡ a + 0 = omega arith in ap Some z
range_get a (suc n) (suc k) h = let z : a + 1 + k ≡ a + suc k = omega arith in range_get (a + 1) n k (omega (arith, h)) ∙ ap Some z

-- Numbered items

numbered_from : {A : Type 0} (a : ℕ) (xs : List A) (k : ℕ) → slice_get (zip (range_with_len a (length xs)) xs) k ≡ option_map (λ x. (a + k, x)) (slice_get xs k)
numbered_from a [] k = refl
numbered_from a (x ∷ xs) zero = let z : a ≡ a + 0 = omega arith in ap (λ n. Some (n, x)) z
numbered_from a (x ∷ xs) (suc k) = let z : a + 1 + k ≡ a + suc k = omega arith in numbered_from (a + 1) xs k ∙ ap (λ n. option_map (λ x. (n, x)) (slice_get xs k)) z

pub numbered_is : {A : Type 0} (xs : List A) (k : ℕ) (x : A) → slice_get xs k ≡ Some x → slice_get (numbered xs) k ≡ Some (k, x)
numbered_is xs k x e = let z : 0 + k ≡ k = omega arith in numbered_from 0 xs k ∙ (ap (option_map (λ x. (0 + k, x))) e ∙ ap (λ n. Some (n, x)) z)

mapped : {A B : Type 0} (f : A → B) (o : Option A) (b : B) → option_map f o ≡ Some b → (a : A) × (o ≡ Some a) × (f a ≡ b)
mapped f None b e = none_some e
mapped f (Some a) b e = (a, refl, some_same e)

pub numbered_parts : {A : Type 0} (xs : List A) (k : ℕ) (both : ℕ × A) → slice_get (numbered xs) k ≡ Some both → (both.0 ≡ k) × (slice_get xs k ≡ Some both.1)
numbered_parts xs k both e =
    let r = mapped (λ x. (0 + k, x)) (slice_get xs k) both (sym (numbered_from 0 xs k) ∙ e) in
    let z : 0 + k ≡ k = omega arith in
    (ap (λ (b : ℕ × _). b.0) (sym r.2) ∙ z, r.1 ∙ ap (λ (b : ℕ × _). Some b.1) r.2)

-- The numbers of items that pass a test

module _ {A : Type 0} (p : A → Bool) where
  abbrev pub number_where : ℕ × A → Option ℕ
  number_where both = if p both.1 then Some both.0 else None

  abbrev pub positions_from : ℕ → List A → List ℕ
  positions_from a xs = filter_map number_where (zip (range_with_len a (length xs)) xs)

  pub positions_counted : (a : ℕ) (xs : List A) → length (positions_from a xs) ≡ length (filter p xs)
  positions_counted a [] = refl
  positions_counted a (x ∷ xs) = by (p x) (positions_counted (a + 1) xs) where
    by : (b : Bool) → length (positions_from (a + 1) xs) ≡ length (filter p xs) → length (cons_option (if b then Some a else None) (positions_from (a + 1) xs)) ≡ length (cond b (x ∷ filter p xs) (filter p xs))
    by true e = ap suc e
    by false e = e

  pub position_at : (a : ℕ) (xs : List A) (n x : ℕ) (s : A) → slice_get (positions_from a xs) n ≡ Some x → slice_get (filter p xs) n ≡ Some s → (k : ℕ) × (x ≡ a + k) × (slice_get xs k ≡ Some s)
  position_at a [] n x s e f = none_some e
  position_at a (y ∷ ys) n x s e f = by (p y) n e f (λ n e f. position_at (a + 1) ys n x s e f) where
    further : (k : ℕ) × (x ≡ a + 1 + k) × (slice_get ys k ≡ Some s) → (k : ℕ) × (x ≡ a + k) × (slice_get (y ∷ ys) k ≡ Some s)
    further r = let q : x ≡ a + 1 + r.0 = r.1 in (suc r.0, omega (arith, q), r.2)

    by : (b : Bool) (n : ℕ) → slice_get (cons_option (if b then Some a else None) (positions_from (a + 1) ys)) n ≡ Some x → slice_get (cond b (y ∷ filter p ys) (filter p ys)) n ≡ Some s
        → ((n : ℕ) → slice_get (positions_from (a + 1) ys) n ≡ Some x → slice_get (filter p ys) n ≡ Some s → (k : ℕ) × (x ≡ a + 1 + k) × (slice_get ys k ≡ Some s)) → (k : ℕ) × (x ≡ a + k) × (slice_get (y ∷ ys) k ≡ Some s)
    by true zero e f h = let same : a ≡ x = some_same e in (0, omega (arith, same), f)
    by true (suc n) e f h = further (h n e f)
    by false n e f h = further (h n e f)

  below_none : (a j : ℕ) (xs : List A) → j < a → list_any (λ n. n == j) (positions_from a xs) ≡ false
  below_none a j [] h = refl
  below_none a j (x ∷ xs) h = by (p x) (below_none (a + 1) j xs (omega (arith, h))) where
    unlike : (a == j) ≡ false
    unlike = grind (arith, common_steps, h)

    by : (b : Bool) → list_any (λ n. n == j) (positions_from (a + 1) xs) ≡ false → list_any (λ n. n == j) (cons_option (if b then Some a else None) (positions_from (a + 1) xs)) ≡ false
    by true e = ap₂ (λ u v. u || v) unlike e
    by false e = e

  -- whether the number of an item is there
  pub position_there : (a k : ℕ) (xs : List A) (item : A) → slice_get xs k ≡ Some item → list_any (λ n. n == a + k) (positions_from a xs) ≡ p item
  position_there a k [] item e = none_some e
  position_there a zero (x ∷ xs) item e = by (p x) refl (below_none (a + 1) (a + 0) xs (omega arith)) where
    like : (a == a + 0) ≡ true
    like = grind (arith, common_steps)

    by : (b : Bool) → p x ≡ b → list_any (λ n. n == a + 0) (positions_from (a + 1) xs) ≡ false → list_any (λ n. n == a + 0) (cons_option (if b then Some a else None) (positions_from (a + 1) xs)) ≡ p item
    by true q f = ap (λ u. u || list_any (λ n. n == a + 0) (positions_from (a + 1) xs)) like ∙ (sym q ∙ ap p (some_same e))
    by false q f = f ∙ (sym q ∙ ap p (some_same e))
  position_there a (suc k) (x ∷ xs) item e = by (p x) (position_there (a + 1) k xs item e) where
    moved : a + 1 + k ≡ a + suc k
    moved = omega arith

    unlike : (a == a + suc k) ≡ false
    unlike = grind (arith, common_steps)

    by : (b : Bool) → list_any (λ n. n == a + 1 + k) (positions_from (a + 1) xs) ≡ p item → list_any (λ n. n == a + suc k) (cons_option (if b then Some a else None) (positions_from (a + 1) xs)) ≡ p item
    by true r = ap (λ u. u || list_any (λ n. n == a + suc k) (positions_from (a + 1) xs)) unlike ∙ (ap (λ i. list_any (λ n. n == i) (positions_from (a + 1) xs)) (sym moved) ∙ r)
    by false r = ap (λ i. list_any (λ n. n == i) (positions_from (a + 1) xs)) (sym moved) ∙ r

pub same_positions : {A B : Type 0} (p : A → Bool) (q : B → Bool) (a : ℕ) (xs : List A) (ys : List B) → length xs ≡ length ys → ((n : ℕ) (x : A) (y : B) → slice_get xs n ≡ Some x → slice_get ys n ≡ Some y → p x ≡ q y)
    → positions_from p a xs ≡ positions_from q a ys
same_positions p q a [] [] e h = refl
same_positions p q a [] (y ∷ ys) e h = absurd (omega arith)
same_positions p q a (x ∷ xs) [] e h = absurd (omega arith)
same_positions p q a (x ∷ xs) (y ∷ ys) e h =
    ap₂ (λ b l. cons_option (if b then Some a else None) l) (h 0 x y refl refl) (same_positions p q (a + 1) xs ys (omega arith) (λ n s t f g. h (suc n) s t f g))

-- Places in lists of lists

module _ {A B : Type 0} (f : A → List B) where
  -- how many items stand before those of an item
  abbrev pub off : List A → ℕ → ℕ
  off xs q = length (flat_map f (take q xs))

  off_more : (x : A) (xs : List A) (q : ℕ) → off (x ∷ xs) (suc q) ≡ length (f x) + off xs q
  off_more x xs q = ap length (flat_map-cons f x (take q xs)) ∙ length_append (f x) (flat_map f (take q xs))

  pub off_at : (xs : List A) (q k : ℕ) (x : A) (b : B) → slice_get xs q ≡ Some x → slice_get (f x) k ≡ Some b → slice_get (flat_map f xs) (off xs q + k) ≡ Some b
  off_at [] q k x b e h = none_some e
  off_at (y ∷ ys) zero k x b e h =
      let n : off (y ∷ ys) 0 + k ≡ k = grind (arith, common_steps) in
      ap (slice_get (flat_map f (y ∷ ys))) n
      ∙ (ap (λ l. slice_get l k) (flat_map-cons f y ys) ∙ first_of (f y) (flat_map f ys) k b (ap (λ w. slice_get (f w) k) (some_same e) ∙ h))
  off_at (y ∷ ys) (suc q) k x b e h =
      let n : off (y ∷ ys) (suc q) + k ≡ length (f y) + (off ys q + k) = (let m = off_more y ys q in omega (arith, m)) in
      ap (slice_get (flat_map f (y ∷ ys))) n
      ∙ (ap (λ l. slice_get l (length (f y) + (off ys q + k))) (flat_map-cons f y ys) ∙ second_of (f y) (flat_map f ys) (off ys q + k) b (off_at ys q k x b e h))

  pub off_below : (xs : List A) (q r : ℕ) (x : A) → q < r → slice_get xs q ≡ Some x → off xs q + length (f x) ≤ off xs r
  off_below [] q r x h e = none_some e
  off_below (y ∷ ys) q zero x h e = absurd (omega (arith, h))
  off_below (y ∷ ys) zero (suc r) x h e =
      let m = off_more y ys r in
      let same : length (f y) ≡ length (f x) = ap (λ w. length (f w)) (some_same e) in
      let n : off (y ∷ ys) 0 ≡ 0 = grind (arith, common_steps) in
      omega (arith, m, same, n)
  off_below (y ∷ ys) (suc q) (suc r) x h e =
      let m = off_more y ys q in
      let n = off_more y ys r in
      let rest = off_below ys q r x (omega (arith, h)) e in
      omega (arith, m, n, rest)

-- Items that are picked

pub picked : {A B : Type 0} (h : A → Option B) (xs : List A) (m : ℕ) (b : B) → slice_get (filter_map h xs) m ≡ Some b → (at : ℕ) × (x : A) × (slice_get xs at ≡ Some x) × (h x ≡ Some b)
picked h [] m b e = none_some e
picked {A} {B} h (x ∷ xs) m b e = by (h x) refl m e (λ m e. picked h xs m b e) where
  further : (at : ℕ) × (y : A) × (slice_get xs at ≡ Some y) × (h y ≡ Some b) → (at : ℕ) × (y : A) × (slice_get (x ∷ xs) at ≡ Some y) × (h y ≡ Some b)
  further r = (suc r.0, r.1, r.2, r.3)

  by : (o : Option B) → h x ≡ o → (m : ℕ) → slice_get (cons_option o (filter_map h xs)) m ≡ Some b → ((m : ℕ) → slice_get (filter_map h xs) m ≡ Some b → (at : ℕ) × (y : A) × (slice_get xs at ≡ Some y) × (h y ≡ Some b))
      → (at : ℕ) × (y : A) × (slice_get (x ∷ xs) at ≡ Some y) × (h y ≡ Some b)
  by None q m e r = further (r m e)
  by (Some c) q zero e r = (0, x, refl, q ∙ e)
  by (Some c) q (suc m) e r = further (r m e)

-- Two that are picked one behind the other stand so.
pub record TwoPicked {A B : Type 0} (h : A → Option B) (xs : List A) (b c : B) : Type 0 where
  pub first : ℕ
  pub second : ℕ
  pub x : A
  pub y : A
  pub less : first < second
  pub x_there : slice_get xs first ≡ Some x
  pub y_there : slice_get xs second ≡ Some y
  pub x_is : h x ≡ Some b
  pub y_is : h y ≡ Some c

pub two_picked : {A B : Type 0} (h : A → Option B) (xs : List A) (m n : ℕ) (b c : B) → m < n → slice_get (filter_map h xs) m ≡ Some b → slice_get (filter_map h xs) n ≡ Some c → TwoPicked h xs b c
two_picked h [] m n b c l e f = none_some e
two_picked {A} {B} h (x ∷ xs) m n b c l e f = by (h x) refl m n l e f (λ m n l e f. two_picked h xs m n b c l e f) where
  further : TwoPicked h xs b c → TwoPicked h (x ∷ xs) b c
  further r = let less = r.less in record { first = suc r.first; second = suc r.second; x = r.x; y = r.y; less = omega (arith, less); x_there = r.x_there; y_there = r.y_there; x_is = r.x_is; y_is = r.y_is }

  by : (o : Option B) → h x ≡ o → (m n : ℕ) → m < n → slice_get (cons_option o (filter_map h xs)) m ≡ Some b → slice_get (cons_option o (filter_map h xs)) n ≡ Some c
      → ((m n : ℕ) → m < n → slice_get (filter_map h xs) m ≡ Some b → slice_get (filter_map h xs) n ≡ Some c → TwoPicked h xs b c) → TwoPicked h (x ∷ xs) b c
  by None q m n l e f r = further (r m n l e f)
  by (Some d) q m zero l e f r = absurd (omega (arith, l))
  by (Some d) q zero (suc n) l e f r =
      let p = picked h xs n c f in
      record { first = 0; second = suc p.0; x = x; y = p.1; less = omega arith; x_there = refl; y_there = p.2; x_is = q ∙ e; y_is = p.3 }
  by (Some d) q (suc m) (suc n) l e f r = further (r m n (omega (arith, l)) e f)

pub from_flat : {A B : Type 0} (f : A → List B) (xs : List A) (i : ℕ) (b : B) → slice_get (flat_map f xs) i ≡ Some b → (q : ℕ) × (x : A) × (k : ℕ) × (slice_get xs q ≡ Some x) × (slice_get (f x) k ≡ Some b)
from_flat f [] i b e = none_some e
from_flat f (x ∷ xs) i b e = ⊎_elim
    (λ here. (0, x, i, refl, here))
    (λ there. let r = from_flat f xs there.0 b there.2 in (suc r.0, r.1, r.2, r.3, r.4))
    (in_append (f x) (flat_map f xs) i b (subst (λ l. slice_get l i ≡ Some b) (flat_map-cons f x xs) e))

-- what passes is picked
pub pick_there : {A B : Type 0} (h : A → Option B) (xs : List A) (at : ℕ) (x : A) (b : B) → slice_get xs at ≡ Some x → h x ≡ Some b → (m : ℕ) × (slice_get (filter_map h xs) m ≡ Some b)
pick_there h [] at x b e q = none_some e
pick_there h (y ∷ ys) zero x b e q = (0, ap (λ o. slice_get (cons_option o (filter_map h ys)) 0) (ap h (some_same e) ∙ q))
pick_there {A} {B} h (y ∷ ys) (suc at) x b e q = by (h y) (pick_there h ys at x b e q) where
  by : (o : Option B) → (m : ℕ) × (slice_get (filter_map h ys) m ≡ Some b) → (m : ℕ) × (slice_get (cons_option o (filter_map h ys)) m ≡ Some b)
  by None r = r
  by (Some c) r = (suc r.0, r.1)

-- Lists of lists whose keys rise

module _ {B : Type 0} (key : B → ℕ) where
  abbrev pub KeysRise : List B → Type 0
  KeysRise ys = (i j : ℕ) (a b : B) → i < j → slice_get ys i ≡ Some a → slice_get ys j ≡ Some b → key a < key b

  pub flat_rises : {A : Type 0} (f : A → List B) (xs : List A) → ((q : ℕ) (x : A) → slice_get xs q ≡ Some x → KeysRise (f x))
      → ((q r : ℕ) (x y : A) → q < r → slice_get xs q ≡ Some x → slice_get xs r ≡ Some y → (k l : ℕ) (a b : B) → slice_get (f x) k ≡ Some a → slice_get (f y) l ≡ Some b → key a < key b)
      → KeysRise (flat_map f xs)
  flat_rises f [] inner across i j a b l e g = none_some e
  flat_rises {A} f (x ∷ xs) inner across i j a b l e g = ⊎_elim
      (λ here_i. ⊎_elim
      (λ here_j. inner 0 x refl i j a b l here_i here_j)
      (λ there_j. let r = from_flat f xs there_j.0 b there_j.2 in across 0 (suc r.0) x r.1 (omega arith) refl r.3 i r.2 a b here_i r.4)
      (split j b g))
      (λ there_i. ⊎_elim
      (λ here_j. let below = below_length (f x) j b here_j in let at : i ≡ length (f x) + there_i.0 = there_i.1 in absurd (omega (arith, below, at, l)))
      (λ there_j.
      let p : i ≡ length (f x) + there_i.0 = there_i.1 in
      let q : j ≡ length (f x) + there_j.0 = there_j.1 in
      flat_rises f xs (λ n y. inner (suc n) y) (λ n m y w h. across (suc n) (suc m) y w (omega (arith, h))) there_i.0 there_j.0 a b (omega (arith, p, q, l)) there_i.2 there_j.2)
      (split j b g))
      (split i a e)
    where
      split : (i : ℕ) (b : B) → slice_get (flat_map f (x ∷ xs)) i ≡ Some b → (slice_get (f x) i ≡ Some b) ⊎ ((j : ℕ) × (i ≡ length (f x) + j) × (slice_get (flat_map f xs) j ≡ Some b))
      split i b e = in_append (f x) (flat_map f xs) i b (subst (λ l. slice_get l i ≡ Some b) (flat_map-cons f x xs) e)
