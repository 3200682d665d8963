-- The bytes of names.
use Rattle.std.proofs.Common.{◌≡◌, ℕ, zero, suc, ◌+◌, ◌*◌, ◌-◌, ◌^◌, ◌/◌, ◌%◌, ◌<◌, ◌≤◌, min, Bool, true, false, List, [], ◌∷◌, ◌++◌, map, sum, length, get_or, refl, sym, ap, ap₂, ◌∙◌, arith, decimal, codes, lit≤, add-one}
use Rattle.std.specs.Prelude.{Option, None, slice_get, nat_le, if◌then◌else◌}
use Rattle.std.specs.List.{flat_map}
use Rattle.std.proofs.lemmas.Grind.{common_steps}
use Rattle.std.proofs.lemmas.List.{map-append}
use Rattle.std.proofs.lemmas.List.Sums.{sum_by-cons, sum_by-append}
use Rattle.std.proofs.lemmas.Nat.{pow-add}
use Rattle.std.proofs.lemmas.Fmt.{decimal_digit, decimal_step_wide}
use Rattle.std.proofs.lemmas.Bool.{leb-true, leb-false}
use Rattle.fir_types.specs.declared.fir_type.FirType.{FirType}
use Rattle.fir_types.specs.declared.fir_type.Field.{Field}
use Rattle.fir_types.specs.declared.fir_type.Shape.TheVariants as shape
use Rattle.fir_types.specs.declared.leaf.TypeLeaf.{TypeLeaf}
use Rattle.fir_types.specs.declared.leaf.PathStep.{PathStep}
use Rattle.fir_types.specs.declared.leaf.PathStep.TheVariants as step
use Rattle.fir_types.specs.Leaves.{leaves, count, field_leaves, elements, under}
use Rattle.fir_types.proofs.Counts.{counted}
use Rattle.fir_types.proofs.Layers.{leaves-bundle, leaves-vector, leaves-field, count-vector}
use Rattle.fir_tree.specs.LeafNames.{Texts, text_of, step_text, way_text, leaf_text}
use Rattle.fir_tree.specs.Caps.{cap}
use Rattle.fir_tree.specs.Texts.{name_bytes, way_length, ways, way_bytes, field_bytes, index_bytes}
use Rattle.fir_tree.proofs.Capping.{cap_plus, cap_times}

none_there : {X : Type 0} (xs : List X) (i : ℕ) (d : X) → slice_get xs i ≡ None → get_or xs i d ≡ d
none_there [] i d h = refl
none_there (x ∷ xs) zero d h = absurd cc
none_there (x ∷ xs) (suc i) d h = none_there xs i d h

pub no_text : (texts : Texts) (id : ℕ) (found : Option (List ℕ)) → found ≡ slice_get texts id → found ≡ None → length (text_of texts id) ≡ 0
no_text texts id found e h = ap length (none_there texts id [] (sym e ∙ h))

-- Lists of leaves

sum_cons : (n : ℕ) (ns : List ℕ) → sum (n ∷ ns) ≡ n + sum ns
sum_cons n ns = sum_by-cons (λ (x : ℕ). x) n ns

sum_append : (xs ys : List ℕ) → sum (xs ++ ys) ≡ sum xs + sum ys
sum_append xs ys = sum_by-append (λ (x : ℕ). x) xs ys

ways-append : (texts : Texts) (xs ys : List TypeLeaf) → ways texts (xs ++ ys) ≡ ways texts xs + ways texts ys
ways-append texts xs ys = ap sum (map-append (way_length texts) xs ys) ∙ sum_append (map (way_length texts) xs) (map (way_length texts) ys)

length_append : (xs ys : List ℕ) → length (xs ++ ys) ≡ length xs + length ys
length_append xs ys = grind (arith, common_steps)

-- leaves behind a step
turn : (s w n b : ℕ) → s + w + (n * s + b) ≡ (n + 1) * s + (w + b)
turn s w n b = grind (arith, common_steps)

ways-under : (texts : Texts) (s : PathStep) (flip : Bool) (ls : List TypeLeaf) → ways texts (map (under (s ∷ []) flip) ls) ≡ length ls * length (step_text texts s) + ways texts ls
ways-under texts s flip [] = nothing (length (step_text texts s))
  where
    nothing : (k : ℕ) → ◌≡◌ {A = ℕ} 0 (0 * k + 0)
    nothing k = omega arith
ways-under texts s flip (l ∷ ls) =
    let t = length (step_text texts s) in
    let first : way_length texts (under (s ∷ []) flip l) ≡ t + way_length texts l = length_append (step_text texts s) (way_text texts l.path) in
    sum_cons (way_length texts (under (s ∷ []) flip l)) (map (way_length texts) (map (under (s ∷ []) flip) ls))
    ∙ ap₂ (λ a b. a + b) first (ways-under texts s flip ls)
    ∙ turn t (way_length texts l) (length ls) (ways texts ls)
    ∙ ap₂ (λ n b. n * t + b) (add-one (length ls)) (sym (sum_cons (way_length texts l) (map (way_length texts) ls)))

pub ways-field : (texts : Texts) (f : Field) → field_bytes texts f ≡ count f.typ * (length (text_of texts f.name.id) + 1) + way_bytes texts f.typ
ways-field texts f =
    let n = length (text_of texts f.name.id) in
    let dotted : length (step_text texts (step.Field f.name.id)) ≡ n + 1 = omega arith in
    ap (ways texts) (leaves-field f) ∙ ways-under texts (step.Field f.name.id) f.flip (leaves f.typ)
    ∙ ap₂ (λ c k. c * k + way_bytes texts f.typ) (sym (counted f.typ)) dotted

ways-fields : (texts : Texts) (fs : List Field) → ways texts (flat_map field_leaves fs) ≡ sum (map (field_bytes texts) fs)
ways-fields texts [] = refl
ways-fields texts (f ∷ fs) =
    ways-append texts (field_leaves f) (flat_map field_leaves fs) ∙ ap (λ n. field_bytes texts f + n) (ways-fields texts fs)
    ∙ sym (sum_cons (field_bytes texts f) (map (field_bytes texts) fs))

pub ways-bundle : (texts : Texts) (t : FirType) (fs : List Field) → t.shape ≡ shape.Bundle fs → way_bytes texts t ≡ sum (map (field_bytes texts) fs)
ways-bundle texts t fs e = ap (ways texts) (leaves-bundle t fs e) ∙ ways-fields texts fs

more_elements : (n w c b d : ℕ) → n * w + c * b + (c * d + w) ≡ (n + 1) * w + c * (b + d)
more_elements n w c b d = grind (arith, common_steps)

ways-elements : (texts : Texts) (ls : List TypeLeaf) (n : ℕ) → ways texts (elements ls n) ≡ n * ways texts ls + length ls * index_bytes n
unfolding index_bytes
ways-elements texts ls zero = grind (arith, common_steps)
ways-elements texts ls (suc n) =
    let w = ways texts ls in
    let c = length ls in
    let d : length (step_text texts (step.Element n)) ≡ 2 + length (decimal n) = let s = length_append (decimal n) (codes "]") in omega (arith, s) in
    ways-append texts (elements ls n) (map (under (step.Element n ∷ []) false) ls)
    ∙ ap₂ (λ a b. a + b) (ways-elements texts ls n) (ways-under texts (step.Element n) false ls ∙ ap (λ k. c * k + w) d)
    ∙ more_elements n w c (index_bytes n) (2 + length (decimal n))
    ∙ ap (λ k. k * w + c * (index_bytes n + (2 + length (decimal n)))) (add-one n)

pub ways-vector : (texts : Texts) (t e : FirType) (n : ℕ) → t.shape ≡ shape.Vector e n → way_bytes texts t ≡ n * way_bytes texts e + count e * index_bytes n
ways-vector texts t e n h =
    ap (ways texts) (leaves-vector t e n h) ∙ ways-elements texts (leaves e) n ∙ ap (λ c. n * way_bytes texts e + c * index_bytes n) (sym (counted e))

-- the names of all leaves
name_turn : (s w n b : ℕ) → s + w + (n * s + b) ≡ (n + 1) * s + (w + b)
name_turn s w n b = grind (arith, common_steps)

names-list : (texts : Texts) (id : ℕ) (ls : List TypeLeaf) → sum (map (λ leaf. length (leaf_text texts id leaf.path)) ls) ≡ length ls * length (text_of texts id) + ways texts ls
names-list texts id [] = nothing (length (text_of texts id))
  where
    nothing : (k : ℕ) → ◌≡◌ {A = ℕ} 0 (0 * k + 0)
    nothing k = omega arith
names-list texts id (l ∷ ls) =
    let t = length (text_of texts id) in
    let f = λ (leaf : TypeLeaf). length (leaf_text texts id leaf.path) in
    sum_cons (f l) (map f ls) ∙ ap₂ (λ a b. a + b) (length_append (text_of texts id) (way_text texts l.path)) (names-list texts id ls)
    ∙ name_turn t (way_length texts l) (length ls) (ways texts ls)
    ∙ ap₂ (λ n b. n * t + b) (add-one (length ls)) (sym (sum_cons (way_length texts l) (map (way_length texts) ls)))

pub names-type : (texts : Texts) (id : ℕ) (t : FirType) → name_bytes texts id t ≡ count t * length (text_of texts id) + way_bytes texts t
names-type texts id t = names-list texts id (leaves t) ∙ ap (λ c. c * length (text_of texts id) + way_bytes texts t) (sym (counted t))

-- Capped

turned : (a b : ℕ) → a * b ≡ b * a
turned a b = grind (arith, common_steps)

pub cap_front : (a b : ℕ) → cap (cap a * b) ≡ cap (a * b)
cap_front a b = ap cap (turned (cap a) b) ∙ cap_times b a ∙ ap cap (turned b a)

pub cap_product : (a b : ℕ) → cap (cap a * cap b) ≡ cap (a * b)
cap_product a b = cap_times (cap a) b ∙ cap_front a b

-- products and a sum, as the bodies make them

pub name_capped : (n w t : ℕ) (count product way total : ℕ) → count ≡ cap n → product ≡ cap (count * t) → way ≡ cap w → total ≡ cap (product + way) → total ≡ cap (n * t + w)
name_capped n w t count product way total c p h e =
    e ∙ ap₂ (λ a b. cap (a + b)) (p ∙ ap (λ x. cap (x * t)) c ∙ cap_front n t) h ∙ cap_plus (n * t) w

pub field_capped : (n w t : ℕ) (count dotted product way total : ℕ) → count ≡ cap n → dotted ≡ cap (t + 1) → product ≡ cap (count * dotted) → way ≡ cap w → total ≡ cap (product + way)
    → total ≡ cap (n * (t + 1) + w)
field_capped n w t count dotted product way total c d p h e =
    e ∙ ap₂ (λ a b. cap (a + b)) (p ∙ ap₂ (λ x y. cap (x * y)) c d ∙ cap_product n (t + 1)) h ∙ cap_plus (n * (t + 1)) w

-- runs of vectors

pub longer_capped : (i l e b : ℕ) (first index second total : ℕ) → first ≡ cap (i * l) → index ≡ cap b → second ≡ cap (e * index) → total ≡ cap (first + second)
    → total ≡ cap (i * l + e * b)
longer_capped i l e b first index second total f x s t =
    t ∙ ap₂ (λ x y. cap (x + y)) f (s ∙ ap (λ y. cap (e * y)) x ∙ cap_times e b) ∙ cap_plus (i * l) (e * b)

pub pair_plus : (a b : ℕ) (first second total : ℕ) → first ≡ cap a → second ≡ cap b → total ≡ cap (first + second) → total ≡ cap (a + b)
pair_plus a b first second total f s t = t ∙ ap₂ (λ x y. cap (x + y)) f s ∙ cap_plus a b

pair_front : (x w y c : ℕ) → cap (cap x * w + cap y * c) ≡ cap (x * w + y * c)
pair_front x w y c = sym (cap_plus (cap x * w) (cap y * c)) ∙ ap₂ (λ a b. cap (a + b)) (cap_front x w) (cap_front y c) ∙ cap_plus (x * w) (y * c)

pair_behind : (x w y c : ℕ) → cap (x * cap w + y * cap c) ≡ cap (x * w + y * c)
pair_behind x w y c = sym (cap_plus (x * cap w) (y * cap c)) ∙ ap₂ (λ a b. cap (a + b)) (cap_times x w) (cap_times y c) ∙ cap_plus (x * w) (y * c)

later_times : (a b c : ℕ) → a * (b * c) ≡ a * b * c
later_times a b c = grind (arith, common_steps)

turned_in : (e n w c b i : ℕ) → e * (n * w + c * b) + i * (n * c) ≡ e * n * w + (i * n + e * b) * c
turned_in e n w c b i = grind (arith, common_steps)

-- what holds of a vector's elements, all of them in each vector around
pub leaves_on : (typ inside element : FirType) (length elements after : ℕ) → inside.shape ≡ shape.Vector element length → cap (count typ) ≡ cap (elements * count inside)
    → after ≡ cap (elements * length) → cap (count typ) ≡ cap (after * count element)
leaves_on typ inside element length elements after is h e =
    h ∙ ap (λ n. cap (elements * n)) (count-vector inside element length is) ∙ ap cap (later_times elements length (count element))
    ∙ sym (ap (λ n. cap (n * count element)) e ∙ cap_front (elements * length) (count element))

pub bytes_on : (texts : Texts) (typ inside element : FirType) (length elements indices after next : ℕ) → inside.shape ≡ shape.Vector element length
    → cap (way_bytes texts typ) ≡ cap (elements * way_bytes texts inside + indices * count inside)
    → after ≡ cap (elements * length) → next ≡ cap (indices * length + elements * index_bytes length)
    → cap (way_bytes texts typ) ≡ cap (after * way_bytes texts element + next * count element)
bytes_on texts typ inside element length elements indices after next is h e n =
    let w = way_bytes texts element in
    let c = count element in
    h ∙ ap₂ (λ x y. cap (elements * x + indices * y)) (ways-vector texts inside element length is) (count-vector inside element length is)
    ∙ ap cap (turned_in elements length w c (index_bytes length) indices)
    ∙ sym (ap₂ (λ x y. cap (x * w + y * c)) e n ∙ pair_front (elements * length) w (indices * length + elements * index_bytes length) c)

pub leaves_around : (typ inside : FirType) (elements leaves after : ℕ) → cap (count typ) ≡ cap (elements * count inside) → leaves ≡ cap (count inside)
    → after ≡ cap (elements * leaves) → after ≡ cap (count typ)
leaves_around typ inside elements leaves after h l a = a ∙ ap (λ n. cap (elements * n)) l ∙ cap_times elements (count inside) ∙ sym h

pub bytes_around : (texts : Texts) (typ inside : FirType) (elements indices leaves bytes after : ℕ)
    → cap (way_bytes texts typ) ≡ cap (elements * way_bytes texts inside + indices * count inside) → leaves ≡ cap (count inside) → bytes ≡ cap (way_bytes texts inside)
    → after ≡ cap (elements * bytes + indices * leaves) → after ≡ cap (way_bytes texts typ)
bytes_around texts typ inside elements indices leaves bytes after h l b a =
    a ∙ ap₂ (λ x y. cap (elements * x + indices * y)) b l ∙ pair_behind elements (way_bytes texts inside) indices (count inside) ∙ sym h

once : (n : ℕ) → n ≡ 1 * n
once n = omega arith

pub leaves_begin : (typ : FirType) → cap (count typ) ≡ cap (1 * count typ)
leaves_begin typ = ap cap (once (count typ))

begins : (w c : ℕ) → w ≡ 1 * w + 0 * c
begins w c = omega arith

pub bytes_begin : (texts : Texts) (typ : FirType) → cap (way_bytes texts typ) ≡ cap (1 * way_bytes texts typ + 0 * count typ)
bytes_begin texts typ = ap cap (begins (way_bytes texts typ) (count typ))

-- The digits of numbers

-- how many of the powers of 10 from 10 to that of this exponent are at most n
reach : ℕ → ℕ → ℕ
reach zero n = 0
reach (suc k) n = reach k n + (if nat_le (10 ^ suc k) n then 1 else 0)

-- how far the powers are below n, together
pub beyond : ℕ → ℕ → ℕ
beyond zero n = 0
beyond (suc k) n = beyond k n + (n - 10 ^ suc k)

power : (k : ℕ) → 10 ^ suc k ≡ 10 ^ k * 10
power k = ap (λ x. 10 ^ x) (sym (add-one k)) ∙ pow-add 10 k 1

one_more : (p n : ℕ) (b : Bool) → nat_le p n ≡ b → suc n - p ≡ n - p + (if b then 1 else 0)
one_more p n true e = let l = leb-true p n e in omega arith
one_more p n false e = let l = leb-false p n e in omega arith

beyond_more : (k n : ℕ) → beyond k (suc n) ≡ beyond k n + reach k n
unfolding beyond reach
beyond_more zero n = refl
beyond_more (suc k) n =
    let o = one_more (10 ^ suc k) n (nat_le (10 ^ suc k) n) refl in
    let b = beyond_more k n in
    sums (beyond k (suc n)) (beyond k n) (reach k n) (suc n - 10 ^ suc k) (n - 10 ^ suc k) (if nat_le (10 ^ suc k) n then 1 else 0) b o
  where
    sums : (x y z u v w : ℕ) → x ≡ y + z → u ≡ v + w → x + u ≡ y + v + (z + w)
    sums x y z u v w h g = omega arith

at_or : (p n : ℕ) (b : Bool) → nat_le p n ≡ b → p ≤ n → ◌≡◌ {A = ℕ} (if b then 1 else 0) 1
at_or p n true e l = refl
at_or p n false e l = let g = leb-false p n e in absurd (omega arith)

not_at : (p n : ℕ) (b : Bool) → nat_le p n ≡ b → n < p → ◌≡◌ {A = ℕ} (if b then 1 else 0) 0
not_at p n true e l = let g = leb-true p n e in absurd (omega arith)
not_at p n false e l = refl

all_reached : (k n : ℕ) → 10 ^ k ≤ n → reach k n ≡ k
unfolding reach
all_reached zero n h = refl
all_reached (suc k) n h =
    let p = power k in
    let below : 10 ^ k ≤ n = smaller (10 ^ k) (10 ^ suc k) p h in
    ap₂ (λ a b. a + b) (all_reached k n below) (at_or (10 ^ suc k) n (nat_le (10 ^ suc k) n) refl h) ∙ add-one k
  where
    smaller : (q r : ℕ) → r ≡ q * 10 → r ≤ n → q ≤ n
    smaller q r e l = omega arith

tenth_below : (n p q : ℕ) → q ≡ p * 10 → n < q → n / 10 < p
tenth_below n p q e l = omega arith

tenth_above : (n p q : ℕ) → q ≡ p * 10 → q ≤ n → p ≤ n / 10
tenth_above n p q e l = omega arith

tenth_small : (n m : ℕ) → n < m → n / 10 < m
tenth_small n m l = omega arith

digits_by : (k n : ℕ) (b : Bool) → nat_le (10 ^ suc k) n ≡ b → n < 10 ^ suc (suc k) → n < 10 ^ 64 → 10 ≤ 10 ^ suc k
    → ((m : ℕ) → m < 10 ^ suc k → m < 10 ^ 64 → length (decimal m) ≡ 1 + reach k m) → length (decimal n) ≡ 1 + reach (suc k) n
unfolding reach
digits_by k n true e l w t own =
    let high = leb-true (10 ^ suc k) n e in
    let below = tenth_below n (10 ^ suc k) (10 ^ suc (suc k)) (power (suc k)) l in
    let above = tenth_above n (10 ^ k) (10 ^ suc k) (power k) high in
    let inner = own (n / 10) below (tenth_small n (10 ^ 64) w) in
    let r = all_reached k (n / 10) above in
    let r2 = all_reached k n (lower (10 ^ k) (10 ^ suc k) (power k) high) in
    let at = at_or (10 ^ suc k) n (nat_le (10 ^ suc k) n) refl high in
    ap length (decimal_step_wide n (enough (10 ^ suc k) t high) w) ∙ length_append (decimal (n / 10)) ((48 + n % 10) ∷ [])
    ∙ ap (λ x. x + 1) (inner ∙ ap (λ x. 1 + x) r) ∙ ends k (reach k n) (if nat_le (10 ^ suc k) n then 1 else 0) r2 at
  where
    lower : (q r : ℕ) → r ≡ q * 10 → r ≤ n → q ≤ n
    lower q r e l = omega arith

    enough : (q : ℕ) → 10 ≤ q → q ≤ n → 10 ≤ n
    enough q a b = omega arith

    ends : (j x y : ℕ) → x ≡ j → y ≡ 1 → 1 + j + 1 ≡ 1 + (x + y)
    ends j x y a b = omega arith
digits_by k n false e l w t own =
    let low = leb-false (10 ^ suc k) n e in
    own n low w ∙ ends (reach k n) (if nat_le (10 ^ suc k) n then 1 else 0) (not_at (10 ^ suc k) n (nat_le (10 ^ suc k) n) refl low)
  where
    ends : (x y : ℕ) → y ≡ 0 → 1 + x ≡ 1 + (x + y)
    ends x y a = omega arith

ten_at_least : (k : ℕ) → 10 ≤ 10 ^ suc k
ten_at_least zero = lit≤ tt
ten_at_least (suc k) = let h = ten_at_least k in let p = power (suc k) in larger (10 ^ suc k) (10 ^ suc (suc k)) p h
  where
    larger : (q r : ℕ) → r ≡ q * 10 → 10 ≤ q → 10 ≤ r
    larger q r e l = omega arith

none_reached : (n : ℕ) → reach 0 n ≡ 0
unfolding reach
none_reached n = refl

no_bytes : (k : ℕ) → index_bytes 0 ≡ 0 * 3 + beyond k 0
unfolding index_bytes beyond
no_bytes zero = refl
no_bytes (suc k) = no_bytes k ∙ same (beyond k 0) (10 ^ suc k)
  where
    same : (b p : ℕ) → 0 * 3 + b ≡ 0 * 3 + (b + (0 - p))
    same b p = omega arith

index_step : (n : ℕ) → index_bytes (suc n) ≡ index_bytes n + (2 + length (decimal n))
unfolding index_bytes
index_step n = refl

digits_reached : (k n : ℕ) → n < 10 ^ suc k → n < 10 ^ 64 → length (decimal n) ≡ 1 + reach k n
digits_reached zero n l w = ap length (decimal_digit n l) ∙ ap (λ x. 1 + x) (sym (none_reached n))
digits_reached (suc k) n l w = digits_by k n (nat_le (10 ^ suc k) n) refl l w (ten_at_least k) (digits_reached k)

bytes_to : (m n : ℕ) → n ≤ m → m ≤ 10 ^ 39 → m ≤ 10 ^ 64 → index_bytes n ≡ n * 3 + beyond 38 n
bytes_to m zero l w v = no_bytes 38
bytes_to m (suc n) l w v =
    let h = bytes_to m n (below l) w v in
    let d = digits_reached 38 n (within (10 ^ 39) l w) (within (10 ^ 64) l v) in
    index_step n ∙ sums (index_bytes n) (length (decimal n)) (beyond 38 n) (reach 38 n) (beyond 38 (suc n)) h d (beyond_more 38 n)
  where
    below : suc n ≤ m → n ≤ m
    below a = omega arith

    within : (p : ℕ) → suc n ≤ m → m ≤ p → n < p
    within p a b = omega arith

    sums : (i d b r b' : ℕ) → i ≡ n * 3 + b → d ≡ 1 + r → b' ≡ b + r → i + (2 + d) ≡ suc n * 3 + b'
    sums i d b r b' h e g = omega arith

pub all_bytes : (n : ℕ) → n ≤ 2 ^ 128 - 1 → index_bytes n ≡ n * 3 + beyond 38 n
all_bytes n l = bytes_to (2 ^ 128 - 1) n l (lit≤ tt) (lit≤ tt)

-- one power more
cap_below : (m n p : ℕ) → n ≤ m → n - min p m ≡ n - p
cap_below m n p l = omega arith

pub power_more : (k before after : ℕ) → before ≡ cap (10 ^ k) → after ≡ cap (before * 10) → after ≡ cap (10 ^ suc k)
power_more k before after h e = e ∙ ap (λ x. cap (x * 10)) h ∙ cap_front (10 ^ k) 10 ∙ ap cap (sym (power k))

pub beyond_step : (k n power total less after : ℕ) → n ≤ 2 ^ 128 - 1 → power ≡ cap (10 ^ suc k) → total ≡ cap (n * 3 + beyond k n) → less ≡ n - power → after ≡ cap (total + less)
    → after ≡ cap (n * 3 + beyond (suc k) n)
unfolding beyond
beyond_step k n power total less after l p t s e =
    e ∙ ap₂ (λ x y. cap (x + y)) t (s ∙ ap (λ x. n - x) p ∙ cap_below (2 ^ 128 - 1) n (10 ^ suc k) l)
    ∙ left_to (2 ^ 128 - 1) (n * 3 + beyond k n) (n - 10 ^ suc k) ∙ ap cap (later (n * 3) (beyond k n) (n - 10 ^ suc k))
  where
    left_to : (m a b : ℕ) → min (min a m + b) m ≡ min (a + b) m
    left_to m a b = omega arith

    later : (a b c : ℕ) → a + b + c ≡ a + (b + c)
    later a b c = omega arith

pub power_plus : (k before after : ℕ) → before ≡ cap (10 ^ k) → after ≡ cap (before * 10) → after ≡ cap (10 ^ (k + 1))
power_plus k before after h e = power_more k before after h e ∙ ap (λ x. cap (10 ^ x)) (sym (add-one k))

pub beyond_plus : (k n power total less after : ℕ) → n < 2 ^ 128 → power ≡ cap (10 ^ (k + 1)) → total ≡ cap (n * 3 + beyond k n) → less ≡ n - power → after ≡ cap (total + less)
    → after ≡ cap (n * 3 + beyond (k + 1) n)
beyond_plus k n power total less after l p t s e =
    beyond_step k n power total less after (below n l) (p ∙ ap (λ x. cap (10 ^ x)) (add-one k)) t s e ∙ ap (λ x. cap (n * 3 + beyond x n)) (sym (add-one k))
  where
    below : (x : ℕ) → x < 2 ^ 128 → x ≤ 2 ^ 128 - 1
    below x h = omega arith

pub beyond_begin : (n total : ℕ) → total ≡ cap (n * 3) → total ≡ cap (n * 3 + beyond 0 n)
unfolding beyond
beyond_begin n total e = e ∙ ap cap (none (n * 3))
  where
    none : (x : ℕ) → x ≡ x + 0
    none x = omega arith

pub beyond_end : (k n total : ℕ) → n < 2 ^ 128 → 38 ≤ k → k ≤ 38 → total ≡ cap (n * 3 + beyond k n) → total ≡ cap (index_bytes n)
beyond_end k n total l a b e =
    let s : k ≡ 38 = omega arith in
    e ∙ ap (λ x. cap (n * 3 + beyond x n)) s ∙ sym (ap cap (all_bytes n (below n l)))
  where
    below : (x : ℕ) → x < 2 ^ 128 → x ≤ 2 ^ 128 - 1
    below x h = omega arith
