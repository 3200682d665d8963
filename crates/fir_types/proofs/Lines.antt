-- The lines of a memory, one after another, and the bits of an address.
use Rattle.std.proofs.Common.{◌≡◌, ℕ, zero, suc, ◌+◌, ◌-◌, ◌*◌, ◌^◌, ◌<◌, ◌≤◌, Bool, true, false, List, [], ◌∷◌, ◌++◌, length, take, get_or, filter_map, option_to_list, Option, Some, None, refl, sym, ap, ◌∙◌, subst, if◌then◌else◌, nat_le, eqb, arith}
use Rattle.std.specs.List.{cons_option}
use Rattle.std.proofs.lemmas.List.{take_more}
use Rattle.std.proofs.lemmas.List.Elements.{filter_map-append}
use Rattle.std.proofs.lemmas.Nat.{pow_below, pow-add}
use borrow.Author.Tests.{leb-true, leb-false, eqb-true, eqb-false}
use Rattle.fir_types.specs.declared.memory.MemLine.{MemLine}
use Rattle.fir_types.specs.declared.memory.MemLine.TheVariants as line
use Rattle.fir_types.specs.declared.fir_type.FirType.{FirType}
use Rattle.place_text.specs.declared.place.Place.{Place}
use Rattle.fir_types.specs.Memories.{element_in, depth_in, first_or}
use Rattle.fir_types.specs.Bundles.{address_bits, least_reaching}

one_line : {B : Type 0} (o : Option B) → cons_option o [] ≡ option_to_list o
one_line None = refl
one_line (Some y) = refl

pub lines_more : {A B : Type 0} (h : A → Option B) (xs : List A) (i : ℕ) (x : A) → i < length xs → x ≡ get_or xs i x
    → filter_map h (take (i + 1) xs) ≡ filter_map h (take i xs) ++ option_to_list (h x)
lines_more h xs i x l e =
    ap (filter_map h) (take_more xs i x l) ∙ filter_map-append h (take i xs) (get_or xs i x ∷ [])
    ∙ ap (λ y. filter_map h (take i xs) ++ filter_map h (y ∷ [])) (sym e) ∙ ap (λ ys. filter_map h (take i xs) ++ ys) (one_line (h x))

pub none_more : {A B : Type 0} (h : A → Option B) (xs : List A) (i : ℕ) (x : A) → i < length xs → x ≡ get_or xs i x
    → filter_map h (take i xs) ≡ [] → h x ≡ None → filter_map h (take (i + 1) xs) ≡ []
none_more h xs i x l e n f = lines_more h xs i x l e ∙ ap (λ ys. ys ++ option_to_list (h x)) n ∙ ap option_to_list f

front_none : {B : Type 0} (o : Option B) (ys : List B) → cons_option o ys ≡ [] → o ≡ None
front_none None ys e = refl
front_none (Some y) ys e = absurd cc

rest_none : {B : Type 0} (o : Option B) (ys : List B) → cons_option o ys ≡ [] → ys ≡ []
rest_none None ys e = e
rest_none (Some y) ys e = absurd cc

pub first_line : {A B : Type 0} (h : A → Option B) (xs : List A) (i : ℕ) (x : A) (y other : B) → i < length xs → x ≡ get_or xs i x
    → filter_map h (take i xs) ≡ [] → h x ≡ Some y → first_or other (filter_map h xs) ≡ y
first_line h [] i x y other l e n f = absurd (omega arith)
first_line h (z ∷ xs) zero x y other l e n f = ap (λ o. first_or other (cons_option o (filter_map h xs))) (ap h (sym e) ∙ f)
first_line h (z ∷ xs) (suc i) x y other l e n f =
    ap (λ o. first_or other (cons_option o (filter_map h xs))) (front_none (h z) (filter_map h (take i xs)) n)
    ∙ first_line h xs i x y other (omega arith) e (rest_none (h z) (filter_map h (take i xs)) n) f

pub not_depth : (l : MemLine) → ((at : Place) (n : ℕ) → l ≡ line.Depth at n → ⊥) → depth_in l ≡ None
not_depth (line.Depth at n) h = absurd (h at n refl)
not_depth (line.Element at t) h = refl
not_depth (line.ReadLatency at n) h = refl
not_depth (line.WriteLatency at n) h = refl
not_depth (line.ReadUnder at u) h = refl
not_depth (line.MemPort at m n) h = refl

pub not_element : (l : MemLine) → ((at : Place) (t : FirType) → l ≡ line.Element at t → ⊥) → element_in l ≡ None
not_element (line.Element at t) h = absurd (h at t refl)
not_element (line.Depth at n) h = refl
not_element (line.ReadLatency at n) h = refl
not_element (line.WriteLatency at n) h = refl
not_element (line.ReadUnder at u) h = refl
not_element (line.MemPort at m n) h = refl

-- the bits of an address

same : (depth from w : ℕ) (b : Bool) → eqb from w ≡ b → from ≤ w → depth ≤ 2 ^ from → ((v : ℕ) → from ≤ v → v < w → 2 ^ v < depth) → from ≡ w
same depth from w true e f r below = eqb-true from w e
same depth from w false e f r below =
    let n = eqb-false from w e in
    let l : from < w = omega arith in
    let g = below from (omega arith) l in
    absurd (omega arith)

later : (depth from w : ℕ) (b : Bool) → eqb from w ≡ b → from ≤ w → depth ≤ 2 ^ w → 2 ^ from < depth → suc from ≤ w
later depth from w true e f r g = let h = subst (λ x. 2 ^ x < depth) (eqb-true from w e) g in absurd (omega arith)
later depth from w false e f r g = let n = eqb-false from w e in omega arith

reached : (depth from more w : ℕ) (b : Bool) → nat_le depth (2 ^ from) ≡ b → from ≤ w → depth ≤ 2 ^ w → ((v : ℕ) → from ≤ v → v < w → 2 ^ v < depth)
    → (suc from ≤ w → least_reaching depth (suc from) more ≡ w) → (if b then from else least_reaching depth (suc from) more) ≡ w
reached depth from more w true t f r below next = same depth from w (eqb from w) refl f (leb-true depth (2 ^ from) t) below
reached depth from more w false t f r below next = next (later depth from w (eqb from w) refl f r (leb-false depth (2 ^ from) t))

least_is : (depth from more w : ℕ) → from ≤ w → w ≤ from + more → depth ≤ 2 ^ w → ((v : ℕ) → from ≤ v → v < w → 2 ^ v < depth)
    → least_reaching depth from more ≡ w
unfolding least_reaching
least_is depth from zero w f m r below = omega arith
least_is depth from (suc more) w f m r below =
    reached depth from more w (nat_le depth (2 ^ from)) refl f r below
    (λ l. least_is depth (suc from) more w l (omega arith) r (λ v g h. below v (omega arith) h))

below_power : (depth r v : ℕ) (b : Bool) → eqb v r ≡ b → v < r + 1 → 2 ^ r < depth → 2 ^ v < depth
below_power depth r v true e l p = subst (λ x. 2 ^ x < depth) (sym (eqb-true v r e)) p
below_power depth r v false e l p =
    let n = eqb-false v r e in
    let s : v < r = omega arith in
    let q = pow_below v r s in
    omega arith

-- the highest power of 2 that is below the depth is one lower
pub one_above : (depth r : ℕ) → 2 < depth → 2 ^ r ≤ depth - 1 → depth - 1 < 2 * 2 ^ r → r < 128 → r + 1 ≡ address_bits depth
unfolding address_bits
one_above depth r d low high small =
    let p : 2 ^ (r + 1) ≡ 2 ^ r * 2 = pow-add 2 r 1 in
    sym (least_is depth 1 127 (r + 1) (omega arith) (omega arith) (omega arith) (λ v f l. below_power depth r v (eqb v r) refl l (omega arith)))

pub at_least_one : (depth : ℕ) → depth ≤ 2 → 1 ≡ address_bits depth
unfolding address_bits
at_least_one depth d = sym (least_is depth 1 127 1 (omega arith) (omega arith) (omega arith) (λ v f l. absurd (omega arith)))

-- the least number from one on, to the power of which 2 reaches the depth
pub record IsLeast (depth from least : ℕ) : Type 0 where
  pub above : from ≤ least
  pub reaches : depth ≤ 2 ^ least
  pub lowest : (w : ℕ) → from ≤ w → depth ≤ 2 ^ w → least ≤ w

least_by : (depth from more : ℕ) (b : Bool) → nat_le depth (2 ^ from) ≡ b → (2 ^ from < depth → IsLeast depth (suc from) (least_reaching depth (suc from) more))
    → IsLeast depth from (if b then from else least_reaching depth (suc from) more)
least_by depth from more true t next = record { above = omega arith; reaches = leb-true depth (2 ^ from) t; lowest = λ w f r. f }
least_by depth from more false t next =
    let g = leb-false depth (2 ^ from) t in
    let n = next g in
    record { above = omega (arith, n.above); reaches = n.reaches; lowest = λ w f r. n.lowest w (later depth from w (eqb from w) refl f r g) r }

is_least : (depth from more : ℕ) → depth ≤ 2 ^ (from + more) → IsLeast depth from (least_reaching depth from more)
unfolding least_reaching
is_least depth from zero r = record { above = omega arith; reaches = subst (λ x. depth ≤ 2 ^ x) (omega arith) r; lowest = λ w f s. f }
is_least depth from (suc more) r =
    least_by depth from more (nat_le depth (2 ^ from)) refl (λ g. is_least depth (suc from) more (subst (λ x. depth ≤ 2 ^ x) (omega arith) r))

pub bits_least : (depth : ℕ) → depth ≤ 2 ^ 128 → IsLeast depth 1 (address_bits depth)
unfolding address_bits
bits_least depth r = is_least depth 1 127 r
