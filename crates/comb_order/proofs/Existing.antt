-- Where no leaf reads itself, the assignments have an order: each leaf is placed after all that it reads. Going from a leaf to
-- what it reads, the leaf that was left is never met again, so that there are ever fewer leaves to go to.
use Rattle.std.proofs.Common.{◌≡◌, ℕ, zero, suc, ◌+◌, ◌<◌, ◌≤◌, List, [], ◌∷◌, ◌++◌, length, slice_get, slice_index, Option, Some, None, refl, sym, ◌∙◌, subst, arith, ◌⊎◌, inl, inr, ⊎_elim}
use Rattle.std.specs.Prelude.{Contains}
use Rattle.std.proofs.lemmas.Bool.{cases_eq}
use Rattle.std.proofs.lemmas.Option.{slice_get_within}
use Rattle.ground_net.specs.declared.net.Net.{Net}
use Rattle.ground_net.specs.declared.net.Leaf.{Leaf}
use Rattle.ground_net.specs.declared.net.Role.{Role}
use Rattle.ground_net.specs.declared.net.Role.TheVariants as role
use Rattle.ground_net.specs.Reads.{IsAssigned, Reads, Through, itself, others, HasNoLoop, IsOrder, MentionsLeaves, direct_reads}
use Rattle.comb_order.specs.Search.{Stands}
use Rattle.comb_order.proofs.Steps.{push_old, push_new, push_cases, stands_push, stands_last}
use Rattle.comb_order.proofs.Leaves.{role_of}

-- a list without one element, and numbers below a bound

without : ℕ → List ℕ → List ℕ
without k [] = []
without zero (x ∷ xs) = xs
without (suc k) (x ∷ xs) = x ∷ without k xs

shorter : (k : ℕ) (xs : List ℕ) → k < length xs → length (without k xs) + 1 ≡ length xs
unfolding without
shorter k [] h = absurd (omega arith)
shorter zero (x ∷ xs) h = omega arith
shorter (suc k) (x ∷ xs) h = let rest : length (without k xs) + 1 ≡ length xs = shorter k xs (omega arith) in omega arith

stays : (xs : List ℕ) (x y : ℕ) (at : Contains xs x) → Contains xs y → ¬ (x ≡ y) → Contains (without at.0 xs) y
unfolding without
stays [] x y (k, below, is) c differ = absurd (omega arith)
stays (z ∷ zs) x y (zero, below, is) (zero, here, same) differ = absurd (differ (sym is ∙ same))
stays (z ∷ zs) x y (zero, below, is) (suc j, here, same) differ = (j, omega arith, same)
stays (z ∷ zs) x y (suc k, below, is) (zero, here, same) differ = (0, omega arith, same)
stays (z ∷ zs) x y (suc k, below, is) (suc j, here, same) differ =
    let rest = stays zs x y (k, omega arith, is) (j, omega arith, same) differ in
    (suc rest.0, omega arith, rest.2)

numbers : ℕ → List ℕ
numbers zero = []
numbers (suc n) = n ∷ numbers n

element_more : (x : ℕ) (xs : List ℕ) (y : ℕ) → Contains xs y → Contains (x ∷ xs) y
element_more x xs y (k, below, is) = (suc k, omega arith, is)

number_there : (n y : ℕ) → y < n → Contains (numbers n) y
unfolding numbers
number_there zero y h = absurd (omega arith)
number_there (suc n) y h = ⊎_elim (λ same. (0, omega arith, sym same)) (λ differ. element_more n (numbers n) y (number_there n y (omega arith))) (cases_eq y n)

no_element : (y : ℕ) → Contains {X = ℕ} [] y → ⊥
no_element y (k, below, is) = omega arith

-- questions that have an answer

not_later : (x : ℕ) (xs : List ℕ) (v : ℕ) → (x ≡ v → ⊥) → (Stands xs v → ⊥) → Stands (x ∷ xs) v → ⊥
not_later x xs v differ none (zero, below, is) = differ is
not_later x xs v differ none (suc k, below, is) = none (k, omega arith, is)

stands_or_not : (s : List ℕ) (v : ℕ) → Stands s v ⊎ (Stands s v → ⊥)
stands_or_not [] v = inr (λ h. omega (arith, h.1))
stands_or_not (x ∷ xs) v = ⊎_elim (λ same. inl (0, omega arith, same))
    (λ differ. ⊎_elim (λ h. inl (suc h.0, omega (arith, h.1), h.2)) (λ none. inr (not_later x xs v differ none)) (stands_or_not xs v)) (cases_eq x v)

by_role : (leaves : List Leaf) (x : ℕ) (leaf : Leaf) (r : Role) → slice_get leaves x ≡ Some leaf → leaf.role ≡ r → IsAssigned leaves x ⊎ (IsAssigned leaves x → ⊥)
by_role leaves x leaf (role.Input n) there is = inr (λ a. let other = role_of leaves x leaf there a in cc)
by_role leaves x leaf role.Clock there is = inr (λ a. let other = role_of leaves x leaf there a in cc)
by_role leaves x leaf role.Assigned there is = inl (record { leaf = leaf; there = there; is = is })
by_role leaves x leaf (role.Register n) there is = inr (λ a. let other = role_of leaves x leaf there a in cc)
by_role leaves x leaf (role.Captured n) there is = inr (λ a. let other = role_of leaves x leaf there a in cc)

by_leaf : (leaves : List Leaf) (x : ℕ) (leaf : Option Leaf) → slice_get leaves x ≡ leaf → IsAssigned leaves x ⊎ (IsAssigned leaves x → ⊥)
by_leaf leaves x (Some leaf) there = by_role leaves x leaf leaf.role there refl
by_leaf leaves x None there = inr (λ a. let other = a.there in cc)

-- Some of the assignments, each once, after all assignments that it reads.
record IsBegun (net : Net) (s : List ℕ) : Type 0 where
  only : (k : ℕ) → k < length s → IsAssigned net.leaves (slice_index s k)
  once : (j k : ℕ) → j < k → k < length s → slice_index s j ≡ slice_index s k → ⊥
  after : (k w : ℕ) → k < length s → Reads net (slice_index s k) w → IsAssigned net.leaves w → (j : ℕ) × (j < k) × (slice_index s j ≡ w)

-- A sequence that has all that stood in s, and all assignments among those asked for.
record Grown (net : Net) (s : List ℕ) (asked : ℕ → Type 0) : Type 0 where
  sequence : List ℕ
  begun : IsBegun net sequence
  kept : (v : ℕ) → Stands s v → Stands sequence v
  has : (v : ℕ) → asked v → IsAssigned net.leaves v → Stands sequence v

-- an assignment is placed after all that it reads
appended : (net : Net) (t : List ℕ) (x : ℕ) → IsBegun net t → IsAssigned net.leaves x → (Stands t x → ⊥) → ((w : ℕ) → Reads net x w → IsAssigned net.leaves w → Stands t w)
    → IsBegun net (t ++ x ∷ [])
appended net t x h a new ready = record {
  only = λ k lt. ⊎_elim (λ old. subst (IsAssigned net.leaves) (sym (push_old t x k old)) (h.only k old)) (λ last. subst (IsAssigned net.leaves) (sym (push_new t x k last)) a) (push_cases t x k lt);
  once = λ j k less lt e. ⊎_elim
      (λ old. h.once j k less old (sym (push_old t x j (omega arith)) ∙ e ∙ push_old t x k old))
      (λ last. new (j, omega arith, sym (push_old t x j (omega arith)) ∙ e ∙ push_new t x k last)) (push_cases t x k lt);
  after = λ k w lt r b. ⊎_elim
      (λ old. let at = h.after k w old (subst (λ z. Reads net z w) (push_old t x k old) r) b in
      (at.0, at.1, push_old t x at.0 (omega (arith, at.1, old)) ∙ at.2))
      (λ last. let at = ready w (subst (λ z. Reads net z w) (push_new t x k last) r) b in
      (at.0, omega (arith, at.1, last), push_old t x at.0 at.1 ∙ at.2)) (push_cases t x k lt);
}

placed : (net : Net) (s : List ℕ) (x : ℕ) → Grown net s (Reads net x) → Grown net s (λ z. x ≡ z)
placed net s x g = ⊎_elim
    (λ a. ⊎_elim (λ stands. record { sequence = g.sequence; begun = g.begun; kept = g.kept; has = λ z e b. subst (Stands g.sequence) e stands })
    (λ new. record {
      sequence = g.sequence ++ x ∷ [];
      begun = appended net g.sequence x g.begun a new g.has;
      kept = λ v h. stands_push g.sequence x v (g.kept v h);
      has = λ z e b. subst (Stands (g.sequence ++ x ∷ [])) e (stands_last g.sequence x);
    }) (stands_or_not g.sequence x))
    (λ never. record { sequence = g.sequence; begun = g.begun; kept = g.kept; has = λ z e b. absurd (never (subst (IsAssigned net.leaves) (sym e) b)) })
    (by_leaf net.leaves x (slice_get net.leaves x) refl)

-- one leaf after the other
head_or_rest : (wanted : ℕ → Type 0) (y : ℕ) (ys : List ℕ) (z : ℕ) → (y ≡ z → wanted z) → (Contains ys z → wanted z) → Contains (y ∷ ys) z → wanted z
head_or_rest wanted y ys z first rest (zero, below, is) = first is
head_or_rest wanted y ys z first rest (suc k, below, is) = rest (k, omega arith, is)

each : (net : Net) (ys : List ℕ) → ((y : ℕ) → Contains ys y → (s : List ℕ) → IsBegun net s → Grown net s (λ z. y ≡ z)) → (s : List ℕ) → IsBegun net s → Grown net s (Contains ys)
each net [] visit s h = record { sequence = s; begun = h; kept = λ v stands. stands; has = λ v c a. absurd (no_element v c) }
each net (y ∷ ys) visit s h =
    let first = visit y (0, omega arith, refl) s h in
    let rest = each net ys (λ z c. visit z (element_more y ys z c)) first.sequence first.begun in
    record {
      sequence = rest.sequence;
      begun = rest.begun;
      kept = λ v stands. rest.kept v (first.kept v stands);
      has = λ v c a. head_or_rest (Stands rest.sequence) y ys v (λ e. rest.kept v (first.has v e a)) (λ later. rest.has v later a) c;
    }

-- the leaf itself, or what it reads through others
abbrev Reaches : Net → ℕ → ℕ → Type 0
Reaches net x y = (x ≡ y) ⊎ Through net x y

visited : (net : Net) → HasNoLoop net → (n : ℕ) (rest : List ℕ) → length rest ≤ n → (x : ℕ) → ((y : ℕ) → Reaches net x y → Contains rest y)
    → (s : List ℕ) → IsBegun net s → Grown net s (λ z. x ≡ z)
visited net none zero rest short x all s h = let at = all x (inl refl) in absurd (let below : at.0 < length rest = at.1 in omega arith)
visited net none (suc n) rest short x all s h =
    let at = all x (inl refl) in
    let below : at.0 < length rest = at.1 in
    let less : length (without at.0 rest) + 1 ≡ length rest = shorter at.0 rest below in
    placed net s x (each net (direct_reads net x)
    (λ y reads. visited net none n (without at.0 rest) (omega arith) y
    (λ z reach.
    let through : Through net x z = ⊎_elim (λ same. subst (Through net x) same (itself reads)) (λ later. others reads later) reach in
    stays rest x z at (all z (inr through)) (λ same. none.none x (subst (Through net x) (sym same) through)))) s h)

reached : (net : Net) → MentionsLeaves net → (x y : ℕ) → Through net x y → y < length net.leaves
reached net mentioned x y (itself r) = mentioned x y r
reached net mentioned x y (others {b = z} r later) = reached net mentioned z y later

number_small : (n y : ℕ) → Contains (numbers n) y → y < n
unfolding numbers
number_small zero y c = absurd (no_element y c)
number_small (suc n) y c = head_or_rest (λ z. z < suc n) n (numbers n) y (λ e. omega arith) (λ later. let small = number_small n y later in omega arith) c

numbers_long : (n : ℕ) → length (numbers n) ≡ n
unfolding numbers
numbers_long zero = refl
numbers_long (suc n) = let rest = numbers_long n in omega arith

pub order_there : (net : Net) → MentionsLeaves net → HasNoLoop net → (s : List ℕ) × IsOrder net s
order_there net mentioned none =
    let count = length net.leaves in
    let long : length (numbers count) ≡ count = numbers_long count in
    let start : IsBegun net [] = record { only = λ k lt. absurd (omega arith); once = λ j k less lt e. absurd (omega arith); after = λ k w lt r b. absurd (omega arith) } in
    let g = each net (numbers count)
    (λ x c. visited net none count (numbers count) (omega arith) x
    (λ y reach. number_there count y (⊎_elim (λ same. subst (λ z. z < count) same (number_small count x c)) (λ through. reached net mentioned x y through) reach))) [] start in (
      g.sequence,
      record {
        only = g.begun.only;
        once = g.begun.once;
        after = g.begun.after;
        all = λ x a. g.has x (number_there count x (slice_get_within net.leaves x a.leaf a.there)) a;
      },
    )
