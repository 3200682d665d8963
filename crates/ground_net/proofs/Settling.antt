-- An order gives one settled valuation.
use Rattle.std.proofs.Common.{◌≡◌, ◌≢◌, ℕ, zero, suc, ◌+◌, ◌<◌, ◌≤◌, nat_lt, Bool, true, false, List, [], ◌∷◌, refl, sym, ap, ◌∙◌, arith, subst, slice_get, slice_index, length, if◌then◌else◌, ◌==◌, Option, Some, None, ◌⊎◌, inl, inr, ⊎_elim}
use Rattle.std.specs.Prelude.{Contains, pos}
use Rattle.std.proofs.lemmas.Bool.Decides.{nat_tests}
use Rattle.bit_words.specs.declared.value.Kind.TheVariants.{Unsigned}
use Rattle.bit_words.specs.declared.value.Value.{Value}
use Rattle.prim_ops.specs.Values.{fitted}
use Rattle.ground_net.specs.declared.net.Net.{Net}
use Rattle.ground_net.specs.declared.net.Leaf.{Leaf}
use Rattle.ground_net.specs.declared.net.Role.{Role}
use Rattle.ground_net.specs.declared.net.Role.TheVariants as role
use Rattle.ground_net.specs.declared.ground.Ground.{Ground}
use Rattle.ground_net.specs.Grounds.{value, mentions}
use Rattle.ground_net.specs.Reads.{IsAssigned, Reads, IsOrder, MentionsLeaves, read_by, read_of, direct_reads, driver_of}
use Rattle.ground_net.proofs.Layers.{value_agrees}
use Rattle.ground_net.specs.Cycles.{NetState, Inputs, Valuation, Settled, HasOneSettled, instant_of, fitted_to}

pub le_split : {j k : ℕ} → j ≤ k → (j < k) ⊎ (j ≡ k)
le_split {j} {k} most = by_test (nat_lt j k) refl
  where
    by_test : (b : Bool) → nat_lt j k ≡ b → (j < k) ⊎ (j ≡ k)
    by_test true e = inl (grind (arith, nat_tests))
    by_test false e = inr (grind (arith, nat_tests))

pub get_there : {A : Type 0} (xs : List A) (k : ℕ) → k < length xs → (x : A) × (slice_get xs k ≡ Some x)
get_there [] k below = absurd (omega (arith, below))
get_there (x ∷ xs) zero below = (x, refl)
get_there (x ∷ xs) (suc k) below = get_there xs k (omega (arith, below))

-- an assignment reads what its driver mentions
pub reads_mentions : (net : Net) (x : ℕ) (leaf : Leaf) (driver : Ground) → slice_get net.leaves x ≡ Some leaf → leaf.role ≡ role.Assigned → driver_of net x ≡ Some driver → direct_reads net x ≡ mentions driver
reads_mentions net x leaf driver there is d =
    ap (λ l. read_of l (slice_get net.drivers x)) there ∙ (ap (λ r. read_by r (driver_of net x)) is ∙ ap (read_by role.Assigned) d)

-- the value of a driver under two valuations that agree on what it mentions
pub driver_agrees : (net : Net) (s : NetState) (rho other : Valuation) (g : Ground) → ((y : ℕ) → Contains (mentions g) y → rho y ≡ other y)
    → value g (instant_of net s rho) ≡ value g (instant_of net s other)
driver_agrees net s rho other g h = value_agrees (instant_of net s rho) (instant_of net s other) (λ m k address. refl) g h

-- What a leaf of a role is given, where it isn't an assignment.
abbrev given_to : NetState → Inputs → Leaf → Role → Value
given_to s given leaf (role.Input n) = fitted_to leaf (given n)
given_to s given leaf (role.Register n) = fitted_to leaf (s.registers n)
given_to s given leaf (role.Captured n) = fitted_to leaf (s.captured n)
given_to s given leaf _ = fitted_to leaf (pos 0)

abbrev given_at : NetState → Inputs → Option Leaf → Value
given_at s given (Some leaf) = given_to s given leaf leaf.role
given_at s given None = fitted Unsigned 0 (pos 0)

-- before the first assignment
abbrev first : Net → NetState → Inputs → Valuation
first net s given x = given_at s given (slice_get net.leaves x)

-- the driver's value, where there is one
abbrev driven : Net → NetState → Valuation → ℕ → Option Ground → Value
driven net s rho x (Some driver) = value driver (instant_of net s rho)
driven net s rho x None = rho x

-- the valuation with one value changed
abbrev with : Valuation → ℕ → Value → Valuation
with rho x v = λ y. if y == x then v else rho y

with_same : (rho : Valuation) (x : ℕ) (v : Value) → with rho x v x ≡ v
with_same rho x v = grind (arith, nat_tests)

with_other : (rho : Valuation) (x : ℕ) (v : Value) (y : ℕ) → y ≢ x → with rho x v y ≡ rho y
with_other rho x v y n = grind (arith, nat_tests)

module _ (net : Net) (order_of : List ℕ) (order : IsOrder net order_of) (s : NetState) (given : Inputs) where
  -- The first k assignments have their drivers' values, and what is no assignment has what it is given.
  pub record IsDone (rho : Valuation) (k : ℕ) : Type 0 where
    pub outside : (x : ℕ) → (IsAssigned net.leaves x → ⊥) → rho x ≡ first net s given x
    pub done : (j : ℕ) → j < k → rho (slice_index order_of j) ≡ driven net s rho (slice_index order_of j) (driver_of net (slice_index order_of j))

  -- the value of a leaf's driver under two valuations that agree on what it reads
  driven_agrees : (rho other : Valuation) (x : ℕ) (d : Option Ground) → driver_of net x ≡ d → IsAssigned net.leaves x → ((y : ℕ) → Reads net x y → rho y ≡ other y)
      → rho x ≡ driven net s rho x d → other x ≡ rho x → other x ≡ driven net s other x d
  driven_agrees rho other x None e a h is same = refl
  driven_agrees rho other x (Some g) e a h is same =
      same ∙ (is ∙ driver_agrees net s rho other g (λ y c. h y (subst (λ ys. Contains ys y) (sym (reads_mentions net x a.leaf g a.there a.is e)) c)))

  -- what is read by one of the assignments up to the k-th isn't the k-th
  not_later : (j k y : ℕ) → j ≤ k → k < length order_of → Reads net (slice_index order_of j) y → y ≢ slice_index order_of k
  not_later j k y most below r e =
      let small : j < length order_of = omega (arith, most, below) in
      let before = order.after j y small r (subst (IsAssigned net.leaves) (sym e) (order.only k below)) in
      order.once before.0 k (omega (arith, before.1, most)) below (before.2 ∙ e)

  module _ (rho : Valuation) (k : ℕ) (below : k < length order_of) (d : IsDone rho k) where
    abbrev x : ℕ
    x = slice_index order_of k

    abbrev v : Value
    v = driven net s rho x (driver_of net x)

    abbrev later : Valuation
    later = with rho x v

    -- what is read before is kept
    kept : (j : ℕ) → j ≤ k → (y : ℕ) → Reads net (slice_index order_of j) y → rho y ≡ later y
    kept j most y r = sym (with_other rho x v y (not_later j k y most below r))

    new_driver : (g : Option Ground) → driver_of net x ≡ g → later x ≡ driven net s later x g
    new_driver None e = refl
    new_driver (Some g) e =
        let a = order.only k below in
        with_same rho x v ∙ (ap (driven net s rho x) e ∙ driver_agrees net s rho later g (λ y c. kept k (omega arith) y (subst (λ ys. Contains ys y) (sym (reads_mentions net x a.leaf g a.there a.is e)) c)))

    old_one : (j : ℕ) → j < k → later (slice_index order_of j) ≡ driven net s later (slice_index order_of j) (driver_of net (slice_index order_of j))
    old_one j less =
        let apart : slice_index order_of j ≢ x = order.once j k less below in
        driven_agrees rho later (slice_index order_of j) (driver_of net (slice_index order_of j)) refl (order.only j (omega (arith, less, below)))
        (kept j (omega (arith, less))) (d.done j less) (with_other rho x v (slice_index order_of j) apart)

    pub one_more : IsDone later (suc k)
    one_more = record {
      outside = λ y n. with_other rho x v y (λ e. n (subst (IsAssigned net.leaves) (sym e) (order.only k below))) ∙ d.outside y n;
      done = λ j less. ⊎_elim
          (λ old. old_one j old)
          (λ e. subst (λ i. later (slice_index order_of i) ≡ driven net s later (slice_index order_of i) (driver_of net (slice_index order_of i))) (sym e) (new_driver (driver_of net x) refl))
          (le_split (omega (arith, less)));
    }

  -- from the first k to all
  all_done : (n k : ℕ) (rho : Valuation) → k + n ≡ length order_of → IsDone rho k → (all : Valuation) × IsDone all (length order_of)
  all_done zero k rho e d = (rho, subst (IsDone rho) (simp_zero k e) d)
    where
      simp_zero : (k : ℕ) → k + 0 ≡ length order_of → k ≡ length order_of
      simp_zero k e = omega (arith, e)
  all_done (suc n) k rho e d =
      let below : k < length order_of = omega (arith, e) in
      let same : suc k + n ≡ length order_of = omega (arith, e) in
      all_done n (suc k) _ same (one_more rho k below d)

  -- what is done is settled
  settled_if_done : (rho : Valuation) → IsDone rho (length order_of) → Settled net s given rho
  settled_if_done rho d = record {
    inputs = λ x n leaf there is. by_role x leaf (role.Input n) there is (λ e. cc);
    clocks = λ x leaf there is. by_role x leaf role.Clock there is (λ e. cc);
    registers = λ x n leaf there is. by_role x leaf (role.Register n) there is (λ e. cc);
    captured = λ x n leaf there is. by_role x leaf (role.Captured n) there is (λ e. cc);
    assigned = λ x leaf driver there is e.
        let at = order.all x (record { leaf = leaf; there = there; is = is }) in
        subst (λ y. rho y ≡ driven net s rho y (driver_of net y)) at.2 (d.done at.0 at.1) ∙ ap (driven net s rho x) e;
  }
    where
      by_role : (x : ℕ) (leaf : Leaf) (r : Role) → slice_get net.leaves x ≡ Some leaf → leaf.role ≡ r → (r ≡ role.Assigned → ⊥) → rho x ≡ given_to s given leaf r
      by_role x leaf r there is other_role =
          d.outside x (λ a. let there_too = a.there in let same : a.leaf ≡ leaf = cc in other_role (sym is ∙ ap (λ l. l.role) (sym same) ∙ a.is))
          ∙ (ap (given_at s given) there ∙ ap (given_to s given leaf) is)

  -- there is a settled valuation
  pub one_there : (rho : Valuation) × Settled net s given rho
  one_there =
      let start : IsDone (first net s given) 0 = record { outside = λ x n. refl; done = λ j less. absurd (omega (arith, less)) } in
      let all = all_done (length order_of) 0 (first net s given) (omega arith) start in
      (all.0, settled_if_done all.0 all.1)

  -- two settled valuations agree
  module _ (mentioned : MentionsLeaves net) (drivers : (x : ℕ) → IsAssigned net.leaves x → (g : Ground) × (driver_of net x ≡ Some g)) (rho other : Valuation)
      (p : Settled net s given rho) (q : Settled net s given other) where
    leaf_agrees : (y : ℕ) (leaf : Leaf) (r : Role) → slice_get net.leaves y ≡ Some leaf → leaf.role ≡ r → (IsAssigned net.leaves y → rho y ≡ other y) → rho y ≡ other y
    leaf_agrees y leaf (role.Input n) there is h = p.inputs y n leaf there is ∙ sym (q.inputs y n leaf there is)
    leaf_agrees y leaf role.Clock there is h = p.clocks y leaf there is ∙ sym (q.clocks y leaf there is)
    leaf_agrees y leaf role.Assigned there is h = h (record { leaf = leaf; there = there; is = is })
    leaf_agrees y leaf (role.Register n) there is h = p.registers y n leaf there is ∙ sym (q.registers y n leaf there is)
    leaf_agrees y leaf (role.Captured n) there is h = p.captured y n leaf there is ∙ sym (q.captured y n leaf there is)

    module _ (k : ℕ) (below : k < length order_of) (before : (j : ℕ) → j < k → rho (slice_index order_of j) ≡ other (slice_index order_of j)) where
      abbrev at_k : ℕ
      at_k = slice_index order_of k

      read_agrees : (a : IsAssigned net.leaves at_k) (g : Ground) → driver_of net at_k ≡ Some g → (y : ℕ) → Contains (mentions g) y → rho y ≡ other y
      read_agrees a g e y c =
          let r : Reads net at_k y = subst (λ ys. Contains ys y) (sym (reads_mentions net at_k a.leaf g a.there a.is e)) c in
          let there = get_there net.leaves y (mentioned at_k y r) in
          leaf_agrees y there.0 there.0.role there.1 refl (λ b.
          let at = order.after k y below r b in
          subst (λ z. rho z ≡ other z) at.2 (before at.0 at.1))

      next_agrees : rho at_k ≡ other at_k
      next_agrees =
          let a = order.only k below in
          let g = drivers at_k a in
          p.assigned at_k a.leaf g.0 a.there a.is g.1
          ∙ (driver_agrees net s rho other g.0 (read_agrees a g.0 g.1) ∙ sym (q.assigned at_k a.leaf g.0 a.there a.is g.1))

    first_agree : (k : ℕ) → k ≤ length order_of → (j : ℕ) → j < k → rho (slice_index order_of j) ≡ other (slice_index order_of j)
    first_agree zero most j less = absurd (omega (arith, less))
    first_agree (suc k) most j less =
        let below : k < length order_of = omega (arith, most) in
        let fewer : k ≤ length order_of = omega (arith, most) in
        ⊎_elim (λ old. first_agree k fewer j old)
        (λ e. subst (λ i. rho (slice_index order_of i) ≡ other (slice_index order_of i)) (sym e) (next_agrees k below (λ i old. first_agree k fewer i old)))
        (le_split (omega (arith, less)))

    pub agree : (x : ℕ) (leaf : Leaf) → slice_get net.leaves x ≡ Some leaf → rho x ≡ other x
    agree x leaf there = leaf_agrees x leaf leaf.role there refl (λ a.
        let at = order.all x a in
        subst (λ z. rho z ≡ other z) at.2 (first_agree (length order_of) (omega arith) at.0 at.1))

pub one_settled : (net : Net) (sequence : List ℕ) → MentionsLeaves net → ((x : ℕ) → IsAssigned net.leaves x → (g : Ground) × (driver_of net x ≡ Some g)) → IsOrder net sequence
    → (s : NetState) (given : Inputs) → HasOneSettled net s given
one_settled net sequence mentioned drivers order s given = record {
  one = one_there net sequence order s given;
  only = λ rho other p q x leaf there. agree net sequence order s given mentioned drivers rho other p q x leaf there;
}
