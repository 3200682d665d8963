-- An order leaves no loop.
use Rattle.std.proofs.Common.{◌≡◌, ℕ, ◌<◌, List, [], length, slice_index, slice_get, refl, sym, ◌∙◌, subst, arith, Option, Some, None}
use Rattle.std.specs.Prelude.{Contains}
use Rattle.ground_net.specs.declared.net.Net.{Net}
use Rattle.ground_net.specs.declared.net.Leaf.{Leaf}
use Rattle.ground_net.specs.declared.net.Role.{Role}
use Rattle.ground_net.specs.declared.net.Role.TheVariants as role
use Rattle.ground_net.specs.declared.ground.Ground.{Ground}
use Rattle.ground_net.specs.Reads.{IsAssigned, Reads, Through, itself, others, HasNoLoop, IsOrder, read_by, read_of, lone_driver}

no_reads : (y : ℕ) → Contains {X = ℕ} [] y → ⊥
no_reads y (k, below, is) = omega arith

-- who reads is an assignment
by_role : (leaves : List Leaf) (x y : ℕ) (leaf : Leaf) (r : Role) (driver : Option Ground) → slice_get leaves x ≡ Some leaf → leaf.role ≡ r → Contains (read_by r driver) y → IsAssigned leaves x
by_role leaves x y leaf (role.Input n) driver there is c = absurd (no_reads y c)
by_role leaves x y leaf role.Clock driver there is c = absurd (no_reads y c)
by_role leaves x y leaf role.Assigned driver there is c = record { leaf = leaf; there = there; is = is }
by_role leaves x y leaf (role.Register n) driver there is c = absurd (no_reads y c)
by_role leaves x y leaf (role.Captured n) driver there is c = absurd (no_reads y c)

by_leaf : (leaves : List Leaf) (x y : ℕ) (leaf : Option Leaf) (driver : Option (Option Ground)) → slice_get leaves x ≡ leaf → Contains (read_of leaf driver) y → IsAssigned leaves x
by_leaf leaves x y (Some leaf) driver there c = by_role leaves x y leaf leaf.role (lone_driver driver) there refl c
by_leaf leaves x y None driver there c = absurd (no_reads y c)

pub reader_assigned : (net : Net) (x y : ℕ) → Reads net x y → IsAssigned net.leaves x
reader_assigned net x y r = by_leaf net.leaves x y (slice_get net.leaves x) (slice_get net.drivers x) refl r

pub through_assigned : (net : Net) (x y : ℕ) → Through net x y → IsAssigned net.leaves x
through_assigned net x y (itself r) = reader_assigned net x y r
through_assigned net x y (others {b = z} r t) = reader_assigned net x z r

-- what is read through others stands before
module _ (net : Net) (s : List ℕ) (order : IsOrder net s) where
  pub before : (x y : ℕ) → Through net x y → IsAssigned net.leaves y → (k : ℕ) → k < length s → slice_index s k ≡ x → (j : ℕ) × (j < k) × (slice_index s j ≡ y)
  before x y (itself r) a k below is = order.after k y below (subst (λ z. Reads net z y) (sym is) r) a
  before x y (others {b = z} r t) a k below is =
      let next = order.after k z below (subst (λ w. Reads net w z) (sym is) r) (through_assigned net z y t) in
      let rest = before z y t a next.0 (omega (arith, next.1, below)) next.2 in
      (rest.0, omega (arith, rest.1, next.1), rest.2)

  pub no_loop : HasNoLoop net
  no_loop = record {
    none = λ x t.
        let a = through_assigned net x x t in
        let at = order.all x a in
        let again = before x x t a at.0 at.1 at.2 in
        order.once again.0 at.0 again.1 at.1 (again.2 ∙ sym at.2);
  }
