-- What rows tell.
use Rattle.std.proofs.Common.{◌≡◌, ℕ, ◌<◌, ◌≤◌, nat_lt, Bool, true, false, List, [], ◌∷◌, ◌++◌, length, slice_get, refl, sym, subst, ap, ap₂, ◌∙◌, arith, ◌⊎◌, ⊎_elim, inl, inr, Option, Some, None, append-nil, if◌then◌else◌}
use Rattle.std.specs.List.{Contains}
use Rattle.std.proofs.lemmas.Bool.Decides.{nat_tests}
use Rattle.std.proofs.lemmas.Grind.{flat_map-append}
use Rattle.std.proofs.lemmas.List.Elements.{Contains-append_left, Contains-append_right, Contains-append_cases}
use Rattle.std.proofs.lemmas.Option.{slice_get_within}
use Rattle.ground_net.specs.declared.net.Leaf.{Leaf}
use Rattle.ground_net.specs.declared.net.Role.{Role}
use Rattle.ground_net.specs.declared.net.Role.TheVariants as role
use Rattle.ground_net.specs.Reads.{IsAssigned}
use Rattle.comb_order.specs.Spreads.{is_assigned_role, is_assigned_leaf, is_assignment, assignments_among, row_at, told}
use Rattle.comb_order.proofs.Members.{none_in, first_in, later_in, cons_cases, filter_from}

-- assignments

role_assigned : (r : Role) → is_assigned_role r ≡ true → r ≡ role.Assigned
role_assigned (role.Input n) e = cc
role_assigned role.Clock e = cc
role_assigned role.Assigned e = refl
role_assigned (role.Register n) e = cc
role_assigned (role.Captured n) e = cc

pub assigned_is : (leaves : List Leaf) (x : ℕ) → is_assignment leaves x ≡ true → IsAssigned leaves x
assigned_is leaves x e = one (slice_get leaves x) refl e
  where
    one : (o : Option Leaf) → slice_get leaves x ≡ o → is_assigned_leaf o ≡ true → IsAssigned leaves x
    one (Some leaf) there e = record { leaf = leaf; there = there; is = role_assigned leaf.role e }
    one None there e = cc

pub is_assigned_test : (leaves : List Leaf) (x : ℕ) → IsAssigned leaves x → is_assignment leaves x ≡ true
is_assigned_test leaves x a = ap is_assigned_leaf a.there ∙ ap is_assigned_role a.is

pub assigned_within : (leaves : List Leaf) (x : ℕ) → IsAssigned leaves x → x < length leaves
assigned_within leaves x a = slice_get_within leaves x a.leaf a.there

-- those of the assignments among leaves are leaves
pub among_within : (leaves : List Leaf) (xs : List ℕ) (x : ℕ) → Contains (assignments_among leaves xs) x → x < length leaves
among_within leaves xs x c = assigned_within leaves x (assigned_is leaves x (filter_from (is_assignment leaves) xs x c).1)

-- rows

pub part : (n x : ℕ) → (x < n) ⊎ (n ≤ x)
part n x = by (nat_lt x n) refl
  where
    by : (b : Bool) → nat_lt x n ≡ b → (x < n) ⊎ (n ≤ x)
    by true e = inl (grind (arith, nat_tests, e))
    by false e = inr (grind (arith, nat_tests, e))

pub is_below : (n x : ℕ) → x < n → nat_lt x n ≡ true
is_below n x lt = grind (arith, nat_tests)

pub is_behind : (n x : ℕ) → n ≤ x → nat_lt x n ≡ false
is_behind n x le = grind (arith, nat_tests)

module _ (n : ℕ) (rows : List (List ℕ)) where
  -- what one number tells
  abbrev pub one : ℕ → List ℕ
  one y = if nat_lt y n then y ∷ [] else row_at rows y

  pub one_below : (y : ℕ) → y < n → one y ≡ y ∷ []
  one_below y lt = ap (λ b. if b then y ∷ [] else row_at rows y) (is_below n y lt)

  pub one_behind : (y : ℕ) → n ≤ y → one y ≡ row_at rows y
  one_behind y le = ap (λ b. if b then y ∷ [] else row_at rows y) (is_behind n y le)

  pub told_both : (xs ys : List ℕ) → told n rows (xs ++ ys) ≡ told n rows xs ++ told n rows ys
  told_both xs ys = flat_map-append one xs ys

  pub told_one : (y : ℕ) → told n rows (y ∷ []) ≡ one y
  told_one y = append-nil (one y)

  -- leaves tell themselves
  pub told_leaves : (xs : List ℕ) → ((x : ℕ) → Contains xs x → x < n) → told n rows xs ≡ xs
  told_leaves [] below = refl
  told_leaves (x ∷ xs) below =
      ap₂ (λ s t. s ++ t) (one_below x (below x (first_in x xs x refl))) (told_leaves xs (λ y c. below y (later_in x xs y c)))

  -- what is told stands in the row, or in the row of a vertex there
  pub told_of : (row : List ℕ) (y : ℕ) → Contains (told n rows row) y → (Contains row y × (y < n)) ⊎ ((r : ℕ) × (n ≤ r) × Contains row r × Contains (row_at rows r) y)
  told_of [] y c = absurd (none_in y c)
  told_of (x ∷ row) y c = ⊎_elim
      (λ here. ⊎_elim
      (λ lt. let is : x ≡ y = single x y (subst (λ s. Contains s y) (one_below x lt) here) in inl (first_in x row y is, subst (λ z. z < n) is lt))
      (λ le. inr (x, le, first_in x row x refl, subst (λ s. Contains s y) (one_behind x le) here)) (part n x))
      (λ later. ⊎_elim (λ l. inl (later_in x row y l.0, l.1)) (λ v. inr (v.0, v.1, later_in x row v.0 v.2, v.3)) (told_of row y later))
      (Contains-append_cases (one x) (told n rows row) y c)
    where
      single : (x y : ℕ) → Contains (x ∷ []) y → x ≡ y
      single x y c = ⊎_elim (λ e. e) (λ no. absurd (none_in y no)) (cons_cases x [] y c)

  pub told_leaf : (row : List ℕ) (y : ℕ) → Contains row y → y < n → Contains (told n rows row) y
  told_leaf [] y c lt = absurd (none_in y c)
  told_leaf (x ∷ row) y c lt = ⊎_elim
      (λ e. Contains-append_left (one x) (told n rows row) y (subst (λ s. Contains s y) (sym (one_below x (subst (λ z. z < n) (sym e) lt))) (first_in x [] y e)))
      (λ later. Contains-append_right (one x) (told n rows row) y (told_leaf row y later lt))
      (cons_cases x row y c)

  pub told_via : (row : List ℕ) (r y : ℕ) → n ≤ r → Contains row r → Contains (row_at rows r) y → Contains (told n rows row) y
  told_via [] r y le c d = absurd (none_in r c)
  told_via (x ∷ row) r y le c d = ⊎_elim
      (λ e. Contains-append_left (one x) (told n rows row) y
      (subst (λ s. Contains s y) (sym (one_behind x (subst (λ z. n ≤ z) (sym e) le))) (subst (λ z. Contains (row_at rows z) y) (sym e) d)))
      (λ later. Contains-append_right (one x) (told n rows row) y (told_via row r y le later d))
      (cons_cases x row r c)

-- rows that grow tell the same
pub told_same : (n : ℕ) (old new : List (List ℕ)) (xs : List ℕ) → ((y : ℕ) → Contains xs y → n ≤ y → row_at new y ≡ row_at old y) → told n new xs ≡ told n old xs
told_same n old new [] same = refl
told_same n old new (x ∷ xs) same = ap₂ (λ s t. s ++ t)
    (⊎_elim (λ lt. one_below n new x lt ∙ sym (one_below n old x lt))
    (λ le. one_behind n new x le ∙ (same x (first_in x xs x refl) le ∙ sym (one_behind n old x le))) (part n x))
    (told_same n old new xs (λ y c le. same y (later_in x xs y c) le))
