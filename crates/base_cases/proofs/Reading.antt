-- Nets whose drivers mention only leaves below a number.
use Rattle.std.proofs.Common.{◌≡◌, ℕ, ◌<◌, List, [], ◌∷◌, ◌++◌, length, slice_get, Option, Some, None, refl, sym, subst, ap, ◌∙◌, arith, ⊎_elim, inl, inr, ◌⊎◌}
use Rattle.std.specs.List.{Contains}
use Rattle.std.proofs.lemmas.List.{get_or_append_left, get_or_push, length_push}
use Rattle.std.proofs.lemmas.Bool.{cases_lt}
use Rattle.std.proofs.lemmas.Option.{slice_get_within, slice_get-get_or, get_or_from_slice_get}
use Rattle.ground_net.specs.declared.ground.Ground.{Ground}
use Rattle.ground_net.specs.declared.net.Leaf.{Leaf}
use Rattle.ground_net.specs.declared.net.Net.{Net}
use Rattle.ground_net.specs.declared.net.Role.{Role}
use Rattle.ground_net.specs.declared.net.Role.TheVariants as role
use Rattle.ground_net.specs.Reads.{read_by, read_of, MentionsLeaves}
use Rattle.base_cases.specs.Drivers.{ReadsBelow}

nothing : (b : ℕ) (n : ℕ) → Contains [] b → b < n
nothing b n has = absurd (omega (arith, has.1))

by_role : (count : ℕ) (r : Role) (driver : Option Ground) → ReadsBelow count driver → (b : ℕ) → Contains (read_by r driver) b → b < count
by_role count role.Assigned (Some g) h b has = h b has
by_role count role.Assigned None h b has = nothing b count has
by_role count role.Clock driver h b has = nothing b count has
by_role count (role.Input n) driver h b has = nothing b count has
by_role count (role.Register n) driver h b has = nothing b count has
by_role count (role.Captured n) driver h b has = nothing b count has

by_leaf : (count : ℕ) (leaf : Option Leaf) (driver : Option (Option Ground)) → ((d : Option Ground) → driver ≡ Some d → ReadsBelow count d) → (b : ℕ) → Contains (read_of leaf driver) b → b < count
by_leaf count None driver h b has = nothing b count has
by_leaf count (Some leaf) None h b has = by_role count leaf.role None (λ x none. nothing x count none) b has
by_leaf count (Some leaf) (Some d) h b has = by_role count leaf.role d (h d refl) b has

-- each driver of a list
abbrev pub AllBelow : ℕ → List (Option Ground) → Type 0
AllBelow count drivers = (x : ℕ) (d : Option Ground) → slice_get drivers x ≡ Some d → ReadsBelow count d

pub mentions : (net : Net) (count : ℕ) → length net.leaves ≡ count → AllBelow count net.drivers → MentionsLeaves net
mentions net count long below = λ a b has.
    let lt = by_leaf count (slice_get net.leaves a) (slice_get net.drivers a) (λ d e. below a d e) b has in
    omega arith

pub more : (count : ℕ) (drivers : List (Option Ground)) (driver : Option Ground) → AllBelow count drivers → ReadsBelow count driver → AllBelow count (drivers ++ driver ∷ [])
more count drivers driver old new x d e = ⊎_elim
    (λ less. old x d (slice_get-get_or drivers x d less ∙ ap Some (sym (get_or_append_left drivers (driver ∷ []) d x less) ∙ get_or_from_slice_get (drivers ++ driver ∷ []) x d d e)))
    (λ last. subst (ReadsBelow count) (sym (get_or_push drivers driver d x last) ∙ get_or_from_slice_get (drivers ++ driver ∷ []) x d d e) new)
    (cases (slice_get_within (drivers ++ driver ∷ []) x d e))
  where
    cases : x < length (drivers ++ driver ∷ []) → (x < length drivers) ⊎ (length drivers ≡ x)
    cases lt = let long = length_push drivers driver in ⊎_elim (λ h. inl h) (λ h. let q : length drivers ≡ x = omega arith in inr q) (cases_lt x (length drivers))
