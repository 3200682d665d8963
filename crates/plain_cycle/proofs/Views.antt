-- What the module of a component sees, and what is well typed there.
use Rattle.std.proofs.Common.{◌≡◌, ℕ, ◌&&◌, Bool, true, false, List, [], ◌∷◌, map, pos, Option, Some, None, IsSome, option_map, if◌then◌else◌, refl, sym, ap, ap₂, ◌∙◌, subst}
use Rattle.std.specs.Option.{unwrap_or}
use Rattle.bit_words.specs.declared.value.Value.{Value}
use Rattle.bit_words.specs.Values.{integer_of}
use Rattle.fir_types.specs.declared.leaf.TypeLeaf.{TypeLeaf}
use Rattle.fir_types.specs.declared.leaf.PathStep.{PathStep}
use Rattle.fir_types.specs.Leaves.{leaves}
use Rattle.fir_tree.specs.declared.expr.Expr.{Expr}
use Rattle.fir_meaning.specs.Components.{Design, A_node}
use Rattle.fir_meaning.specs.Values.{Scene, scene_of, value}
use Rattle.fir_meaning.specs.WellTyped.{known_in, typed, is_typed, are_typed}
use Rattle.fir_meaning.specs.Drives.{same_way}
use Rattle.fir_meaning.specs.States.{or_else, leaf_of}
use Rattle.drive_check.specs.declared.leaf_set.LeafKey.{LeafKey}
use Rattle.drive_check.specs.Keys.{step_of, leaf_of_key}
use Rattle.plain_values.specs.declared.site.Site.{Site}
use Rattle.plain_values.specs.Sites.{beside_leaf, integer_or_zero, valuation_of, scene_at, known_at, AreNarrow}
use Rattle.settling_laws.specs.Sweeps.{integer_beside}
use Rattle.plain_cycle.specs.Held.{Kept, held_sort}
use Rattle.settling_laws.specs.Typed.{is_typed_sort, is_named}
use Rattle.settling_laws.proofs.Typing.{declared_typed}
use Rattle.plain_cycle.specs.Layouts.{Located}
use Rattle.plain_cycle.proofs.Seeing.{and_parts, scene_is, known_is, sites_narrow}
use Rattle.plain_cycle.specs.declared.run.Run.{Run}
use Rattle.plain_cycle.specs.declared.run.Part.{Part}
use Rattle.plain_cycle.specs.Runs.{IsRun, IsPart, design_in}

-- values where there may be none

pub or_nothing : (o : Option Value) (z : Value) → integer_of z ≡ pos 0 → integer_of (unwrap_or o z) ≡ integer_or_zero o
or_nothing (Some v) z e = refl
or_nothing None z e = e

pub or_else_nothing : (o : Option Value) (z : Value) → integer_of z ≡ pos 0 → integer_of (unwrap_or o z) ≡ or_else (pos 0) (option_map integer_of o)
or_else_nothing (Some v) z e = refl
or_else_nothing None z e = e

pub beside_is : (way : List PathStep) (ls : List TypeLeaf) (vs : List Value) → integer_or_zero (beside_leaf way ls vs) ≡ integer_beside way ls vs
beside_is way [] vs = refl
beside_is way (l ∷ ls) [] = refl
beside_is way (l ∷ ls) (v ∷ vs) = by (same_way l.path way) (beside_is way ls vs)
  where
    by : (b : Bool) → integer_or_zero (beside_leaf way ls vs) ≡ integer_beside way ls vs → integer_or_zero (if b then Some v else beside_leaf way ls vs) ≡ (if b then integer_of v else integer_beside way ls vs)
    by true later = refl
    by false later = later

-- what an expression has in the leaf at a way
pub node_is : (e : Expr) (own : List PathStep) (all : List TypeLeaf) (way : List PathStep) (ls : List TypeLeaf) (vs : List Value) (here there : Scene) → way ≡ own → ls ≡ all → vs ≡ value e here → here ≡ there
    → integer_or_zero (beside_leaf way ls vs) ≡ integer_beside own all (value e there)
node_is e own all way ls vs here there p q r t = beside_is way ls vs ∙ (ap₂ (λ w l. integer_beside w l vs) p q ∙ ap (integer_beside own all) (r ∙ ap (value e) t))

module _ (design : Design) (x : Located) (part : Part) (is : IsPart design x part) where
  pub path_is : part.site.now.path ≡ x.path
  path_is = ap (λ (s : Site). s.path) is.site

  pub name_is : part.site.now.name ≡ x.c.declaration.name
  name_is = ap (λ (s : Site). s.name) is.site

  pub leaves_are : part.site.now.leaves ≡ leaves x.c.typ
  leaves_are = ap (λ (s : Site). s.leaves) is.site

  pub sort_is : held_sort part.declaration.sort ≡ x.c.declaration.sort
  sort_is = ap (λ (k : Kept). k.sort) is.declared

  pub block_is : part.declaration.block.now ≡ x.c.declaration.block
  block_is = ap (λ (k : Kept). k.block) is.declared

  -- the key of a leaf of it
  pub key_is : (key : LeafKey) (leaf : TypeLeaf) → key.component ≡ part.site.now.name → map step_of key.way.items ≡ leaf.path → leaf_of_key key ≡ leaf_of x.c leaf
  key_is key leaf c w = ap₂ (λ (n : ℕ) (p : List PathStep). record { component = n; way = p }) (c ∙ name_is) w

module _ (run : Run) (ok : IsRun run) (x : Located) (part : Part) (is : IsPart (design_in run) x part) (path : List ℕ) (same : path ≡ part.site.now.path) where
  here' : path ≡ x.path
  here' = same ∙ path_is (design_in run) x part is

  pub scene_there : (values : List (List Value)) → scene_at run.sites.now values path ≡ scene_of x.m x.path (valuation_of run.sites.now values)
  scene_there values =
      ap (scene_at run.sites.now values) here' ∙ (ap (λ l. scene_at l values x.path) ok.layout.lists.sites
      ∙ (scene_is (design_in run) ok.layout.all ok.layout.are x.path x.m is.located.reached values ∙ ap (λ l. scene_of x.m x.path (valuation_of l values)) (sym ok.layout.lists.sites)))

  known_there : known_at run.sites.now path ≡ known_in x.m
  known_there = ap (known_at run.sites.now) here' ∙ (ap (λ l. known_at l x.path) ok.layout.lists.sites ∙ known_is (design_in run) ok.layout.all ok.layout.are x.path x.m is.located.reached)

  typed_there : (are_typed (known_in x.m) x.c.declaration.block ≡ true) × ((is_typed_sort (known_in x.m) x.c.declaration.sort && is_named x.c.declaration.name x.c.declaration.sort) ≡ true)
  typed_there =
      and_parts (are_typed (known_in x.m) x.c.declaration.block) (is_typed_sort (known_in x.m) x.c.declaration.sort && is_named x.c.declaration.name x.c.declaration.sort)
      (declared_typed run.fitted.now ok.well x.path x.m x.c is.located.reached is.located.declared)

  sort_there : (is_typed_sort (known_in x.m) x.c.declaration.sort ≡ true) × (is_named x.c.declaration.name x.c.declaration.sort ≡ true)
  sort_there = and_parts (is_typed_sort (known_in x.m) x.c.declaration.sort) (is_named x.c.declaration.name x.c.declaration.sort) typed_there.1

  pub block_typed : are_typed (known_at run.sites.now path) part.declaration.block.now ≡ true
  block_typed = ap₂ are_typed known_there (block_is (design_in run) x part is) ∙ typed_there.0

  pub sort_typed : is_typed_sort (known_at run.sites.now path) (held_sort part.declaration.sort) ≡ true
  sort_typed = ap₂ is_typed_sort known_there (sort_is (design_in run) x part is) ∙ sort_there.0

  pub node_typed : (e : Expr) → x.c.declaration.sort ≡ A_node e → IsSome (typed e (known_at run.sites.now path))
  node_typed e node = ap (λ k. is_typed k e) known_there ∙ (sym (ap (is_typed_sort (known_in x.m)) node) ∙ sort_there.0)

  pub named_there : is_named x.c.declaration.name x.c.declaration.sort ≡ true
  named_there = sort_there.1

pub narrow_there : (run : Run) → IsRun run → AreNarrow run.sites.now
narrow_there run ok = subst AreNarrow (sym ok.layout.lists.sites) (sites_narrow run.fitted.now ok.well ok.layout.all ok.layout.are)
