-- Ways to leaves, and values beside them.
use Rattle.std.proofs.Common.{◌≡◌, ℕ, ◌==◌, ◌&&◌, not, Bool, true, false, true≢false, List, [], ◌∷◌, Option, Some, None, if◌then◌else◌, eq-eqb, refl, sym, ap, ap₂, ◌∙◌}
use Rattle.std.proofs.lemmas.Bool.{eqb-true}
use Rattle.bit_words.specs.declared.value.Value.{Value}
use Rattle.fir_types.specs.declared.leaf.TypeLeaf.{TypeLeaf}
use Rattle.fir_types.specs.declared.leaf.PathStep.{PathStep}
use Rattle.fir_types.specs.declared.leaf.PathStep.TheVariants as step
use Rattle.fir_meaning.specs.Drives.{same_step, same_way}
use Rattle.fir_meaning.proofs.Tracking.{none_some}
use Rattle.fir_names.proofs.Graphs.{some_same}
use Rattle.drive_check.proofs.KeyTests.{way_equal}
use Rattle.plain_values.specs.declared.site.Site.{Site}
use Rattle.plain_values.specs.Sites.{is_at, beside_leaf, value_on, integer_or_zero}
use Rattle.plain_cycle.proofs.Seeing.{and_parts, path_itself}
use Rattle.plain_cycle.specs.Firsts.{first_beside, integer_beside_it}
use Rattle.plain_cycle.specs.Runs.{shown_of, shows_at, shows}

-- Tests

step_itself : (a : PathStep) → same_step a a ≡ true
step_itself (step.Field m) = eq-eqb m m refl
step_itself (step.Element m) = eq-eqb m m refl

pub way_itself : (way : List PathStep) → same_way way way ≡ true
way_itself [] = refl
way_itself (x ∷ way) = ap₂ (λ a b. a && b) (step_itself x) (way_itself way)

pub at_itself : (site : Site) → is_at site.path site.name site ≡ true
at_itself site = ap₂ (λ a b. a && b) (eq-eqb site.name site.name refl) (path_itself site.path)

-- What a leaf of a memory shows

pub shows_itself : (leaf : TypeLeaf) (port field : ℕ) (way : List PathStep) → leaf.flip ≡ false → leaf.path ≡ step.Field port ∷ step.Field field ∷ way → shows port way leaf ≡ true
shows_itself leaf port field way turned is =
    ap₂ (λ b p. not b && shows_at port way p) turned is ∙ ap₂ (λ a b. a && b) (eq-eqb port port refl) (way_itself way)

unturned : (b : Bool) → not b ≡ true → b ≡ false
unturned true e = absurd (true≢false (sym e))
unturned false e = refl

shown_at : (port : ℕ) (way path : List PathStep) → shows_at port way path ≡ true → shown_of path ≡ Some (port, way)
shown_at port way [] e = absurd (true≢false (sym e))
shown_at port way (step.Element n ∷ path) e = absurd (true≢false (sym e))
shown_at port way (step.Field p ∷ []) e = absurd (true≢false (sym e))
shown_at port way (step.Field p ∷ (step.Element n ∷ path)) e = absurd (true≢false (sym e))
shown_at port way (step.Field p ∷ (step.Field f ∷ inner)) e =
    let both = and_parts (p == port) (same_way inner way) e in
    ap₂ (λ (q : ℕ) (w : List PathStep). Some (q, w)) (eqb-true p port both.0) (way_equal inner way both.1)

pub shown_there : (leaf : TypeLeaf) (port : ℕ) (way : List PathStep) → shows port way leaf ≡ true → (leaf.flip ≡ false) × (shown_of leaf.path ≡ Some (port, way))
shown_there leaf port way e =
    let both = and_parts (not leaf.flip) (shows_at port way leaf.path) e in
    (unturned leaf.flip both.0, shown_at port way leaf.path both.1)

-- it is behind the port and one of its fields
pub shown_fields : (path : List PathStep) (port : ℕ) (way : List PathStep) → shown_of path ≡ Some (port, way) → (field : ℕ) × (path ≡ step.Field port ∷ step.Field field ∷ way)
shown_fields [] port way e = absurd (none_some e)
shown_fields (step.Element n ∷ path) port way e = absurd (none_some e)
shown_fields (step.Field p ∷ []) port way e = absurd (none_some e)
shown_fields (step.Field p ∷ (step.Element n ∷ path)) port way e = absurd (none_some e)
shown_fields (step.Field p ∷ (step.Field f ∷ inner)) port way e =
    let same : (p, inner) ≡ (port, way) = some_same e in
    (f, ap (λ (r : ℕ × List PathStep). step.Field r.0 ∷ step.Field f ∷ r.1) same)

-- Values

abbrev pub in_first : List PathStep → Option (Site × List Value) → Option Value
in_first way (Some both) = beside_leaf way both.0.leaves both.1
in_first way None = None

pub value_first : (sites : List Site) (values : List (List Value)) (path : List ℕ) (name : ℕ) (way : List PathStep)
    → value_on sites values path name way ≡ in_first way (first_beside (is_at path name) sites values)
value_first [] values path name way = refl
value_first (site ∷ sites) [] path name way = refl
value_first (site ∷ sites) (vs ∷ values) path name way = by (is_at path name site) (value_first sites values path name way)
  where
    by : (b : Bool) → value_on sites values path name way ≡ in_first way (first_beside (is_at path name) sites values)
        → (if b then beside_leaf way site.leaves vs else value_on sites values path name way) ≡ in_first way (if b then Some (site, vs) else first_beside (is_at path name) sites values)
    by true later = refl
    by false later = later

pub leaf_first : (way : List PathStep) (ls : List TypeLeaf) (vs : List Value) → integer_or_zero (beside_leaf way ls vs) ≡ integer_beside_it (first_beside (λ (l : TypeLeaf). same_way l.path way) ls vs)
leaf_first way [] vs = refl
leaf_first way (l ∷ ls) [] = refl
leaf_first way (l ∷ ls) (v ∷ vs) = by (same_way l.path way) (leaf_first way ls vs)
  where
    by : (b : Bool) → integer_or_zero (beside_leaf way ls vs) ≡ integer_beside_it (first_beside (λ (l : TypeLeaf). same_way l.path way) ls vs)
        → integer_or_zero (if b then Some v else beside_leaf way ls vs) ≡ integer_beside_it (if b then Some (l, v) else first_beside (λ (l : TypeLeaf). same_way l.path way) ls vs)
    by true later = refl
    by false later = later
