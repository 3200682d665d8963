-- What registers hold next.
use Rattle.std.proofs.Common.{◌≡◌, ℕ, false, List, [], map, ℤ, Option, Some, None, option_map, if◌then◌else◌, refl, sym, ap, ap₂, ◌∙◌, arith}
use Rattle.std.specs.Option.{unwrap_or}
use Rattle.std.proofs.lemmas.Grind.{common_steps}
use Rattle.bit_words.specs.declared.value.Value.{Value}
use Rattle.bit_words.specs.Values.{integer_of}
use Rattle.fir_types.specs.declared.fir_type.FirType.{FirType, the_lemmas}
use Rattle.fir_types.specs.declared.fir_type.Shape.TheVariants as shape
use Rattle.fir_types.specs.Bundles.{nowhere}
use Rattle.fir_types.specs.Leaves.{leaves}
use Rattle.fir_tree.specs.declared.expr.Expr.{Expr}
use Rattle.fir_tree.specs.declared.stmt.Stmt.{Stmt}
use Rattle.fir_meaning.specs.Components.{Component, Leaf}
use Rattle.fir_meaning.specs.Values.{Scene, value, whole, is_one, beside, lone}
use Rattle.fir_meaning.specs.Drives.{drives, setting, of_orientation, set_at, left_in}
use Rattle.fir_meaning.specs.States.{or_else, next_of_register}
use Rattle.drive_check.specs.declared.leaf_set.Step.{Step}
use Rattle.drive_check.specs.Keys.{step_of}
use Rattle.plain_values.specs.declared.site.Site.{Site}
use Rattle.plain_values.specs.declared.site.View.{View}
use Rattle.plain_values.specs.Sites.{site_at, scene_of_view, type_or_empty}
use Rattle.plain_values.specs.Finding.{spot_of_held}
use Rattle.plain_values.specs.declared.register.Reset.{Reset}
use Rattle.plain_values.specs.Registers.{sort_by_reset, set_next}

pub kept : (next : Option Value) (held : Value) → integer_of (unwrap_or next held) ≡ or_else (integer_of held) (option_map integer_of next)
kept (Some v) held = refl
kept None held = refl

pub next_is : (scene : Scene) (leaf : Leaf) (c : Component) (clock : Expr) (block : List Stmt) (reset : Option Reset) (held : ℤ) → c.declaration.name ≡ leaf.component → c.declaration.block ≡ block
    → or_else held (set_next scene leaf block reset) ≡ next_of_register scene c (sort_by_reset clock reset) leaf.way held
next_is scene leaf c clock block None held n b =
    ap₂ (λ m s. or_else held (drives scene (record { component = m; way = leaf.way }) s)) (sym n) (sym b)
next_is scene leaf c clock block (Some reset) held n b =
    ap₂ (λ m s. or_else held (if is_one (value reset.test.now scene)
    then left_in (record { component = m; way = leaf.way }) None (set_at false (Some (whole scene m)) (value reset.init.now scene))
    else drives scene (record { component = m; way = leaf.way }) s)) (sym n) (sym b)

no_leaves : leaves (record { place = nowhere; shape = shape.Bundle [] }) ≡ []
no_leaves = grind (arith, common_steps, the_lemmas)

pub whole_none : (view : View) (leaf : Leaf) (values : List Value) → site_at view.sites.now view.path.now leaf.component ≡ None
    → None ≡ left_in leaf None (set_at false (Some (whole (scene_of_view view) leaf.component)) values)
whole_none view leaf values none =
    sym (ap (λ o. left_in leaf None (map (setting leaf.component []) (of_orientation false (beside (lone []) (leaves (type_or_empty o)) values)))) none
    ∙ ap (λ ls. left_in leaf None (map (setting leaf.component []) (of_orientation false (beside (lone []) ls values)))) no_leaves)

pub whole_some : (view : View) (name : ℕ) (site : Site) (typ : FirType) (way : List Step) → site_at view.sites.now view.path.now name ≡ Some site → typ ≡ site.typ → way ≡ []
    → spot_of_held (record { component = name; typ = typ; way = Some way }) ≡ whole (scene_of_view view) name
whole_some view name site typ way at is e =
    ap₂ (λ t w. record { component = name; typ = t; way = Some (map step_of w) }) (is ∙ sym (ap type_or_empty at)) e
