use Rattle.std.proofs.Common.{◌∙◌, sym, ap, ap₂, false, Some, None}
use Rattle.std.specs.Option.{option_copied}
use Rattle.fir_meaning.specs.Values.{value}
use Rattle.fir_meaning.specs.Drives.{set_at, left_in}
use Rattle.drive_check.specs.Keys.{leaf_of_key}
use Rattle.plain_values.specs.Sites.{scene_of_view}
use Rattle.plain_values.proofs.Nexts.{whole_none, whole_some}
use Rattle.plain_values.proofs.register.set_by_init.Goals as goal

pub returns-in_default : goal.returns-in_default
returns-in_default c =
    whole_none c.args.view.now (leaf_of_key c.args.leaf.now) (value c.args.init.now (scene_of_view c.args.view.now)) (sym c.site_at.ensures ∙ ap option_copied c.in_default.is)

pub returns : goal.returns
returns c =
    let leaf = leaf_of_key c.args.leaf.now in
    c.in_ok-set.ensures
    ∙ ap₂ (λ s vs. left_in leaf None (set_at false (Some s) vs))
    (whole_some c.args.view.now c.args.leaf.now.component c.in-Some.site.now c.in_ok-typ.typ c.new.result (sym c.site_at.ensures ∙ ap option_copied c.in-Some.is) c.in_ok-typ.ensures c.new.ensures)
    (c.as_slice.ensures ∙ c.in_ok-values.ensures)
