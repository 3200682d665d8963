use Rattle.std.proofs.Common.{◌∙◌, ap, sym, map, arith, rules, inl, inr}
use Rattle.std.proofs.lemmas.Grind.{common_steps}
use Rattle.fir_types.specs.Leaves.{leaves}
use Rattle.fir_types.proofs.Walks.{no_leaves}
use Rattle.fir_meaning.specs.Mentions.{region_of, follow_all, suffix_onward}
use Rattle.drive_check.specs.HeldTypes.{types_in}
use Rattle.clock_check.proofs.Reaching.{region_is, reach_none}
use Rattle.clock_check.proofs.reach.reach_of.Goals as goal

pub returns-then-leaf_count-eq0 : goal.returns-then-leaf_count-eq0
returns-then-leaf_count-eq0 c =
    let types = types_in c.args.types.now in
    let region = follow_all types c.in-Ref.name.id (map suffix_onward c.as_slice-steps.result.now) in
    reach_none (region_of types c.args.expr.now) region (region_is types c.args.expr.now c.in-Ref.name c.as_slice-steps.result.now (search rules))
    (inl (ap leaves (c.part_behind.ensures types c.in-Ref.name.id (sym c.tabled-whole.ensures)) ∙ no_leaves c.part_behind.result.typ.now (grind (arith, common_steps))))

pub returns-then-leads_nowhere : goal.returns-then-leads_nowhere
returns-then-leads_nowhere c =
    let types = types_in c.args.types.now in
    let region = follow_all types c.in-Ref.name.id (map suffix_onward c.as_slice-steps.result.now) in
    reach_none (region_of types c.args.expr.now) region (region_is types c.args.expr.now c.in-Ref.name c.as_slice-steps.result.now (search rules))
    (inr (c.leads_nowhere.ensures (search rules) types c.in-Ref.name.id (sym c.tabled-whole.ensures)))
