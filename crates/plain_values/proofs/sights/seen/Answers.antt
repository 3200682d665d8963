use Rattle.std.proofs.Common.{◌≡◌, ◌++◌, List, [], ◌∷◌, map, sym, ap, ap₂, ◌∙◌, arith}
use Rattle.std.proofs.lemmas.Grind.{common_steps}
use Rattle.drive_check.specs.Keys.{step_of}
use Rattle.plain_values.specs.Sites.{port_in, value_on, integer_or_zero}
use Rattle.plain_values.proofs.Looking.{seen_inside, seen_own}
use Rattle.plain_values.proofs.sights.seen.Goals as goal

pub returns-in_default : goal.returns-in_default
returns-in_default c =
    let view = c.args.view.now in
    ap integer_or_zero c.value_on-own.ensures
    ∙ sym (seen_own view c.args.component c.args.way.now (ap (λ t. port_in t (map step_of c.args.way.now)) (sym c.target_at-target.ensures) ∙ (sym c.port_in.ensures ∙ c.in_default.is)))

pub returns : goal.returns
returns c =
    let view = c.args.view.now in
    let inside : c.as_slice.result.now ≡ view.path.now ++ c.args.component ∷ [] = grind (arith, common_steps) in
    ap integer_or_zero c.value_on-value.ensures
    ∙ (ap₂ (λ p w. integer_or_zero (value_on view.sites.now view.values.now p c.in-Some.port (map step_of w))) inside c.behind_first-rest.ensures
    ∙ sym (seen_inside view c.args.component c.in-Some.port c.args.way.now (ap (λ t. port_in t (map step_of c.args.way.now)) (sym c.target_at-target.ensures) ∙ (sym c.port_in.ensures ∙ c.in-Some.is))))
