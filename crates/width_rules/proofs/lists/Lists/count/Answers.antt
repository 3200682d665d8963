use Rattle.std.proofs.Common.{◌≡◌, ap, ◌∙◌}
use Rattle.std.specs.Prelude.{Some, None}
use Rattle.width_rules.specs.Lists.{ends_behind}
use Rattle.width_rules.proofs.Ends.{last_end}
use Rattle.width_rules.proofs.lists.Lists.count.Goals as goal

pub returns-in-Some : goal.returns-in-Some
returns-in-Some c =
    let ends : c.as_slice.result.now ≡ ends_behind 0 c.args.self.now = c.as_slice.ensures ∙ c.self.invariant ∙ ap (ends_behind 0) c.self.view_is in
    last_end c.args.self.now c.as_slice.result.now (Some c.in-Some.end.now) ends c.in-Some.ensures.value

pub returns-in-None : goal.returns-in-None
returns-in-None c =
    let ends : c.as_slice.result.now ≡ ends_behind 0 c.args.self.now = c.as_slice.ensures ∙ c.self.invariant ∙ ap (ends_behind 0) c.self.view_is in
    last_end c.args.self.now c.as_slice.result.now None ends c.in-None.ensures.value
