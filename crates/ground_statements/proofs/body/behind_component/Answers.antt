use Rattle.std.proofs.Common.{◌∙◌, ◌-◌, ◌^◌, min, ap, sym, rules}
use Rattle.fir_types.specs.Leaves.{count}
use Rattle.ground_statements.proofs.Closing.{counted_behind}
use Rattle.ground_statements.proofs.body.behind_component.Goals as goal

pub returns-in_ok-behind-in-Some : goal.returns-in_ok-behind-in-Some
returns-in_ok-behind-in-Some c =
    counted_behind c.args.known.now.entries c.args.name c.args.before c.leaf_count.result c.in_ok-count-in-Some.count c.in_ok-behind-in-Some.behind c.in-Some.component.now (sym c.in-Some.ensures.value)
    (c.leaf_count.ensures ∙ ap (λ typ. min (count typ) (2 ^ 128 - 1)) c.tabled.ensures) c.in_ok-count-in-Some.ensures (search rules) c.in_ok-behind-in-Some.ensures
