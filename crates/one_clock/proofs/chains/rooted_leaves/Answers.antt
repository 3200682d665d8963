use Rattle.std.proofs.Common.{◌∙◌, ap, sym, subst, option_map}
use Rattle.std.proofs.lemmas.Result.{IfOk-weaker}
use Rattle.clock_check.specs.Flats.{leaf_of_flat}
use Rattle.one_clock.specs.Chains.{Finds}
use Rattle.one_clock.proofs.chains.rooted_leaves.Goals as goal

pub returns : goal.returns
returns c =
    IfOk-weaker c.search.result _ _
    (λ rooted h. subst (λ o. Finds c.args.table.now.entries c.args.places.now o rooted.keys.keys) (sym (ap (option_map leaf_of_flat) c.in-Some.is) ∙ c.in_ok-root.ensures)
    (c.in_ok-sinks.sinks.sinks.entries, c.in_ok-sinks.ensures, h))
    c.search.ensures
