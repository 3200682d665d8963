use Rattle.std.proofs.Common.{◌<◌, map, length, sym, subst, ap, ◌∙◌}
use Rattle.std.specs.Prelude.{All}
use Rattle.ground_net.specs.declared.net.PortLeaf.{PortLeaf}
use Rattle.crew_run.proofs.Counts.{ok_map}
use Rattle.crew_run.proofs.Watched.{watched_are_leaves}
use Rattle.crew_run.proofs.crew.watched_numbers.Goals as goal

pub returns-clause-leaves : goal.returns-clause-leaves
returns-clause-leaves c = ok_map c.numbers_of.result c.numbers_of.ensures
    (λ numbers e. subst (All (λ x. x < length c.args.ordered.now.net.leaves)) (sym (e ∙ ap (map (λ (p : PortLeaf). p.leaf)) (c.as_slice.ensures ∙ c.requires))) (watched_are_leaves c.args.ordered.now.net))
