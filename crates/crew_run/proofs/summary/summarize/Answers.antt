use Rattle.std.proofs.Common.{ℕ, ◌<◌, List, length, sym, subst}
use Rattle.std.specs.Prelude.{All}
use Rattle.crew_run.specs.Summaries.{IsSummary}
use Rattle.crew_run.proofs.Sums.{trace_some, kept_all}
use Rattle.crew_run.proofs.Watched.{watched_are_leaves}
use Rattle.crew_run.proofs.summary.summarize.Goals as goal

pub summary_of-requires : goal.summary_of-requires
summary_of-requires g c =
    let s = c.requires.serves in
    let t = c.in-Ok.ensures.traced c.requires.watched s.0 s.1 s.2 in
    let kept = kept_all _ _ t.0 c.bytes.result.now c.new-trace.ensures t.2 c.bytes.ensures in
    subst (λ (xs : List ℕ). 0 < length xs) (sym kept) (trace_some s.0 s.1 _ t.0 t.1)

pub returns-in-Ok : goal.returns-in-Ok
returns-in-Ok g c = λ texts design serves.
    let t = c.in-Ok.ensures.traced c.requires.watched texts design serves in
    let kept = kept_all _ _ t.0 c.bytes.result.now c.new-trace.ensures t.2 c.bytes.ensures in
    (t.0, t.1, subst (λ (xs : List ℕ). IsSummary xs c.in_ok-summary_of-in-Ok.field-0.items) kept c.in_ok-summary_of-in-Ok.ensures)

pub simulate-requires-clause-said : goal.simulate-requires-clause-said
simulate-requires-clause-said g c κs within = c.requires.serves.2.of.is.words

pub simulate-requires-clause-watched : goal.simulate-requires-clause-watched
simulate-requires-clause-watched g c κs within =
    let net = c.args.plan.now.ordered.now.net in
    subst (All (λ x. x < length net.leaves)) (sym c.requires.watched) (watched_are_leaves net)
