use Rattle.std.proofs.Common.{◌≤◌, sym, subst}
use Rattle.cone_cutter.proofs.Splitting.{is_split}
use Rattle.crew_run.proofs.Counts.{ok_map}
use Rattle.crew_run.proofs.run.Run.start.Goals as goal

pub start_cut-requires-clause-split : goal.start_cut-requires-clause-split
start_cut-requires-clause-split c = is_split c.args.ordered.now c.args.watch.now c.args.workers c.in_ok-parts.parts c.in_ok-parts.ensures

pub start_cut-requires-clause-some : goal.start_cut-requires-clause-some
start_cut-requires-clause-some c = subst (λ n. 1 ≤ n) (sym c.in_ok-parts.ensures.count) c.requires.some

pub start_cut-requires-clause-few : goal.start_cut-requires-clause-few
start_cut-requires-clause-few c = subst (λ n. n ≤ 64) (sym c.in_ok-parts.ensures.count) c.requires.few

pub returns-clause-run : goal.returns-clause-run
returns-clause-run c = ok_map c.start_cut.result c.start_cut.ensures.run (λ run is. (c.in_ok-parts.parts, c.in_ok-parts.ensures, is))
