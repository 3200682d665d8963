use Rattle.cone_cutter.proofs.Splitting.{is_split}
use Rattle.crew_run.proofs.Counts.{ok_map}
use Rattle.crew_run.proofs.crew.codes_of.Goals as goal

pub compile-requires-clause-split : goal.compile-requires-clause-split
compile-requires-clause-split c = is_split c.args.plan.now.ordered.now c.args.plan.now.watch.now c.args.plan.now.workers c.in_ok-parts.parts c.in_ok-parts.ensures

pub returns : goal.returns
returns c = ok_map c.compile.result c.compile.ensures.codes (λ codes of. (c.in_ok-parts.parts, record { is_cut = c.in_ok-parts.ensures; codes_of = of }))
