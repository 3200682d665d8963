use Rattle.std.proofs.Common.{arith}
use Rattle.asked_texts.specs.Commands.{Vcd}
use Rattle.sim_top.proofs.Small.{few}
use Rattle.sim_top.proofs.Judging.{no_trace, dump_unknown, dump_refused, dump_taken, vcd_no_run}
use Rattle.sim_top.proofs.judge.dump.Goals as goal

pub variables-requires-clause-seen : goal.variables-requires-clause-seen
variables-requires-clause-seen c = c.requires.1.watched

pub variables-requires-clause-few : goal.variables-requires-clause-few
variables-requires-clause-few c = few c.accepted_nets_are_small.ensures.leaves c.requires.0 c.args.built c.requires.1

pub returns-in_default-clause-judges : goal.returns-in_default-clause-judges
returns-in_default-clause-judges c = λ text b.
    let none = rw c.in_default.is at c.in_ok-numbers.ensures.unknown _ _ b.ordered.serves in
    dump_unknown _ text _ c.args.built _ _ b none c.in_ok-reply.ensures.0 c.in_ok-reply.ensures.1

pub returns-in_default-clause-fits : goal.returns-in_default-clause-fits
returns-in_default-clause-fits c = no_trace (Vcd _) _ 2 (omega arith) c.in_ok-reply.ensures.0

pub returns-in-Ok-clause-judges : goal.returns-in-Ok-clause-judges
returns-in-Ok-clause-judges c = λ text b.
    let known = rw c.in-Some.is at c.in_ok-numbers.ensures.known _ _ b.ordered.serves in
    let found = rw c.in-Some.is at c.in_ok-numbers.ensures.found in
    let takes = rw c.in-Ok.is at c.in_ok-settings.ensures.takes in
    dump_taken _ text _ c.args.built _ _ b known found (takes text b)

pub returns-in-Ok-clause-fits : goal.returns-in-Ok-clause-fits
returns-in-Ok-clause-fits c =
    let leaves = rw c.in-Some.is at c.in_ok-numbers.ensures.leaves in
    let formed = rw c.in-Ok.is at c.in_ok-settings.ensures.formed in
    (vcd_no_run _, record { text = c.requires.0; is_built = c.requires.1; formed = formed; are_leaves = leaves })

pub returns-in-Err-clause-judges : goal.returns-in-Err-clause-judges
returns-in-Err-clause-judges c = λ text b.
    let known = rw c.in-Some.is at c.in_ok-numbers.ensures.known _ _ b.ordered.serves in
    let status = rw c.in-Err.is at c.in_ok-settings.ensures.status in
    let refuses = rw c.in-Err.is at c.in_ok-settings.ensures.refuses in
    dump_refused _ text _ c.args.built _ _ b known status (refuses text b)

pub returns-in-Err-clause-fits : goal.returns-in-Err-clause-fits
returns-in-Err-clause-fits c =
    let status = rw c.in-Err.is at c.in_ok-settings.ensures.status in
    no_trace (Vcd _) _ 3 (omega arith) status
