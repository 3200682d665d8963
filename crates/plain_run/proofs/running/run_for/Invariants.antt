use Rattle.std.proofs.Common.{map, take}
use Rattle.fir_meaning.specs.States.{first_state}
use Rattle.drive_check.specs.Keys.{leaf_of_key}
use Rattle.plain_cycle.specs.Given.{given_by}
use Rattle.plain_cycle.specs.Runs.{design_in, state_of}
use Rattle.plain_run.specs.Leaves.{watched_in}
use Rattle.plain_run.proofs.Leading.{Leads}
use Rattle.plain_run.proofs.running.run_for.Given as goal

abbrev pub invariant-loop-row : goal.invariant-loop-row
invariant-loop-row l =
    Leads (design_in l.run) (watched_in l.watch) first_state (map (given_by (map leaf_of_key l.run.inputs.now)) (take l.row-index l.rows)) l.outputs (state_of l.run.sites.now l.held)
