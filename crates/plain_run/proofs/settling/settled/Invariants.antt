use Rattle.std.proofs.Common.{◌≡◌, map, take}
use Rattle.drive_check.specs.Keys.{leaf_of_key}
use Rattle.plain_values.specs.Sites.{valuation_of}
use Rattle.settling_laws.specs.Sweeps.{swept}
use Rattle.plain_cycle.specs.Given.{given_by}
use Rattle.plain_cycle.specs.Runs.{design_in, state_of}
use Rattle.plain_run.proofs.Counts.{leaf_count}
use Rattle.plain_run.proofs.settling.settled.Given as goal

abbrev pub invariant-loop-site : goal.invariant-loop-site
invariant-loop-site l = valuation_of l.run.sites.now l.values ≡ swept (design_in l.run) (state_of l.run.sites.now l.held) (given_by (map leaf_of_key l.run.inputs.now) l.row) (leaf_count (take l.site-index l.sites))
