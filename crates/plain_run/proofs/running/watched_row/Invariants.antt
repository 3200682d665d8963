use Rattle.std.proofs.Common.{◌≡◌, take, slice_get}
use Rattle.std.specs.List.{filter_map}
use Rattle.settling_laws.specs.Runs.{row_of}
use Rattle.plain_values.specs.Sites.{valuation_of}
use Rattle.plain_run.specs.Leaves.{leaves_of_sites}
use Rattle.plain_run.proofs.running.watched_row.Given as goal

abbrev pub invariant-loop-number : goal.invariant-loop-number
invariant-loop-number l = l.row ≡ row_of (filter_map (slice_get (leaves_of_sites l.watch.sites.now)) (take l.number-index l.watch.numbers.now)) (valuation_of l.run.sites.now l.values)
