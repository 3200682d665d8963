use Rattle.std.proofs.Common.{◌≡◌, map}
use Rattle.std.specs.List.{flat_map}
use Rattle.drive_check.specs.Keys.{leaf_of_key}
use Rattle.plain_cycle.proofs.Modules.{zipped}
use Rattle.plain_run.proofs.Ports.{inputs_kept}
use Rattle.plain_run.proofs.leaves.main_inputs.Given as goal

abbrev pub invariant-loop-at : goal.invariant-loop-at
invariant-loop-at l = map leaf_of_key l.inputs ≡ flat_map inputs_kept (zipped l.declared l.types l.at)
