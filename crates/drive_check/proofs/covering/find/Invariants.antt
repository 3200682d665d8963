use Rattle.std.proofs.Common.{◌≡◌, ◌++◌, drop}
use Rattle.drive_check.specs.Modules.{modules_faults, faults_of}
use Rattle.drive_check.proofs.covering.find.Given as goal

abbrev pub invariant-loop-number : goal.invariant-loop-number
invariant-loop-number l = faults_of l.fn.fitted ≡ l.faults.items ++ modules_faults (drop l.number l.modules) l.rest (drop l.number l.reached)
