use Rattle.std.proofs.Common.{◌≡◌, length}
use Rattle.crew_workers.specs.Turns.{Roomy, Evaluated}
use Rattle.crew_workers.proofs.turns.evaluate_codes.Given as goal

abbrev pub invariant-loop-k : goal.invariant-loop-k
invariant-loop-k g l = record {
  room : Roomy l.codes l.effects;
  effects : Evaluated l.codes l.words l.inputs l.effects l.k;
  frame : length l.frame ≡ length l.initial.frame;
}
