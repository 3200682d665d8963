use Rattle.std.proofs.Common.{◌≡◌, length, vec_len, vec_items}
use Rattle.phase_core.specs.Script.{values}
use Rattle.crew_workers.specs.Scripts.{script_of, Outputs}
use Rattle.crew_workers.specs.Turns.{Roomy}
use Rattle.crew_workers.proofs.turns.run_cycles.Given as goal

abbrev pub invariant-loop-cycle : goal.invariant-loop-cycle
invariant-loop-cycle g l = record {
  many : length l.words ≡ length l.initial.words;
  words : l.words ≡ values (script_of l.team.codes.now l.initial.words l.rows) l.cycle;
  outputs : Outputs (script_of l.team.codes.now l.initial.words l.rows) l.team.codes.now l.rows l.outputs l.cycle;
  room : Roomy l.team.codes.now (vec_items l.desk.effects);
  frame : vec_len l.desk.frame ≡ vec_len l.initial.desk.frame;
}
