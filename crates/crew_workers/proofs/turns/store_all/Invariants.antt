use Rattle.std.proofs.Common.{◌≡◌, drop, length}
use Rattle.phase_core.specs.Script.{published_all}
use Rattle.crew_workers.specs.Turns.{parts_of}
use Rattle.crew_workers.proofs.turns.store_all.Given as goal

abbrev pub invariant-loop-one : goal.invariant-loop-one
invariant-loop-one l = record {
  many : length l.words ≡ length l.initial.words;
  rest : published_all (parts_of (drop l.one-index l.effects)) l.words ≡ published_all (parts_of l.effects) l.initial.words;
}
