use Rattle.std.proofs.Common.{◌≡◌, drop, length}
use Rattle.phase_core.specs.Script.{published}
use Rattle.crew_workers.proofs.turns.store_part.Given as goal

abbrev pub invariant-loop-publication : goal.invariant-loop-publication
invariant-loop-publication l = record {
  many : length l.words ≡ length l.initial.words;
  rest : published (drop l.publication-index l.part) l.words ≡ published l.part l.initial.words;
}
