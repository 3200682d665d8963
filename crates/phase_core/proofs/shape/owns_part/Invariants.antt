use Rattle.std.proofs.Common.{◌≡◌, ℕ, ◌<◌, length}
use mathlib.Core.Option.{some}
use lib.ListN.{get_elem?}
use Rattle.phase_core.specs.declared.model.Publication.{Publication}
use Rattle.phase_core.specs.Script.{owner}
use Rattle.phase_core.proofs.shape.owns_part.Given as goal

abbrev pub invariant-loop-i : goal.invariant-loop-i
invariant-loop-i l = (k : ℕ) → k < l.i → (p : Publication) → get_elem? l.part k ≡ some p → (p.word < length l.script.first) × (owner l.script p.word ≡ l.worker)
