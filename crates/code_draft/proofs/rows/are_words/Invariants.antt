use Rattle.std.proofs.Common.{ℕ, ◌<◌, ◌≤◌, get_or}
use Rattle.flat_code.specs.declared.instr.Location.{Location}
use Rattle.code_draft.proofs.rows.are_words.Given as goal

abbrev pub invariant-loop-index : goal.invariant-loop-index
invariant-loop-index l = (k : ℕ) (d : Location) → k < l.index-index → (get_or l.indices k d).width ≤ 64
