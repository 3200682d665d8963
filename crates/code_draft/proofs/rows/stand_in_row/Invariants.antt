use Rattle.code_draft.proofs.Standing.{StandBefore}
use Rattle.code_draft.proofs.rows.stand_in_row.Given as goal

abbrev pub invariant-loop-place : goal.invariant-loop-place
invariant-loop-place l = StandBefore l.sources l.leaves l.row l.place
