use Rattle.std.proofs.Common.{refl, None}
use Rattle.print_stop.proofs.Rows.{told_log, whole_text}
use Rattle.print_stop.proofs.log_laws.rows_tell_logs.Goals as goal

pub returns : goal.returns
returns c = λ design items nodes prints sound of cycle state given rows of_leaves trace.
    (_, _, told_log design items nodes prints sound of cycle None state given rows _ refl of_leaves refl trace, whole_text prints cycle rows)
