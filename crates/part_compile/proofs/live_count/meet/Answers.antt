use Rattle.std.proofs.Common.{refl}
use Rattle.part_compile.proofs.Rows.{met_free}
use Rattle.part_compile.proofs.live_count.meet.Goals as goal

pub returns : goal.returns
returns c = λ xs. met_free xs c.args.live.now _ refl refl refl
