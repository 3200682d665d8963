use Rattle.net_run.proofs.Zeros.{first_kept}
use Rattle.net_run.proofs.beginning.begin.Goals as goal

pub returns : goal.returns
returns c =
    first_kept c.args.net.now (record { registers = c.in_ok-registers.registers; contents = c.in_ok-contents.contents; captured = c.in_ok-captured.captured }) c.in_ok-registers.ensures c.in_ok-captured.ensures
    c.in_ok-contents.ensures
