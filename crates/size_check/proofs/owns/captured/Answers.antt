use Rattle.size_check.proofs.Keeping.{kept_capped}
use Rattle.size_check.proofs.owns.captured.Goals as goal

pub returns : goal.returns
returns c =
    kept_capped c.args.lines.now c.args.element.now c.read_latency_of.result c.reads_of.result c.leaf_count.result c.saturating_mul.result
    c.read_latency_of.ensures c.if-read_latency_of-ne1.false c.reads_of.ensures c.leaf_count.ensures c.saturating_mul.ensures
