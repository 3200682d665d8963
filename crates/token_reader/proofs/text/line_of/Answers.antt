use Rattle.std.proofs.Common.{rules, leb}
use Rattle.std.proofs.lemmas.List.Sorted.{IsPartitionPoint-from_clause}
use Rattle.token_reader.proofs.LineTables.{lines_parted, line_found}
use Rattle.token_reader.proofs.text.line_of.Goals as goal

pub returns : goal.returns
returns c = line_found c.args.text.now c.args.lines.now c.args.offset c.partition_point.result c.requires.lines c.requires.within c.partition_point.ensures.bound
    (IsPartitionPoint-from_clause (λ y. leb y c.args.offset) c.args.lines.now c.partition_point.result c.partition_point.ensures.partitioned
    (lines_parted c.args.text.now c.args.lines.now c.args.offset c.requires.lines c.requires.within) (λ a r f' k. search rules))
