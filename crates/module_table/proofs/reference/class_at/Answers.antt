use Rattle.std.proofs.Common.{rules}
use Rattle.type_index.specs.Sights.{table_of}
use Rattle.module_table.proofs.Leading.{leads_class}
use Rattle.module_table.proofs.reference.class_at.Goals as goal

pub returns : goal.returns
returns c =
    leads_class (table_of c.args.classes.now) c.args.noted.now.entries c.args.reference.name c.in_ok-class.class c.in_ok-noted.noted.now c.args.reference.suffixes.now
    c.class_along.result (search rules) (search rules) c.class_along.ensures
