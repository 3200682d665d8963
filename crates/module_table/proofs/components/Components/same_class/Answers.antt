use Rattle.std.proofs.Common.{subst}
use Rattle.type_index.specs.Sights.{table_of}
use Rattle.module_table.specs.Components.{Environment}
use Rattle.module_table.specs.Leading.{AreCompared}
use Rattle.module_table.proofs.Leading.{compared_by}
use Rattle.module_table.proofs.components.Components.same_class.Goals as goal

pub returns : goal.returns
returns c =
    let inside = c.self.inside in
    subst (λ (among : Environment). AreCompared among.parts (c.args.one.name, c.args.one.suffixes.now) (c.args.other.name, c.args.other.suffixes.now) c.same.result)
    c.self.view_is
    (compared_by (table_of inside.modules.now.classes) inside.noted.entries (c.args.one.name, c.args.one.suffixes.now)
    (c.args.other.name, c.args.other.suffixes.now) c.in_ok-first.first c.in_ok-second.second c.same.result c.self.invariant c.in_ok-first.ensures c.in_ok-second.ensures
    c.same.ensures)
