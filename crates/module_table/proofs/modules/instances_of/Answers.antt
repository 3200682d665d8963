use Rattle.std.proofs.Common.{rules, sym, subst}
use Rattle.std.specs.Prelude.{All}
use Rattle.std.proofs.lemmas.List.Elements.{All-push}
use Rattle.type_index.specs.Sights.{table_of}
use Rattle.module_table.specs.declared.modules.Instance.{Instance}
use Rattle.module_table.specs.Tables.{IsInstance}
use Rattle.module_table.proofs.Indexing.{instances_more}
use Rattle.module_table.proofs.modules.instances_of.Goals as goal

pub loop-module-preserved : goal.loop-module-preserved
loop-module-preserved c =
    let one : Instance = record { known = c.in_ok-known.known; class = c.in_ok-class.class } in
    let right = IsInstance c.args.names.now (table_of c.args.classes.now) in
    let own : IsInstance c.args.names.now (table_of c.args.classes.now) one = record { ways = c.in_ok-known.ensures.ways; class = c.in_ok-class.ensures } in
    record {
      typs = instances_more c.args.modules.now c.loop-module.module-index c.module-item.result c.loop-module.instances.items c.push.new.self.items one (search rules)
          (search rules) c.loop-module.invariant.typs (search rules) (search rules);
      known = subst (All right) (sym c.in_ok-push.ensures.items) (All-push right c.loop-module.instances.items one c.loop-module.invariant.known own);
    }
