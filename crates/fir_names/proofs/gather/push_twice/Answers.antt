use Rattle.fir_types.specs.declared.name.Name.{Name}
use Rattle.fir_names.specs.Namespaces.{twice}
use Rattle.fir_names.proofs.Finding.{twice_more, held_more}
use Rattle.fir_names.proofs.gather.push_twice.Goals as goal

abbrev any_name : Name
any_name = record { id = 0; place = record { line = 0; column = 0 } }

pub loop-name-preserved : goal.loop-name-preserved
loop-name-preserved c = record {
  faults = twice_more (twice c.args.space) c.args.names.now c.loop-name.name-index any_name c.args.faults.now.items c.loop-name.faults.items c.push_unless.new.faults.items
      c.loop-name.texts.keys c.insert_full.new.self.keys c.in_ok-_index.added c.loop-name-test.true c.loop-name.invariant.faults c.loop-name.invariant.held
      c.in_ok-_index.ensures.added (rw c.twice.ensures at c.in_ok-push_unless.ensures);
  held = held_more c.args.names.now c.loop-name.name-index any_name c.loop-name.texts.keys c.insert_full.new.self.keys c.loop-name-test.true c.loop-name.invariant.held c.in_ok-_index.ensures.keys;
}
