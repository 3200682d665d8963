use Rattle.std.proofs.Common.{◌≡◌, slice_get, Some, sym, subst}
use Rattle.std.specs.Prelude.{OnOk}
use Rattle.ground_net.specs.Cones.{sinks}
use Rattle.cone_cutter.specs.Rows.{sink_of}
use Rattle.part_compile.specs.PartRows.{Adds}
use Rattle.part_compile.specs.Rows.{KnowsCone}
use Rattle.part_compile.specs.Telling.{EvaluatesSink}
use Rattle.part_compile.proofs.adding.add_sink.Goals as goal

pub show_leaf-requires-clause-known : goal.show_leaf-requires-clause-known
show_leaf-requires-clause-known c = subst (λ s. KnowsCone c.args.work.now.plan.now.net.now (sink_of s) c.args.work.now.sources.now) c.in-Watched.is c.requires.known

pub show_leaf-requires-clause-there : goal.show_leaf-requires-clause-there
show_leaf-requires-clause-there c = subst (λ s. slice_get (sinks c.args.work.now.plan.now.net.now c.args.work.now.plan.now.watch.now) c.args.number ≡ Some (sink_of s)) c.in-Watched.is c.requires.there

pub returns-in-Watched-clause-adds : goal.returns-in-Watched-clause-adds
returns-in-Watched-clause-adds c =
    subst (λ s. OnOk c.show_leaf.result (Adds c.args.work.now.plan.now.net.now c.args.work.now.plan.now.watch.now c.args.work.now.sources.now c.args.number (sink_of s) c.args.made.now c.show_leaf.new.made))
    (sym c.in-Watched.is) c.show_leaf.ensures.adds

pub add_register-requires-clause-known : goal.add_register-requires-clause-known
add_register-requires-clause-known c = subst (λ s. KnowsCone c.args.work.now.plan.now.net.now (sink_of s) c.args.work.now.sources.now) c.in-Register.is c.requires.known

pub add_register-requires-clause-there : goal.add_register-requires-clause-there
add_register-requires-clause-there c = subst (λ s. slice_get (sinks c.args.work.now.plan.now.net.now c.args.work.now.plan.now.watch.now) c.args.number ≡ Some (sink_of s)) c.in-Register.is c.requires.there

pub returns-in-Register-clause-adds : goal.returns-in-Register-clause-adds
returns-in-Register-clause-adds c =
    subst (λ s. OnOk c.add_register.result (Adds c.args.work.now.plan.now.net.now c.args.work.now.plan.now.watch.now c.args.work.now.sources.now c.args.number (sink_of s) c.args.made.now c.add_register.new.made))
    (sym c.in-Register.is) c.add_register.ensures.adds

pub add_memory-requires-clause-known : goal.add_memory-requires-clause-known
add_memory-requires-clause-known c = subst (λ s. KnowsCone c.args.work.now.plan.now.net.now (sink_of s) c.args.work.now.sources.now) c.in-Memory.is c.requires.known

pub add_memory-requires-clause-there : goal.add_memory-requires-clause-there
add_memory-requires-clause-there c = subst (λ s. slice_get (sinks c.args.work.now.plan.now.net.now c.args.work.now.plan.now.watch.now) c.args.number ≡ Some (sink_of s)) c.in-Memory.is c.requires.there

pub returns-in-Memory-clause-adds : goal.returns-in-Memory-clause-adds
returns-in-Memory-clause-adds c =
    subst (λ s. OnOk c.add_memory.result (Adds c.args.work.now.plan.now.net.now c.args.work.now.plan.now.watch.now c.args.work.now.sources.now c.args.number (sink_of s) c.args.made.now c.add_memory.new.made))
    (sym c.in-Memory.is) c.add_memory.ensures.adds

pub returns-in-Watched-clause-evaluates : goal.returns-in-Watched-clause-evaluates
returns-in-Watched-clause-evaluates c =
    subst (λ s. OnOk c.show_leaf.result (EvaluatesSink c.args.work.now.plan.now.net.now c.args.work.now.sources.now (sink_of s) c.args.made.now c.show_leaf.new.made))
    (sym c.in-Watched.is) c.show_leaf.ensures.shows

pub returns-in-Register-clause-evaluates : goal.returns-in-Register-clause-evaluates
returns-in-Register-clause-evaluates c =
    subst (λ s. OnOk c.add_register.result (EvaluatesSink c.args.work.now.plan.now.net.now c.args.work.now.sources.now (sink_of s) c.args.made.now c.add_register.new.made))
    (sym c.in-Register.is) c.add_register.ensures.evaluates

pub returns-in-Memory-clause-evaluates : goal.returns-in-Memory-clause-evaluates
returns-in-Memory-clause-evaluates c =
    subst (λ s. OnOk c.add_memory.result (EvaluatesSink c.args.work.now.plan.now.net.now c.args.work.now.sources.now (sink_of s) c.args.made.now c.add_memory.new.made))
    (sym c.in-Memory.is) c.add_memory.ensures.evaluates
