use Rattle.std.proofs.Common.{inl, inr, refl}
use Rattle.sim_top.proofs.Replying.{run_whole, run_cut, dump_planned}
use Rattle.sim_top.proofs.top.dump.Goals as goal

pub returns-in-Ok-clause-dumped : goal.returns-in-Ok-clause-dumped
returns-in-Ok-clause-dumped g c = λ names numbered.
    let t = c.in-Ok.ensures.dumped _ _ names c.requires.dumpable.is_built.ordered.serves c.main_name.ensures numbered in (t.0, t.1, run_whole _ _ _ t.2)

pub returns-in-Err-WriteFault-clause-dumped : goal.returns-in-Err-WriteFault-clause-dumped
returns-in-Err-WriteFault-clause-dumped g c = λ names numbered.
    let t = c.in-Err-WriteFault.ensures.dumped _ _ names c.requires.dumpable.is_built.ordered.serves c.main_name.ensures numbered in (t.0, t.1, run_cut 5 _ _ _ (inl refl) t.3)

pub returns-in-Err-NoMemory-clause-dumped : goal.returns-in-Err-NoMemory-clause-dumped
returns-in-Err-NoMemory-clause-dumped g c = λ names numbered.
    let t = c.in-Err-NoMemory.ensures.dumped _ _ names c.requires.dumpable.is_built.ordered.serves c.main_name.ensures numbered in (t.0, t.1, run_cut 6 _ _ _ (inr refl) t.3)

pub simulate_vcd-requires-clause-said : goal.simulate_vcd-requires-clause-said
simulate_vcd-requires-clause-said g c κs within = c.requires.dumpable.is_built.ordered.serves.of.is.words

pub simulate_vcd-requires-clause-planned : goal.simulate_vcd-requires-clause-planned
simulate_vcd-requires-clause-planned g c κs within = dump_planned _ _ _ c.requires.dumpable

pub simulate_vcd-requires-clause-watched : goal.simulate_vcd-requires-clause-watched
simulate_vcd-requires-clause-watched g c κs within = c.requires.dumpable.are_leaves
