use Rattle.std.proofs.Common.{inl, inr, refl}
use Rattle.sim_top.proofs.Replying.{run_whole, run_cut}
use Rattle.sim_top.proofs.top.run.Goals as goal

pub returns-in-Ok-clause-ran : goal.returns-in-Ok-clause-ran
returns-in-Ok-clause-ran g c = let t = c.in-Ok.ensures.traced in (t.0, t.1, run_whole _ _ _ t.2)

pub returns-in-Err-WriteFault-clause-ran : goal.returns-in-Err-WriteFault-clause-ran
returns-in-Err-WriteFault-clause-ran g c = let t = c.in-Err-WriteFault.ensures.traced in (t.0, t.1, run_cut 5 _ _ _ (inl refl) t.3)

pub returns-in-Err-NoMemory-clause-ran : goal.returns-in-Err-NoMemory-clause-ran
returns-in-Err-NoMemory-clause-ran g c = let t = c.in-Err-NoMemory.ensures.traced in (t.0, t.1, run_cut 6 _ _ _ (inr refl) t.3)
