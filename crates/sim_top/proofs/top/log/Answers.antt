use Rattle.std.proofs.Common.{inl, inr, refl}
use Rattle.sim_engine.proofs.Accepting.{fitted_well_formed}
use Rattle.sim_top.proofs.Apart.{accepted_items}
use Rattle.sim_top.proofs.Small.{few}
use Rattle.sim_top.proofs.Replying.{run_whole, run_cut, log_planned}
use Rattle.sim_top.proofs.top.log.Goals as goal

pub returns-in-Ok-clause-logged : goal.returns-in-Ok-clause-logged
returns-in-Ok-clause-logged g c = let t = c.in-Ok.ensures.logged in (t.0, t.1, run_whole _ _ _ t.2)

pub returns-in-Err-WriteFault-clause-logged : goal.returns-in-Err-WriteFault-clause-logged
returns-in-Err-WriteFault-clause-logged g c = let t = c.in-Err-WriteFault.ensures.logged in (t.0, t.1, run_cut 5 _ _ _ (inl refl) t.3)

pub returns-in-Err-NoMemory-clause-logged : goal.returns-in-Err-NoMemory-clause-logged
returns-in-Err-NoMemory-clause-logged g c = let t = c.in-Err-NoMemory.ensures.logged in (t.0, t.1, run_cut 6 _ _ _ (inr refl) t.3)

pub simulate_log-requires : goal.simulate_log-requires
simulate_log-requires g c =
    let l = c.requires.loggable in
    let b = l.is_built in (
      c.type_bounds.sync-R,
      (
        c.type_bounds.sync-G,
        record {
          formed = fitted_well_formed l.text _ b.accepted.clocked.driven.fits;
          items = accepted_items l.text _ b.accepted;
          serves = b.ordered.serves;
          planned = log_planned _ _ l;
          said = b.ordered.serves.of.is.words;
          small = few c.accepted_nets_are_small.ensures.leaves l.text _ b;
          some = c.requires.some;
          few = c.requires.most;
        },
      ),
    )
