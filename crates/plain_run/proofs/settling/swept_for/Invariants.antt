use Rattle.std.proofs.Common.{◌≡◌, ℕ, ◌+◌, map}
use Rattle.drive_check.specs.Keys.{leaf_of_key}
use Rattle.plain_values.specs.Sites.{valuation_of}
use Rattle.settling_laws.specs.Sweeps.{swept}
use Rattle.plain_cycle.specs.Given.{given_by}
use Rattle.plain_cycle.specs.Runs.{design_in, state_of}
use Rattle.plain_run.proofs.settling.swept_for.Given as goal

abbrev pub invariant-loop-leaf : goal.invariant-loop-leaf
invariant-loop-leaf l =
    let after = swept (design_in l.run) (state_of l.run.sites.now l.cycle.0.now) (given_by (map leaf_of_key l.run.inputs.now) l.cycle.1.now) in
    (n : ℕ) → valuation_of l.run.sites.now l.fn.before ≡ after n → valuation_of l.run.sites.now l.values ≡ after (n + l._leaf-index)
