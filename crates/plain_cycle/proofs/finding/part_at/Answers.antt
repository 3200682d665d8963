use Rattle.std.proofs.Common.{◌≡◌, get_or, true, false, sym, ap, ◌∙◌, arith}
use Rattle.std.proofs.lemmas.Grind.{common_steps}
use Rattle.plain_values.specs.Sites.{is_at}
use Rattle.plain_cycle.specs.Runs.{design_in}
use Rattle.plain_cycle.proofs.Firsts.{first_later, first_none}
use Rattle.plain_cycle.proofs.Parts.{part_found, part_missing}
use Rattle.plain_cycle.proofs.finding.part_at.Goals as goal

pub loop-at-preserved : goal.loop-at-preserved
loop-at-preserved c =
    let run = c.args.run.now in
    let test = is_at c.args.path.now c.args.name in
    let met : test c.index-run-at.result ≡ false = grind (arith, common_steps, c.stands_at.ensures, c.if-stands_at.false, c.index-run-at.is) in
    first_later test run.sites.now run.declared.now c.loop-at.at c.index-run-at.result (omega arith) (omega arith) c.index-run-at.is met c.loop-at.invariant

pub returns-clause-none : goal.returns-clause-none
returns-clause-none c =
    let run = c.args.run.now in
    part_missing (design_in run) run.sites.now run.declared.now c.requires.layout c.args.path.now c.args.name
    (first_none (is_at c.args.path.now c.args.name) run.sites.now run.declared.now c.loop-at.at (omega arith) c.loop-at.invariant)

pub returns-then-stands_at-clause-some : goal.returns-then-stands_at-clause-some
returns-then-stands_at-clause-some c =
    let run = c.args.run.now in
    let at = c.loop-at.at in
    let met : is_at c.args.path.now c.args.name (get_or run.sites.now at c.index-run-at.result) ≡ true = sym c.stands_at.ensures ∙ c.if-stands_at.true in
    part_found (design_in run) run.sites.now run.declared.now c.requires.layout c.args.path.now c.args.name at _ (omega arith) (ap (get_or run.sites.now at) c.index-run-at.is)
    (ap (get_or run.declared.now at) c.index-run-at-then-stands_at.is) met
