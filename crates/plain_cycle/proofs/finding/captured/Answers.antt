use Rattle.std.proofs.Common.{◌≡◌, true, false, sym, ap, ap₂, ◌∙◌, arith}
use Rattle.std.proofs.lemmas.Grind.{common_steps}
use Rattle.plain_values.specs.Sites.{is_at}
use Rattle.plain_cycle.specs.Firsts.{first_beside, integer_beside_it}
use Rattle.plain_cycle.specs.Runs.{held_reads, shows}
use Rattle.plain_cycle.proofs.Firsts.{first_here, first_later, first_none}
use Rattle.plain_cycle.proofs.finding.captured.Goals as goal

pub returns-then-stands_at : goal.returns-then-stands_at
returns-then-stands_at c =
    let test = is_at c.args.component.0.now c.args.component.1 in
    let x = c.index-sites-at.result in
    let vs = c.index-values-at.result in
    let leaves : c.as_slice.result.now ≡ x.leaves = grind (arith, common_steps, c.as_slice.ensures, c.index-sites-at.is) in
    let held : c.as_slice-then-stands_at.result.now ≡ vs = grind (arith, common_steps, c.as_slice-then-stands_at.ensures, c.index-values-at.is) in
    let met : test x ≡ true = grind (arith, common_steps, c.stands_at.ensures, c.if-stands_at.true, c.index-sites-at.is) in
    c.read_in.ensures ∙ (ap₂ (λ l v. integer_beside_it (first_beside (shows c.args.port c.args.way.now) l v)) leaves held
    ∙ sym (ap (held_reads c.args.port c.args.way.now)
    (first_here test c.args.sites.now c.args.values.now c.loop-at.at x vs (omega arith) (omega arith) c.index-sites-at.is c.index-values-at.is met c.loop-at.invariant)))

pub loop-at-preserved : goal.loop-at-preserved
loop-at-preserved c =
    let test = is_at c.args.component.0.now c.args.component.1 in
    let met : test c.index-sites-at.result ≡ false = grind (arith, common_steps, c.stands_at.ensures, c.if-stands_at.false, c.index-sites-at.is) in
    first_later test c.args.sites.now c.args.values.now c.loop-at.at c.index-sites-at.result (omega arith) (omega arith) c.index-sites-at.is met c.loop-at.invariant

pub returns : goal.returns
returns c =
    c.nothing.ensures ∙ sym (ap (held_reads c.args.port c.args.way.now)
    (first_none (is_at c.args.component.0.now c.args.component.1) c.args.sites.now c.args.values.now c.loop-at.at (omega arith) c.loop-at.invariant))
