use Rattle.std.proofs.Common.{◌≡◌, ◌+◌, map, drop, Some, sym, ap, ap₂, ◌∙◌, arith, if◌then◌else◌, true, false}
use Rattle.std.proofs.lemmas.Grind.{common_steps}
use Rattle.drive_check.specs.Keys.{step_of}
use Rattle.plain_values.specs.Sites.{is_at, beside_leaf, value_on}
use Rattle.plain_values.proofs.Looking.{on_more, on_next, on_past}
use Rattle.plain_values.proofs.sights.value_on.Goals as goal

pub returns-then-stands_at : goal.returns-then-stands_at
returns-then-stands_at c =
    let way = map step_of c.args.way.now in
    let sites = c.args.sites.now in
    let values = c.args.values.now in
    let path = c.args.path.now in
    let at = c.loop-at.at in
    let x = c.index-sites-at.result in
    let vs = c.index-values-at.result in
    let leaves : c.as_slice.result.now ≡ x.leaves = grind (arith, common_steps, c.as_slice.ensures, c.index-sites-at.is) in
    let held : c.as_slice-then-stands_at.result.now ≡ vs = grind (arith, common_steps, c.as_slice-then-stands_at.ensures, c.index-values-at.is) in
    let test : is_at path c.args.name x ≡ true = grind (arith, common_steps, c.stands_at.ensures, c.if-stands_at.true, c.index-sites-at.is) in
    c.value_beside.ensures ∙ (ap₂ (beside_leaf way) leaves held
    ∙ sym (c.loop-at.invariant ∙ (on_more path c.args.name way sites values at x vs (omega arith) (omega arith) c.index-sites-at.is c.index-values-at.is
    ∙ ap (λ b. if b then beside_leaf way x.leaves vs else value_on (drop (at + 1) sites) (drop (at + 1) values) path c.args.name way) test)))

pub loop-at-preserved : goal.loop-at-preserved
loop-at-preserved c =
    let test : is_at c.args.path.now c.args.name c.index-sites-at.result ≡ false = grind (arith, common_steps, c.stands_at.ensures, c.if-stands_at.false, c.index-sites-at.is) in
    c.loop-at.invariant ∙ on_next c.args.path.now c.args.name (map step_of c.args.way.now) c.args.sites.now c.args.values.now c.loop-at.at c.index-sites-at.result (omega arith) (omega arith) c.index-sites-at.is
    test

pub returns : goal.returns
returns c = sym (c.loop-at.invariant ∙ on_past c.args.path.now c.args.name (map step_of c.args.way.now) c.args.sites.now c.args.values.now c.loop-at.at (omega arith))
