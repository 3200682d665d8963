use Rattle.std.proofs.Common.{◌+◌, drop, Some, sym, ap, ◌∙◌, arith, if◌then◌else◌}
use Rattle.plain_values.specs.Sites.{site_at}
use Rattle.plain_values.proofs.Lists.{drop_past}
use Rattle.plain_values.proofs.Looking.{site_more}
use Rattle.plain_values.proofs.sights.site_at.Goals as goal

pub returns-then-stands_at : goal.returns-then-stands_at
returns-then-stands_at c =
    let sites = c.args.sites.now in
    let path = c.args.path.now in
    let k = c.loop-site.site-index in
    let x = c.site-item.result in
    sym (c.loop-site.invariant ∙ (site_more sites path c.args.name k x (omega arith) c.site-item.is
    ∙ ap (λ b. if b then Some x else site_at (drop (k + 1) sites) path c.args.name) (sym c.stands_at.ensures ∙ c.if-stands_at.true)))

pub loop-site-preserved : goal.loop-site-preserved
loop-site-preserved c =
    let sites = c.args.sites.now in
    let path = c.args.path.now in
    let k = c.loop-site.site-index in
    let x = c.site-item.result in
    c.loop-site.invariant ∙ (site_more sites path c.args.name k x (omega arith) c.site-item.is
    ∙ ap (λ b. if b then Some x else site_at (drop (k + 1) sites) path c.args.name) (sym c.stands_at.ensures ∙ c.if-stands_at.false))

pub returns : goal.returns
returns c = sym (c.loop-site.invariant ∙ ap (λ l. site_at l c.args.path.now c.args.name) (drop_past c.args.sites.now c.loop-site.site-index (omega arith)))
